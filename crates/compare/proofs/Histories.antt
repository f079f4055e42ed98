-- Lists of calls that were made on a station, as histories.
use Rattle.std.proofs.Common.{◌≡◌, ℕ, zero, suc, Bool, true, false, cond, not, ◌&&◌, ◌==◌, List, [], ◌∷◌, ◌++◌}
use Rattle.std.proofs.Common.{length, filter, Some, None, Ok, Err, Option, refl, sym, ap, ap₂, ◌∙◌, subst, ◌⊎◌}
use Rattle.std.proofs.Common.{inl, inr, ⊎_elim}
use Rattle.std.proofs.lemmas.Bool.{eq-eqb}
use Rattle.std.specs.List.{flat_map}
use Rattle.labels.specs.Kind.{Kind}
use Rattle.rules.specs.Tables.{Table, published}
use Rattle.rules.specs.declared.Policy.{Ghosts as Policy}
use Rattle.machine.specs.Calls.{Input, LentCall, lent, facts, is_taken, is_input, is_some_input, misfit}
use Rattle.machine.specs.Numbers.{first_wrong, outside_limits, size_of}
use Rattle.machine.specs.Observer.{History, setup_of, end_of, inputs, struck, left_of, AllUnder, Proper}
use Rattle.machine.specs.Stations.{Station, Answer, granted, refused, fitting, Takes, Allowed, answer, after}
use Rattle.machine.specs.Stations.{after_all, memory_of, reply, effect, made, looked, shows, state_of}
use Rattle.machine.specs.Steps.{Setup, lengths, element}
use Rattle.machine.specs.declared.answers.Part.{Part}
use Rattle.machine.specs.declared.answers.Part.TheVariants.{Program, Memory, Stack, Log}
use Rattle.machine.specs.declared.answers.Refusal.TheVariants.{Limits, Length, Cell, Clearance}
use Rattle.machine.specs.declared.calls.Call.{Call}
use Rattle.machine.specs.declared.calls.Call.TheVariants.{Enter, Look}
use Rattle.machine.specs.declared.parts.Labelled.{Labelled}
use Rattle.machine.specs.declared.parts.Sizes.{Sizes}
use Rattle.sites.specs.Calls.{Sited, Does, Refuses, Says}
use Rattle.sites.specs.Sites.{Installed, Untouched, sizes_of}
use Rattle.sites.specs.declared.lending.Parts.{Parts}
use Rattle.sites.specs.declared.replies.Reply.{Reply}
use Rattle.sites.specs.declared.replies.Reply.TheVariants as told
use Rattle.compare.specs.Runs.{Meets, Plays, over, next, RunsTo, says_made, stands, replied, counts, inputs_of}
use Rattle.compare.specs.Runs.{lens_of, calls_made, history}
use Rattle.compare.specs.declared.exchanges.Exchange.{Exchange}
use Rattle.compare.specs.declared.exchanges.Lent.{Lent}
use Rattle.compare.specs.declared.exchanges.Lent.TheVariants.{Own, Others}
use Rattle.compare.specs.declared.plans.Plan.{Plan}
use Rattle.compare.specs.declared.plans.Ran.{Ran}

true_or_not : (b : Bool) → (b ≡ true) ⊎ (b ≡ true → ⊥)
true_or_not true = inl refl
true_or_not false = inr (λ e. cc e)

-- Parts as long as when the station was made are refused for no length.
own_size : (sizes : Sizes) (part : Part) → (size_of sizes part == size_of sizes part) ≡ true
own_size sizes part = eq-eqb (size_of sizes part) (size_of sizes part) refl

own_sizes : (sizes : Sizes) (parts : List Part)
    → first_wrong (λ part. size_of sizes part == size_of sizes part) parts ≡ None
own_sizes sizes [] = refl
own_sizes sizes (part ∷ parts) =
    ap (λ b. cond b (first_wrong (λ p. size_of sizes p == size_of sizes p) parts) (Some part)) (own_size sizes part)
    ∙ own_sizes sizes parts

module _ {L : Type 0} where
  own_fits : (sizes : Sizes) (call : Call L) → misfit sizes call sizes ≡ None
  own_fits sizes call = own_sizes sizes (facts call).handed

  -- A reply that says an answer says that the call was made.
  said_made : (r : Reply L) (a : Answer L) (left : Station L) → Says r a left → says_made r ≡ true
  said_made (told.NotTaken state) a left says = absurd says
  said_made told.NotLent a left says = absurd says
  said_made r a left says = refl

  -- and, where it is not refused for a part, that it stands.
  said_stands : (r : Reply L) (a : Answer L) (left : Station L) → ((part : Part) → (a ≡ refused (Length part)) → ⊥)
      → Says r a left → stands r ≡ true
  said_stands (told.Refused (Length part)) a left never says = absurd (never part says)
  said_stands (told.Refused why) a left never says = refl
  said_stands (told.NotTaken state) a left never says = absurd says
  said_stands told.NotLent a left never says = absurd says
  said_stands r a left never says = refl

  -- What is left of the inputs that a call stands for, if it stands.
  some_or_none : (is : List (Input L)) → is ≡ cond (is_some_input is) is []
  some_or_none [] = refl
  some_or_none (i ∷ is) = refl

module _ {L : Type 0} (kind : Kind L) (setup : Setup L) (table : Table L) where
  -- No call that is handed the right parts is refused for one.
  enter_fits : (memory : List (Labelled L)) (cell : ℕ) (part : Part)
      → element {B = Answer L} memory cell (refused Cell) (λ _. granted) ≡ refused (Length part) → ⊥
  enter_fits [] cell part e = cc e
  enter_fits (v ∷ memory) zero part e = cc e
  enter_fits (v ∷ memory) (suc cell) part e = enter_fits memory cell part e

  shown_fits : (clearance : L) (v : Labelled L) (part : Part) → looked kind clearance v ≡ refused (Length part) → ⊥
  shown_fits clearance v part = by_test (kind.below v.label clearance)
    where
      by_test : (b : Bool) → cond b (shows v) (refused Clearance) ≡ refused (Length part) → ⊥
      by_test true e = cc e
      by_test false e = cc e

  look_fits : (memory : List (Labelled L)) (cell : ℕ) (clearance : L) (part : Part)
      → element memory cell (refused Cell) (looked kind clearance) ≡ refused (Length part) → ⊥
  look_fits [] cell clearance part e = cc e
  look_fits (v ∷ memory) zero clearance part e = shown_fits clearance v part e
  look_fits (v ∷ memory) (suc cell) clearance part e = look_fits memory cell clearance part e

  reply_fits : (st : Station L) (call : Call L) (part : Part)
      → reply kind setup table st call ≡ refused (Length part) → ⊥
  reply_fits st (Enter cell v) part e = enter_fits (memory_of st) cell part e
  reply_fits st (Look cell clearance) part e = look_fits (memory_of st) cell clearance part e
  reply_fits st call part e = cc e

  own_answer : (st : Station L) (call : Call L)
      → answer kind setup st (lent call setup.sizes table) ≡ reply kind setup table st call
  own_answer st call = ap (λ w. fitting w (λ part. refused (Length part)) (reply kind setup table st call))
      (own_fits setup.sizes call)

module _ {L : Type 0} (kind : Kind L) where
  module _ (setup : Setup L) where
    -- A call of a list that was not made, or that was.
    pub data Met (st : Station L) (e : Exchange L) (left : Station L) : Type 0 where
      unmade : replied says_made e.reply ≡ false → counts e ≡ false → left ≡ st → Met st e left
      was_made : (lens : Sizes) → lens ≡ lens_of setup.sizes e.lent → replied says_made e.reply ≡ true → Takes st e.call
          → left ≡ after kind setup st (lent e.call lens (published kind))
          → left_of setup.sizes (lent e.call lens (published kind)) ≡ cond (counts e) (inputs_of e) [] → Met st e left

    -- What a list of calls comes to, as a history.
    pub record Lived (st : Station L) (es : List (Exchange L)) (left : Station L) : Type 0 where
      pub ends : left ≡ after_all kind setup st (calls_made kind setup.sizes es)
      pub allowed : Allowed kind setup st (calls_made kind setup.sizes es)
      pub under : AllUnder kind (published kind) (calls_made kind setup.sizes es)
      pub inputs_are : struck setup.sizes (calls_made kind setup.sizes es) ≡ flat_map inputs_of (filter counts es)

    lived_none : (st : Station L) → Lived st [] st
    lived_none st = record { ends = refl; allowed = tt; under = tt; inputs_are = refl }

    -- the inputs of a list with one call more, which counts or does not
    inputs_more : (e : Exchange L) (es : List (Exchange L)) (b : Bool) → counts e ≡ b
        → cond b (inputs_of e) [] ++ flat_map inputs_of (filter counts es) ≡ flat_map inputs_of (filter counts (e ∷ es))
    inputs_more e es true counted =
        ap (λ b. flat_map inputs_of (cond b (e ∷ filter counts es) (filter counts es))) (sym counted)
    inputs_more e es false counted =
        ap (λ b. flat_map inputs_of (cond b (e ∷ filter counts es) (filter counts es))) (sym counted)

    lived_more : {st between left : Station L} (e : Exchange L) (es : List (Exchange L)) → Met st e between
        → Lived between es left → Lived st (e ∷ es) left
    lived_more {st} {between} {left} e es (unmade never uncounted same) lived = record {
      ends = rw never (subst (λ s. left ≡ after_all kind setup s (calls_made kind setup.sizes es)) same lived.ends);
      allowed = rw never (subst (λ s. Allowed kind setup s (calls_made kind setup.sizes es)) same lived.allowed);
      under = rw never lived.under;
      inputs_are = rw (never, uncounted) lived.inputs_are;
    }
    lived_more {st} {between} {left} e es (was_made lens is replied_made takes leaves left_is) lived = record {
      ends = rw (replied_made, ← is)
          (subst (λ s. left ≡ after_all kind setup s (calls_made kind setup.sizes es)) leaves lived.ends);
      allowed = rw (replied_made, ← is)
          (takes, subst (λ s. Allowed kind setup s (calls_made kind setup.sizes es)) leaves lived.allowed);
      under = rw replied_made (λ _ _. refl, lived.under);
      inputs_are = rw (replied_made, ← is)
          (ap₂ (λ xs ys. xs ++ ys) left_is lived.inputs_are ∙ inputs_more e es (counts e) refl);
    }

    -- The call is made or not as its reply says.
    module _ (st left : Station L) (call : Call L) (r : Reply L) (left' : Sited L) (is : left'.station ≡ left) where
      abbrev pub site : Sited L
      site = record { setup = setup; station = st }

      -- It is lent the station's own parts,
      pub own_met : (True : Table L → Type 0) → True (published kind) → Does kind True site call left' r
          → Met st (record { call = call; lent = Own; reply = Some r }) left
      own_met True true_to does = ⊎_elim
          (λ takes.
          let obeys = does.taken (published kind) (λ _. true_to) takes in
          let standing = said_stands r _ left'.station
          (λ part e. reply_fits kind setup (published kind) st call part
          (sym (own_answer kind setup (published kind) st call) ∙ e)) obeys.says in
          was_made setup.sizes refl (said_made r _ _ obeys.says) takes (sym is ∙ obeys.leaves)
          (ap (λ w. fitting w (λ _. []) (facts call).inputs) (own_fits setup.sizes call)
          ∙ some_or_none (facts call).inputs
          ∙ ap (λ b. cond (b && is_input call) (facts call).inputs []) (sym standing)))
          (λ never.
          let declines = does.declined never in
          unmade (ap says_made declines.says) (ap (λ x. stands x && is_input call) declines.says)
          (sym is ∙ ap (λ s. s.station) declines.kept))
          (true_or_not (is_taken call (state_of st)))

      -- or others.
      module _ (parts parts' : Parts L) (untouched : Untouched parts parts')
          (refuses : Refuses site (sizes_of parts) call left' r) where
        same_sizes : sizes_of parts ≡ sizes_of parts'
        same_sizes = ap lengths (sym untouched)

        abbrev pub told_exchange : Exchange L
        told_exchange = record { call = call; lent = Others parts'; reply = Some r }

        same_station : left ≡ st
        same_station = sym is ∙ ap (λ s. s.station) refuses.kept

        by_part : Takes st call → (first : Option Part) → misfit setup.sizes call (sizes_of parts) ≡ first
            → Met st told_exchange left
        by_part takes None none =
            let is_reply = refuses.not_lent takes none in
            unmade (ap says_made is_reply) (ap (λ x. stands x && is_input call) is_reply) same_station
        by_part takes (Some part) wrong =
            let is_reply = refuses.refused_for part takes wrong in
            was_made (sizes_of parts) same_sizes (ap says_made is_reply) takes
            (same_station ∙ sym (ap (λ w. fitting w (λ _. st) (effect kind setup (published kind) st call)) wrong))
            (ap (λ w. fitting w (λ _. []) (facts call).inputs) wrong
            ∙ ap (λ x. cond (stands x && is_input call) (facts call).inputs []) (sym is_reply))

        pub others_met : Met st told_exchange left
        others_met = ⊎_elim
            (λ takes. by_part takes (misfit setup.sizes call (sizes_of parts)) refl)
            (λ never. let is_reply = refuses.declined never in unmade (ap says_made is_reply)
            (ap (λ x. stands x && is_input call) is_reply) same_station)
            (true_or_not (is_taken call (state_of st)))

module _ {P L : Type 0} (kind : Kind L) (policy : Policy P L) where
  met_by : (before left : Installed P L) (call : Call L) (lent lent' : Lent L) (r : Reply L)
      → policy.faithful before.policy (published kind)
      → Meets kind policy before call lent left lent' r
      → Met kind before.sited.setup before.sited.station
      (record { call = call; lent = lent'; reply = Some r }) left.sited.station
      × (left.sited.setup ≡ before.sited.setup) × policy.faithful left.policy (published kind)
  met_by before left call Own Own r true_to meets = (
    own_met kind before.sited.setup before.sited.station left.sited.station call r left.sited refl
        (policy.faithful before.policy) true_to meets.0,
    meets.0.setup_kept,
    meets.1 (published kind) true_to,
  )
  met_by before left call (Others parts) (Others parts') r true_to meets = (
    others_met kind before.sited.setup before.sited.station left.sited.station call r left.sited refl parts
        parts' meets.1 meets.0,
    ap (λ s. s.setup) meets.0.kept,
    subst (λ p. policy.faithful p (published kind)) (sym meets.2) true_to,
  )
  met_by before left call Own (Others parts') r true_to meets = absurd meets
  met_by before left call (Others parts) Own r true_to meets = absurd meets

  -- Played on a site under a policy that is true to the published rows, a list of calls is lived.
  pub lived : {site left : Installed P L} {asked told : List (Exchange L)}
      → policy.faithful site.policy (published kind) → Plays kind policy site asked told left
      → Lived kind site.sited.setup site.sited.station told left.sited.station × (left.sited.setup ≡ site.sited.setup)
  lived true_to over = (lived_none kind _ _, refl)
  lived {site} {left} true_to (next {between = between} {asked = e} {told = e'}
      {more_told = more_told} exchanged plays) =
      let met = met_by site between e.call e.lent e'.lent exchanged.reply true_to exchanged.meets in
      let is : e' ≡ record { call = e.call; lent = e'.lent; reply = Some exchanged.reply } =
      ap₂ (λ c r. record { call = c; lent = e'.lent; reply = r }) exchanged.same_call exchanged.kept in
      let rest = lived met.2 plays in (
        lived_more kind site.sited.setup e' more_told
            (subst (λ x. Met kind site.sited.setup site.sited.station x between.sited.station) (sym is) met.0)
            (subst (λ s. Lived kind s between.sited.station more_told left.sited.station) met.1 rest.0),
        rest.1 ∙ met.1,
      )

-- What a history of calls that were made came to.
pub record Past {L : Type 0} (kind : Kind L) (h : History L) (es : List (Exchange L)) (left : Sited L) : Type 0 where
  pub proper : Proper kind (published kind) h
  pub ends : left.station ≡ end_of kind h
  pub setup_is : left.setup ≡ setup_of h
  pub inputs_are : inputs h ≡ flat_map inputs_of (filter counts es)

-- a station that was made
made_is : {L : Type 0} (memory : List (Labelled L)) (wrong : Option Part) (st : Station L)
    → fitting wrong (λ part. Err (Limits part)) (Ok (made memory)) ≡ Ok st → st ≡ made memory
made_is memory None st same = cc same
made_is memory (Some part) st same = cc same

-- A plan that was run under a policy that is true to the published rows left what its history comes to.
pub past : {P L : Type 0} (kind : Kind L) (policy : Policy P L) (plan : Plan P L) (ran : Ran P L)
    → policy.faithful plan.policy (published kind)
    → RunsTo kind policy plan (Ok ran)
    → Past kind (history kind plan.parts ran.exchanges.items) ran.exchanges.items ran.site.sited
past kind policy plan ran true_to runs =
    let h = history kind plan.parts ran.exchanges.items in
    let site = runs.0 in
    let installs = runs.1 in
    let starts : site.sited.station ≡ made plan.parts.memory.items =
    made_is plan.parts.memory.items (outside_limits (setup_of h).sizes) site.sited.station installs.0 in
    let setup_is : site.sited.setup ≡ setup_of h = sym installs.1 in
    let went = lived kind policy (subst (λ p. policy.faithful p (published kind)) (sym installs.2) true_to) runs.2 in
    let life : Lived kind (setup_of h) (made plan.parts.memory.items) ran.exchanges.items ran.site.sited.station
    = subst (λ s. Lived kind s (made plan.parts.memory.items) ran.exchanges.items ran.site.sited.station) setup_is
    (subst (λ st. Lived kind site.sited.setup st ran.exchanges.items ran.site.sited.station) starts went.0) in record {
      proper = (life.allowed, life.under);
      ends = life.ends;
      setup_is = went.1 ∙ setup_is;
      inputs_are = life.inputs_are;
    }
