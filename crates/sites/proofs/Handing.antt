-- Calls of a station that is handed its own parts, or parts of other lengths.
use Rattle.std.proofs.Common.{◌≡◌, ℕ, List, length, true, Some, None, Ok, Err}
use Rattle.std.proofs.Common.{Option, Result, refl, sym, ap, ◌∙◌, subst, inl, inr}
use Rattle.std.proofs.lemmas.Bool.{eq-eqb}
use Rattle.std.proofs.lemmas.List.{with_items_is}
use Rattle.std.specs.Vec.{with_items}
use Rattle.labels.specs.Kind.{Kind}
use Rattle.rules.specs.Tables.{Table}
use Rattle.rules.specs.declared.Policy.{Ghosts as Policy}
use Rattle.machine.specs.Calls.{LentCall, lent, facts, misfit}
use Rattle.machine.specs.Stations as stations
use Rattle.machine.specs.Stations.{Station, Answer, refused, Takes, fitting, effect}
use Rattle.machine.specs.Steps.{Setup, Contents, lengths}
use Rattle.machine.specs.declared.answers.Part.{Part}
use Rattle.machine.specs.declared.answers.Refusal.{Refusal}
use Rattle.machine.specs.declared.answers.Refusal.TheVariants.{Length}
use Rattle.machine.specs.declared.calls.Call.{Call}
use Rattle.machine.specs.declared.calls.Call.TheVariants.{Enter, Look, Start, Go, NextCommand}
use Rattle.machine.specs.declared.calls.State.{State}
use Rattle.machine.specs.declared.parts.Labelled.{Labelled}
use Rattle.machine.specs.declared.parts.Sizes.{Sizes}
use Rattle.steps.specs.Operations.{with_memory, with_log}
use Rattle.station.specs.Calls.{Performs, Serves, answered}
use Rattle.station.specs.Goes.{Goes}
use Rattle.station.specs.Views.{made_as, made_sizes, station_with, idle_with, running_with, IsIn}
use Rattle.station.specs.declared.any.Station.{Station as StationCode}
use Rattle.station.specs.declared.any.Station.TheVariants as state
use Rattle.station.specs.declared.idle.Idle.{Idle}
use Rattle.station.specs.declared.running.Gone.{Gone}
use Rattle.station.specs.declared.running.Refused.{Refused}
use Rattle.station.specs.declared.running.Running.{Running}
use Rattle.station.proofs.Fitting.{not_as_made}
use Rattle.sites.specs.Calls.{Says}
use Rattle.sites.specs.Sites.{held, sited, Lends, Hands, Unasked}
use Rattle.sites.specs.declared.lending.Parts.{Parts}
use Rattle.sites.specs.declared.replies.Reply.{Reply}
use Rattle.sites.specs.declared.replies.Reply.TheVariants as reply

module _ {L : Type 0} (kind : Kind L) (TrueTo : Table L → Type 0) {before left : StationCode L}
    {parts parts' : Contents L} {call : Call L} {reply : Reply L} where
  -- A call that the state takes, with the answer and the station that are defined.
  pub lends_taken : {given : Answer L} → made_sizes before ≡ lengths parts → Takes (station_with before parts) call
      → ((table : Table L) → ((facts call).asks ≡ true → TrueTo table)
      → Performs kind (made_as parts.program (made_sizes before)) (station_with before parts)
      (lent call (lengths parts) table) given (station_with left parts'))
      → Says reply given (station_with left parts')
      → (sited left parts').setup ≡ (sited before parts).setup
      → made_sizes left ≡ lengths parts'
      → Lends kind TrueTo parts parts' before call (left, reply)
  lends_taken {given} made takes performs says setup_kept as_made = record {
    does = record {
      taken = λ table counting _.
          let performed : Performs kind (sited before parts).setup (station_with before parts)
          (lent call (made_sizes before) table) given (station_with left parts')
          = subst
          (λ lens.
          Performs kind (sited before parts).setup (station_with before parts)
          (lent call lens table) given (station_with left parts'))
          (sym made) (performs table counting) in
          record {
            says = subst (λ a. Says reply a (station_with left parts')) performed.answers says;
            leaves = performed.leaves;
          };
      declined = λ no. absurd (no takes);
      setup_kept = setup_kept;
    };
    as_made = as_made;
  }

-- What comes of a call whatever its policy comes of it under a policy that is true to these tables.
pub any_policy : {L : Type 0} (kind : Kind L) (TrueTo : Table L → Type 0) {before : StationCode L}
    {parts parts' : Contents L} {call : Call L} {result : StationCode L × Reply L}
    → Hands kind (λ _. Unit {0}) parts parts' before call result → Hands kind TrueTo parts parts' before call result
any_policy kind TrueTo hands = record {
  lends = λ made.
      let lends = hands.lends made in
      let does = lends.does in record {
        does = record {
          taken = λ table _. does.taken table (λ _. tt);
          declined = does.declined;
          setup_kept = does.setup_kept;
        };
        as_made = lends.as_made;
      };
  refuses = hands.refuses;
}

module _ {L : Type 0} (kind : Kind L) (setup : Setup L) (before left : Station L)
    (made : LentCall L) (part : Part) (wrong : misfit setup.sizes made.call made.lens ≡ Some part)
  where
    -- A call for which a part is wrong is refused for that part,
    pub refused_for : {A : Type 0} (says : A → Answer L) (r : Result A Refusal)
        → ((x : A) → (says x ≡ refused (Length part)) → ⊥)
        → Performs kind setup before made (answered says r) left → r ≡ Err (Length part)
    refused_for says (Ok x) never performs =
        absurd
        (never x
        (performs.answers
        ∙ ap
        (λ w.
        fitting w (λ p. refused (Length p)) (stations.reply kind setup made.table before made.call))
        wrong))
    refused_for says (Err why) never performs =
        let same : refused why ≡ refused (Length part) =
        performs.answers
        ∙ ap
        (λ w.
        fitting w (λ p. refused (Length p))
        (stations.reply kind setup made.table before made.call))
        wrong in
        ap Err (cc same)

    -- and changes nothing.
    pub kept_when_wrong : {given : Answer L} → Performs kind setup before made given left → left ≡ before
    kept_when_wrong performs =
        performs.leaves
        ∙ ap (λ w. fitting w (λ _. before) (effect kind setup made.table before made.call)) wrong

-- A call that asks no policy and leaves the station's state, answered by a result: what the station serves is
-- handed on.
module _ {L A : Type 0} (kind : Kind L) (st : StationCode L) (parts parts' : Contents L)
    (call : Call L) (says : A → Answer L) where
  pub kept_hands : (r : Result A Refusal) (given : Reply L)
      → parts'.program ≡ parts.program → lengths parts' ≡ lengths parts
      → Takes (station_with st parts) call
      → ((table : Table L)
      → Performs kind (made_as parts.program (made_sizes st)) (station_with st parts)
      (lent call (lengths parts) table) (answered says r) (station_with st parts'))
      → Says given (answered says r) (station_with st parts')
      → ((part : Part) (x : A) → (says x ≡ refused (Length part)) → ⊥)
      → ((why : Refusal) → r ≡ Err why → given ≡ reply.Refused why)
      → (station_with st parts' ≡ station_with st parts → parts' ≡ parts)
      → Hands kind (λ _. Unit {0}) parts parts' st call (st, given)
  kept_hands r given programs same takes performs said never told untouched = record {
    lends =
        λ made.
        lends_taken kind (λ _. Unit {0}) made takes (λ table _. performs table) said
        (ap (λ p. made_as p (made_sizes st)) programs) (made ∙ sym same);
    refuses = λ part _ wrong. (
      ap (λ x. (st, x)) (told _ (refused_for kind _ _ _ _ part wrong says r (never part) (performs (λ _. None)))),
      untouched (kept_when_wrong kind _ _ _ _ part wrong (performs (λ _. None))),
    );
  }

module _ {L : Type 0} (kind : Kind L) (idle : Idle L) (parts : Contents L) where
  pub started : (running : Running L)
      → Serves kind idle.sizes Start (idle_with idle) (λ rest. rest) (running_with running)
      (λ rest. rest) stations.granted
      → running.sizes ≡ idle.sizes
      → Hands kind (λ _. Unit {0}) parts parts (state.Idle idle) Start (state.Running running, reply.Started)
  started running serves kept = record {
    lends =
        λ made.
        lends_taken kind (λ _. Unit {0}) made refl (λ table _. serves parts table) (refl, refl)
        (ap (made_as parts.program) kept) (kept ∙ made);
    refuses = λ part _ wrong. cc wrong;
  }

-- Parts as long as when the station was made are refused for no length.
pub all_as_made : (s : Sizes) → not_as_made s s ≡ None
all_as_made s =
    rw (
      eq-eqb s.program s.program refl,
      eq-eqb s.memory s.memory refl,
      eq-eqb s.stack s.stack refl,
      eq-eqb s.log s.log refl,
    )
    refl

fits : (made lens : Sizes) → made ≡ lens → not_as_made made lens ≡ None
fits made lens same = subst (λ s. not_as_made made s ≡ None) same (all_as_made made)

module _ {P L : Type 0} (policy : Policy P L) (before after : P) (kind : Kind L)
    (running : Running L) (parts parts' : Contents L) (fuel : ℕ) where
  abbrev pub Went : Result (Gone L) (Refused L) → Type 0
  Went = Goes policy before after kind parts parts' fuel running

  pub gone : (left : Gone L) (told : State) → parts'.program ≡ parts.program
      → lengths parts' ≡ lengths parts → Went (Ok left) → IsIn left.station told
      → Hands kind (policy.faithful before) parts parts' (state.Running running) (Go fuel)
      (left.station, reply.Gone left.steps told)
  gone left told programs same goes is_in = record {
    lends = λ made.
        let kept = goes.accepts (fits running.sizes (lengths parts) made) in
        lends_taken kind (policy.faithful before) made refl
        (λ table true. goes.performs table (true refl))
        (refl, is_in parts')
        (ap (λ p. made_as p (made_sizes left.station)) programs ∙ ap (made_as parts.program) kept)
        (kept ∙ made ∙ sym same);
    refuses = λ part _ wrong. cc ((goes.refuses part wrong).answer);
  }

  pub given_back : (back : Refused L) → Went (Err back)
      → Hands kind (policy.faithful before) parts parts' (state.Running running) (Go fuel)
      (state.Running back.station, reply.Refused back.why)
  given_back back goes = record {
    lends = λ made. absurd (goes.accepts (fits running.sizes (lengths parts) made));
    refuses = λ part _ wrong.
        let kept = goes.refuses part wrong in
        let same : back ≡ record { why = Length part; station = running } = cc (kept.answer) in
        (ap (λ b. (state.Running b.station, reply.Refused b.why)) same, kept.parts_kept);
  }

  pub unasked : (result : Result (Gone L) (Refused L)) → Went result
      → Unasked parts (state.Running running) (Go fuel) → after ≡ before
  unasked result goes (inl never) = absurd (never (refl, refl))
  unasked result goes (inr wrong) = by_part (not_as_made running.sizes (lengths parts)) refl
    where
      by_part : (first : Option Part) → not_as_made running.sizes (lengths parts) ≡ first → after ≡ before
      by_part None is = absurd (wrong is)
      by_part (Some part) is = (goes.refuses part is).policy_kept

-- The calls on an idle station that are answered by a result, and the question for the next command.
module _ {L : Type 0} (kind : Kind L) (idle : Idle L) (parts : Parts L) where
  pub entered : (cell : ℕ) (v : Labelled L) {memory' : List (Labelled L)}
      (r : Result (Unit {0}) Refusal) (given : Reply L)
      → length memory' ≡ length parts.memory.items
      → Serves kind idle.sizes (Enter cell v) (idle_with idle) (with_memory parts.memory.items)
      (idle_with idle) (with_memory memory') (answered (λ _. stations.granted) r)
      → ((left : Station L) → stations.Idle left → Says given (answered (λ _. stations.granted) r) left)
      → ((why : Refusal) → r ≡ Err why → given ≡ reply.Refused why)
      → Hands kind (λ _. Unit {0}) (held parts)
      (held (record parts { memory = with_items parts.memory memory' })) (state.Idle idle)
      (Enter cell v) (state.Idle idle, given)
  entered cell v {memory'} r given same_length serves says told =
      let is : (with_items parts.memory memory').items ≡ memory' =
      with_items_is parts.memory memory' (same_length ∙ sym parts.memory.ok.0) in
      kept_hands kind (state.Idle idle) (held parts)
      (with_memory (with_items parts.memory memory').items (held parts)) (Enter cell v)
      (λ _. stations.granted) r given
      refl
      (ap (λ m. lengths (with_memory m (held parts))) is
      ∙ ap (λ n. record (lengths (held parts)) { memory = n }) same_length)
      refl (λ table. rw is (serves (held parts) table)) (says _ refl) (λ part x e. cc e) told
      (λ same. ap (λ m. with_memory m (held parts)) (ap stations.memory_of same))

  pub looked : (cell : ℕ) (clearance : L) (r : Result (Labelled L) Refusal) (given : Reply L)
      → Serves kind idle.sizes (Look cell clearance) (idle_with idle)
      (with_memory parts.memory.items) (idle_with idle) (with_memory parts.memory.items)
      (answered stations.shows r)
      → ((left : Station L) → Says given (answered stations.shows r) left)
      → ((why : Refusal) → r ≡ Err why → given ≡ reply.Refused why)
      → Hands kind (λ _. Unit {0}) (held parts) (held parts) (state.Idle idle) (Look cell clearance)
      (state.Idle idle, given)
  looked cell clearance r given serves says told =
      kept_hands kind (state.Idle idle) (held parts) (held parts) (Look cell clearance) stations.shows r given
      refl refl refl (λ table. serves (held parts) table) (says _) (λ part x e. cc e) told (λ _. refl)

module _ {L : Type 0} (kind : Kind L) (st : StationCode L) (parts : Parts L) where
  pub told_next : (from : ℕ) (clearance : L) (r : Result (Option ℕ) Refusal) (given : Reply L)
      → Serves kind (made_sizes st) (NextCommand from clearance) (station_with st)
      (with_log parts.log.items) (station_with st) (with_log parts.log.items)
      (answered stations.found r)
      → ((left : Station L) → Says given (answered stations.found r) left)
      → ((why : Refusal) → r ≡ Err why → given ≡ reply.Refused why)
      → Hands kind (λ _. Unit {0}) (held parts) (held parts) st (NextCommand from clearance) (st, given)
  told_next from clearance r given serves says told =
      kept_hands kind st (held parts) (held parts) (NextCommand from clearance) stations.found r given
      refl refl refl (λ table. serves (held parts) table) (says _) (λ part x e. cc e) told (λ _. refl)
