-- Reports on two runs that were alike to the observer.
use Rattle.std.proofs.Common.{◌≡◌, ℕ, zero, suc, ◌+◌, Bool, true, false, cond, ◌&&◌, List, [], ◌∷◌, ◌++◌}
use Rattle.std.proofs.Common.{length, filter, take, Some, None, Option, refl, sym, ap, ap₂, ◌∙◌, subst, inl}
use Rattle.std.proofs.Common.{inr, length-append, arith}
use Rattle.std.specs.List.{flat_map}
use Rattle.labels.specs.Kind.{Kind, Lawful}
use Rattle.machine.specs.Calls.{Input, facts, is_input}
use Rattle.machine.specs.Lists.{Each, none, more, Begins, ends, goes_on, OneBegins}
use Rattle.machine.specs.Observer.{History, setup_of, inputs, AlikeStations, AlikeCalls, SameCommands}
use Rattle.machine.specs.Observer.{SameLooks, visible}
use Rattle.machine.specs.Stations.{Idle, commands_of}
use Rattle.machine.specs.declared.calls.Call.{Call}
use Rattle.machine.specs.declared.calls.Call.TheVariants.{Enter, Start}
use Rattle.machine.specs.declared.parts.Labelled.{Labelled}
use Rattle.machine.proofs.Secrecy.{noninterference}
use Rattle.sites.specs.Calls.{Sited}
use Rattle.sites.specs.declared.lending.Parts.{Parts}
use Rattle.compare.specs.Differences.{Breaks}
use Rattle.compare.specs.Runs.{counts, inputs_of}
use Rattle.compare.specs.Reports.{AlikeExchange, Reports, LooksDue, LooksTold, NothingDiffers, look_at}
use Rattle.compare.specs.declared.exchanges.Exchange.{Exchange}
use Rattle.compare.specs.declared.reports.Looks.{Looks}
use Rattle.compare.specs.declared.reports.Looks.TheVariants.{NotDue, Same, DifferAt}
use Rattle.compare.specs.declared.reports.Report.{Report}
use Rattle.compare.proofs.Histories.{Past}

and-right : (a b : Bool) → (a && b) ≡ true → b ≡ true
and-right true b both = both
and-right false b both = cc both

module _ {A : Type 0} {R : A → A → Type 0} where
  begins_take : (n : ℕ) {xs ys : List A} → Begins R xs ys → Begins R (take n xs) (take n ys)
  begins_take zero begins = ends
  begins_take (suc n) ends = ends
  begins_take (suc n) (goes_on r begins) = goes_on r (begins_take n begins)

  one_begins_take : (n : ℕ) (xs ys : List A) → OneBegins R xs ys → OneBegins R (take n xs) (take n ys)
  one_begins_take n xs ys (inl begins) = inl (begins_take n begins)
  one_begins_take n xs ys (inr begins) = inr (begins_take n begins)

  -- Lists of which one begins the other differ nowhere.
  never_breaks : (xs ys : List A) (place : Option ℕ) → Breaks (OneBegins R) xs ys place → OneBegins R xs ys
      → place ≡ None
  never_breaks xs ys None breaks begin = refl
  never_breaks xs ys (Some n) breaks begin = absurd (breaks.1 (one_begins_take (suc n) xs ys begin))

-- Lists of which one begins the other, when each element is a list of elements that are related one by one.
module _ {A B : Type 0} {R : A → A → Type 0} {S : B → B → Type 0} (f : A → List B)
    (related : (x y : A) → R x y → Each S (f x) (f y)) where
  begins_behind : {xs ys us vs : List B} → Each S xs ys → Begins S us vs → Begins S (xs ++ us) (ys ++ vs)
  begins_behind none begins = begins
  begins_behind (more s each) begins = goes_on s (begins_behind each begins)

  begins_flat : {xs ys : List A} → Begins R xs ys → Begins S (flat_map f xs) (flat_map f ys)
  begins_flat ends = ends
  begins_flat (goes_on {a} {b} r begins) = begins_behind (related a b r) (begins_flat begins)

  one_begins_flat : (xs ys : List A) → OneBegins R xs ys → OneBegins S (flat_map f xs) (flat_map f ys)
  one_begins_flat xs ys (inl begins) = inl (begins_flat begins)
  one_begins_flat xs ys (inr begins) = inr (begins_flat begins)

-- Each call that counts stands for one enter or start.
one_input : {L : Type 0} (call : Call L) → is_input call ≡ true → length (facts call).inputs ≡ 1
one_input (Enter cell v) is = refl
one_input Start is = refl
one_input call is = cc is

many_inputs : {L : Type 0} (es : List (Exchange L))
    → length (flat_map inputs_of (filter counts es)) ≡ length (filter counts es)
many_inputs [] = refl
many_inputs (e ∷ es) = tested (many_inputs es) (counts e) refl
  where
    tested : length (flat_map inputs_of (filter counts es)) ≡ length (filter counts es) → (b : Bool) → counts e ≡ b
        → length (flat_map inputs_of (cond b (e ∷ filter counts es) (filter counts es)))
        ≡ length (cond b (e ∷ filter counts es) (filter counts es))
    tested rest true counted = length-append (inputs_of e) (flat_map inputs_of (filter counts es))
        ∙ ap₂ (λ m n. m + n) (one_input e.call (and-right _ _ counted)) rest ∙ omega arith
    tested rest false counted = rest

module _ {L : Type 0} (kind : Kind L) (o : L) where
  module _ (laws : Lawful kind) (h k : History L) (es fs : List (Exchange L)) (one two : Sited L)
      (first : Past kind h es one) (second : Past kind k fs two) where
    module _ (alike_stations : AlikeStations kind o h k) (alike_calls : AlikeCalls kind o h k) where
      same_shown : SameCommands kind o h k × SameLooks kind o h k
      same_shown = noninterference laws o h k first.proper second.proper alike_stations alike_calls

      pub same_commands : (place : Option ℕ) → Breaks (OneBegins ◌≡◌) (visible kind o (commands_of one.station))
          (visible kind o (commands_of two.station)) place → place ≡ None
      same_commands place breaks = never_breaks _ _ place breaks (rw (first.ends, second.ends) same_shown.0)

      counted_evenly : length (filter counts es) ≡ length (filter counts fs) → length (inputs h) ≡ length (inputs k)
      counted_evenly evenly = ap length first.inputs_are ∙ many_inputs es ∙ evenly ∙ sym (many_inputs fs)
          ∙ sym (ap length second.inputs_are)

      same_look : LooksDue kind o es fs one two → (cell : ℕ) → look_at kind o one cell ≡ look_at kind o two cell
      same_look due cell = rw (first.setup_is, second.setup_is, first.ends, second.ends)
          (same_shown.1 (counted_evenly due.0) (subst Idle first.ends due.1) (subst Idle second.ends due.2) cell o
          (λ _. None) (laws.reflexive o))

      pub never_differ : (looks : Looks) → LooksTold kind o (LooksDue kind o es fs one two) one two looks → (cell : ℕ)
          → (looks ≡ DifferAt cell) → ⊥
      never_differ NotDue told cell is = cc is
      never_differ Same told cell is = cc is
      never_differ (DifferAt at) told cell is = told.1.0 (same_look told.0 at)

    -- Where stations and calls are alike, the report says that nothing differs.
    pub nothing_differs : {parts parts' : Parts L} {report : Report} → Reports kind o parts parts' es fs one two report
        → AlikeStations kind o h k → AlikeCalls kind o h k → NothingDiffers report
    nothing_differs {parts} {parts'} {report} reports alike_stations alike_calls = (
      same_commands alike_stations alike_calls report.commands reports.commands,
      never_differ alike_stations alike_calls report.looks reports.looks,
    )

    -- The calls are alike if no two of those that count differ.
    pub calls_alike : OneBegins (AlikeExchange kind o) (filter counts es) (filter counts fs) → AlikeCalls kind o h k
    calls_alike begin = rw (first.inputs_are, second.inputs_are)
        (one_begins_flat {R = AlikeExchange kind o} inputs_of (λ _ _ alike. alike)
        (filter counts es) (filter counts fs) begin)

module _ {L : Type 0} (kind : Kind L) (o : L) where
  -- the numbers at or below the level, picked out by the test
  tested : (b : Bool) (v : Labelled L) {vs ws : List (Labelled L)} → vs ≡ ws → cond b (v ∷ vs) vs ≡ cond b (v ∷ ws) ws
  tested true v same = ap (λ xs. v ∷ xs) same
  tested false v same = same

  visible_filtered : (vs : List (Labelled L)) → visible kind o vs ≡ filter (λ v. kind.below v.label o) vs
  visible_filtered [] = refl
  visible_filtered (v ∷ vs) = tested (kind.below v.label o) v (visible_filtered vs)

  pub of_commands : (vs ws : List (Labelled L)) (place : Option ℕ)
      → Breaks (OneBegins ◌≡◌) (filter (λ v. kind.below v.label o) vs) (filter (λ v. kind.below v.label o) ws) place
      → Breaks (OneBegins ◌≡◌) (visible kind o vs) (visible kind o ws) place
  of_commands vs ws place breaks =
      subst (λ xs. Breaks (OneBegins ◌≡◌) xs (visible kind o ws) place) (sym (visible_filtered vs))
      (subst (λ ys. Breaks (OneBegins ◌≡◌) (filter (λ v. kind.below v.label o) vs) ys place)
      (sym (visible_filtered ws)) breaks)
