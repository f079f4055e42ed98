-- A go, by whether a part is refused for its length.
use Rattle.std.proofs.Common.{◌≡◌, ℕ, None, Some, Ok, Err, Option, ◌+◌, refl, sym, ap, ◌∙◌}
use Rattle.labels.specs.Kind.{Kind}
use Rattle.rules.specs.declared.Policy.{Ghosts as Policy}
use Rattle.machine.specs.Stations.{Answer, took, refused, fitting, run_steps}
use Rattle.machine.specs.Steps.{Contents, lengths}
use Rattle.machine.specs.declared.answers.End.{End}
use Rattle.machine.specs.declared.answers.Part.{Part}
use Rattle.machine.specs.declared.answers.Refusal.{Refusal}
use Rattle.machine.specs.declared.answers.Refusal.TheVariants.{Length}
use Rattle.machine.specs.declared.parts.Sizes.{Sizes}
use Rattle.steps.specs.Operations.{round, AtMost, StaysTrue}
use Rattle.station.specs.Goes.{Goes}
use Rattle.station.specs.Lengths.{checked}
use Rattle.station.specs.Turns.{Runs}
use Rattle.station.specs.Views.{made_as, made_sizes, station_with}
use Rattle.station.specs.declared.running.Gone.{Gone as GoneCode}
use Rattle.station.specs.declared.running.Running.{Running}
use Rattle.station.proofs.Fitting.{not_as_made, no_misfit, as_made, fitted}

-- a refusal for the first wrong part, and no refusal where there is none
why_is : {why : Refusal} {part : Part} (wrong : Option Part) → Err why ≡ checked Length wrong
    → wrong ≡ Some part → why ≡ Length part
why_is None e is = cc
why_is (Some other) e is = cc

never_none : {why : Refusal} (wrong : Option Part) → Err why ≡ checked Length wrong → wrong ≡ None → ⊥
never_none None e is = cc
never_none (Some other) e is = cc

refused_so : {L : Type 0} {why : Refusal} (wrong : Option Part) (x : Answer L)
    → Err why ≡ checked Length wrong → refused why ≡ fitting wrong (λ part. refused (Length part)) x
refused_so None x e = cc
refused_so (Some part) x e = cc

as_it_was : {A : Type 0} {why : Refusal} (wrong : Option Part) (x y : A)
    → Err why ≡ checked Length wrong → x ≡ fitting wrong (λ _. x) y
as_it_was None x y e = cc
as_it_was (Some part) x y e = refl

-- not refused: the parts are as long as when the station was made
pub as_long : (made : Sizes) {lens handed : Sizes} → lens ≡ handed
    → Ok tt ≡ checked Length (not_as_made made lens) → made ≡ handed
as_long made {lens} are checks = as_made made lens (no_misfit _ checks) ∙ are

module _ {P L : Type 0} (policy : Policy P L) {before : P} (kind : Kind L) {parts : Contents L}
    (fuel : ℕ) (st : Running L)
    {lens : Sizes} (lens_are : lens ≡ lengths parts) where
  pub go_refused : (why : Refusal) → Err why ≡ checked Length (not_as_made st.sizes lens)
      → Goes policy before before kind parts parts fuel st (Err (record { why = why; station = st }))
  go_refused why checked_so =
      let wrong = not_as_made st.sizes (lengths parts) in
      let checks : Err why ≡ checked Length wrong =
      checked_so ∙ ap (λ n. checked Length (not_as_made st.sizes n)) lens_are in
      record {
        performs = λ table true. record { answers = refused_so wrong _ checks; leaves = as_it_was wrong _ _ checks };
        still = λ table true. true;
        asks = refl;
        refuses = λ part is. record {
          answer = ap (λ w. Err (record { why = w; station = st })) (why_is wrong checks is);
          parts_kept = refl;
          policy_kept = refl;
        };
        accepts = λ none. absurd (never_none wrong checks none);
      }

  pub go_ran : {after : P} {parts' : Contents L} (gone : GoneCode L)
      → Ok tt ≡ checked Length (not_as_made st.sizes lens)
      → Runs policy kind before parts parts' fuel st gone → StaysTrue policy before after
      → made_sizes gone.station ≡ st.sizes → AtMost policy (gone.steps + 1) before after
      → Goes policy before after kind parts parts' fuel st (Ok gone)
  go_ran {parts' = parts'} gone checks runs still keeps asks =
      let fits = ap (not_as_made st.sizes) (sym lens_are) ∙ no_misfit _ checks in
      let same = as_long st.sizes lens_are checks in
      record {
        performs = λ table true.
            let went : run_steps kind (made_as parts.program st.sizes) table fuel
            (round st.registers parts)
            ≡ record { station = station_with gone.station parts'; steps = gone.steps }
            = ap
            (λ s.
            run_steps kind (made_as parts.program s) table fuel (round st.registers parts))
            same
            ∙ runs table true in
            fitted kind (made_as parts.program st.sizes) _ _ fits
            (ap (λ gone. took gone.steps) (sym went))
            (ap (λ gone. gone.station) (sym went));
        still = still;
        asks = asks;
        refuses = λ part is. cc (sym is ∙ fits);
        accepts = λ none. keeps;
      }
