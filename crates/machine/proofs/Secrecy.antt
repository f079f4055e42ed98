-- Noninterference: two stations that went side by side show the same commands, and answer looks alike.
use Rattle.std.proofs.Common.{◌≡◌, ℕ, zero, suc, Bool, true, false, cond, eqb}
use Rattle.std.proofs.Common.{List, [], ◌∷◌, sym, refl, ap, ◌∙◌, ap₂, inl, inr}
use Rattle.labels.specs.Kind.{Kind, Lawful}
use Rattle.rules.specs.Tables.{Table, published}
use Rattle.machine.specs.Lists.{none, more}
use Rattle.machine.specs.Numbers.{first_wrong}
use Rattle.machine.specs.Observer.{History, setup_of, Proper, AlikeStations, AlikeCalls}
use Rattle.machine.specs.Observer.{SameCommands, SameLooks, Noninterference}
use Rattle.machine.specs.Stations.{made, Answer, shows, refused, fitting, looked}
use Rattle.machine.specs.Steps.{element}
use Rattle.machine.specs.declared.answers.Part.TheVariants.{Memory}
use Rattle.machine.specs.declared.answers.Refusal.TheVariants.{Length, Cell, Clearance}
use Rattle.machine.specs.declared.parts.Labelled.{Labelled}
use Rattle.machine.proofs.Alikes.{Memories}
use Rattle.machine.proofs.Flows.{Secure, published_secure}
use Rattle.machine.proofs.Hiding.{Hidden, never_both}
use Rattle.machine.proofs.Lists.{each_length}
use Rattle.machine.proofs.SideBySide.{fit_idle}
use Rattle.machine.proofs.Unwinding.{calls_end}

module _ {L : Type 0} {kind : Kind L} (laws : Lawful kind) (o : L) where
  open kind use {below}

  -- a hidden cell is refused to every clearance at or below o
  hidden_cell : (clearance : L) → below clearance o ≡ true → (v : Labelled L) → Hidden kind o v.label
      → looked kind clearance v ≡ refused Clearance
  hidden_cell clearance low v h = tested (below v.label clearance) refl
    where
      tested : (b : Bool) → below v.label clearance ≡ b → cond b (shows v) (refused Clearance) ≡ refused Clearance
      tested true e = never_both kind o v.label (laws.transitive v.label clearance o e low) h
      tested false e = refl

  same_looks : (clearance : L) → below clearance o ≡ true → (cell : ℕ) {m n : List (Labelled L)} → Memories kind o m n
      → element m cell (refused Cell) (looked kind clearance) ≡ element n cell (refused Cell) (looked kind clearance)
  same_looks clearance low cell none = refl
  same_looks clearance low (suc cell) (more a t) = same_looks clearance low cell t
  same_looks clearance low zero (more (inl e) t) = ap (looked kind clearance) e
  same_looks clearance low zero (more (inr h) t) =
      hidden_cell clearance low _ h.0 ∙ sym (hidden_cell clearance low _ h.1)

  -- under any rows that keep what is hidden
  pub secret : (rows : Table L) → Secure kind o rows → (one two : History L) → Proper kind rows one
      → Proper kind rows two
      → AlikeStations kind o one two → AlikeCalls kind o one two
      → SameCommands kind o one two × SameLooks kind o one two
  secret rows secure one two proper₁ proper₂ stations calls =
      let ends =
      calls_end laws o rows secure (setup_of one) (setup_of two) stations.0 (made one.memory)
      (made two.memory) one.calls two.calls
      (fit_idle (record { memories = stations.1; commands = refl })) proper₁ proper₂ calls in (
        ends.of_commands,
        λ counts idle₁ idle₂ cell clearance table low.
            ap₂
            (λ (len : ℕ) (x : Answer L). fitting (first_wrong (λ _. eqb len len) (Memory ∷ []))
            (λ part. refused (Length part)) x)
            (each_length stations.1) (same_looks clearance low cell (ends.of_memories counts idle₁ idle₂)),
      )

pub noninterference : {L : Type 0} {kind : Kind L} → Lawful kind → Noninterference kind
noninterference {kind = kind} laws o = secret laws o (published kind) (published_secure laws o)
