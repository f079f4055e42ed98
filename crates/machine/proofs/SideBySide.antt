-- Two stations side by side that an observer at o cannot tell apart, and how a step of each fits.
use Rattle.std.proofs.Common.{◌≡◌, ◌⊎◌, sym, refl, ◌∙◌, subst, inl, inr}
use Rattle.labels.specs.Kind.{Kind}
use Rattle.machine.specs.Observer.{Alike}
use Rattle.machine.specs.Stations.{Station, idle, running, settled}
use Rattle.machine.specs.Steps.{◌at◌, Kept, Round, Outcome, stopped}
use Rattle.machine.specs.declared.answers.Stop.{Stop}
use Rattle.machine.specs.declared.parts.Labelled.{Labelled}
use Rattle.machine.proofs.Alikes.{Memories, Stacks, crop, crops, memories_refl}
use Rattle.machine.proofs.Alikes.{memories_sym, memories_trans, stacks_sym}
use Rattle.machine.proofs.Commands.{Shown}
use Rattle.machine.proofs.Hiding.{Visible, Hidden, visible_or_hidden}

-- the station after a step of a running one
abbrev pub settle : {L : Type 0} → Round L → Outcome L → Station L
settle r x = (settled r x (λ r'. record { station = running r'; steps = 0 })).station

-- the program counter with its label
abbrev pub counter : {L : Type 0} → Round L → Labelled L
counter r = r.pc at r.pc_label

module _ {L : Type 0} (kind : Kind L) (o : L) where
  -- memories and commands alike
  pub record SameSight (k l : Kept L) : Type 0 where
    pub memories : Memories kind o k.memory l.memory
    pub commands : Shown kind o k.commands l.commands

  pub sight_refl : (k : Kept L) → SameSight k k
  sight_refl k = record { memories = memories_refl kind o k.memory; commands = refl }

  pub sight_sym : {k l : Kept L} → SameSight k l → SameSight l k
  sight_sym h = record { memories = memories_sym kind o h.memories; commands = sym h.commands }

  pub sight_trans : {k l m : Kept L} → SameSight k l → SameSight l m → SameSight k m
  sight_trans h
      k = record {
        memories = memories_trans kind o h.memories k.memories;
        commands = h.commands ∙ k.commands;
      }

  -- Two rounds are at one visible place with alike stacks, or both at hidden places with stacks that tell alike.
  pub data Alongside (r s : Round L) : Type 0 where
    both_visible : Visible kind o r.pc_label → counter r ≡ counter s → Stacks kind o r.stack s.stack
        → SameSight r.kept s.kept → Alongside r s
    both_hidden : Hidden kind o r.pc_label → Hidden kind o s.pc_label
        → Stacks kind o (crop kind o r.stack) (crop kind o s.stack) → SameSight r.kept s.kept → Alongside r s

  -- with alike stacks, it is enough that the program counters are alike
  pub alongside : {r s : Round L} → Alike kind o (counter r) (counter s) → Stacks kind o r.stack s.stack
      → SameSight r.kept s.kept → Alongside r s
  alongside {r} {s} (inl e) stacks sight = at_level (visible_or_hidden kind o r.pc_label)
    where
      at_level : Visible kind o r.pc_label ⊎ Hidden kind o r.pc_label → Alongside r s
      at_level (inl v) = both_visible v e stacks sight
      at_level (inr h) =
          both_hidden h (subst (λ (c : Labelled L). Hidden kind o c.label) e h)
          (crops kind o stacks) sight
  alongside (inr h) stacks sight = both_hidden h.0 h.1 (crops kind o stacks) sight

  -- Two stations fit if both are idle or both running, and alike to the observer.
  pub data Fit : Station L → Station L → Type 0 where
    fit_idle : {k l : Kept L} → SameSight k l → Fit (idle k) (idle l)
    fit_running : {r s : Round L} → Alongside r s → Fit (running r) (running s)

  -- How a step x of the round r and a step y of the round s fit: one of them stops, or one of them is made
  -- alone and fits the other round as it was, or both are made and fit.
  pub data Matches (r s : Round L) : Outcome L → Outcome L → Type 0 where
    left_stops : {n : Stop} {y : Outcome L} → Matches r s (stopped n) y
    right_stops : {n : Stop} {x : Outcome L} → Matches r s x (stopped n)
    left_alone : {x y : Outcome L} → Fit (settle r x) (running s) → Matches r s x y
    right_alone : {x y : Outcome L} → Fit (running r) (settle s y) → Matches r s x y
    together : {x y : Outcome L} → Fit (settle r x) (settle s y) → Matches r s x y

  pub fit_sym : {st₁ st₂ : Station L} → Fit st₁ st₂ → Fit st₂ st₁
  fit_sym (fit_idle sight) = fit_idle (sight_sym sight)
  fit_sym (fit_running (both_visible v e stacks sight)) =
      fit_running
      (both_visible (subst (λ (c : Labelled L). Visible kind o c.label) e v) (sym e)
      (stacks_sym kind o stacks) (sight_sym sight))
  fit_sym (fit_running (both_hidden h k stacks sight)) =
      fit_running (both_hidden k h (stacks_sym kind o stacks) (sight_sym sight))
