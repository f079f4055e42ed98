-- What a step comes to at all, under any table.
--
-- An operation is done only with fuel and only if the table allows some request; commands are only added, the
-- memory stays as long, and stack and log hold no more than their sizes if they did before.
use Rattle.std.proofs.Common.{◌≡◌, ℕ, suc, ◌+◌, ◌≤◌, Bool, true, false, ltb, List, [], ◌∷◌, length, ℤ}
use Rattle.std.proofs.Common.{pos, negsuc, ◌+ℤ◌, Some, None, Option, refl, ap, ◌∙◌, arith, length-set}
use Rattle.std.proofs.lemmas.List.{length-append}
use Rattle.std.proofs.lemmas.Bool.{ltb-true}
use Rattle.labels.specs.Kind.{Kind}
use Rattle.rules.specs.Tables.{Table, request}
use Rattle.rules.specs.declared.Opcode.{Opcode}
use Rattle.rules.specs.declared.Request.{Request}
use Rattle.rules.specs.declared.Verdict.{Verdict}
use Rattle.machine.specs.Lists.{Begins}
use Rattle.machine.specs.Steps.{◌at◌, Setup, Kept, Round, Outcome, finished, later, stopped, done}
use Rattle.machine.specs.Steps.{set_place, numbers_onto, goto, asking, arithmetic, return_to, tried, step}
use Rattle.machine.specs.declared.answers.Stop.{Stop}
use Rattle.machine.specs.declared.answers.Stop.TheVariants.{StackFull, OutsideMemory, LogFull}
use Rattle.machine.specs.declared.parts.Labelled.{Labelled}
use Rattle.machine.specs.declared.parts.Frame.{Frame as ReturnFrame}
use Rattle.machine.specs.declared.parts.Entry.{Entry}
use Rattle.machine.specs.declared.parts.Entry.TheVariants.{Frame}
use Rattle.machine.specs.declared.parts.Operation.{Operation}
use Rattle.machine.specs.declared.parts.Operation.TheVariants.{Push, Pop, Noop, Add, Sub, Less, Load, Store}
use Rattle.machine.specs.declared.parts.Operation.TheVariants.{Jump, Bnz, Call, Return, Output, Halt}
use Rattle.machine.proofs.Lists.{begins_refl, begins_append, begins_trans}
use Rattle.machine.proofs.Flows.{On, forbids, allows}
use Rattle.machine.proofs.Outcomes.{AtStops, provided_any, taking_any, taking_all_any}
use Rattle.machine.proofs.Outcomes.{nearest_frame_any, at_place_any, ruled_any, halted_any, step_any}

module _ {L : Type 0} where
  -- the commands go on from where they were, and the memory is as long
  pub record Follows (k l : Kept L) : Type 0 where
    pub grows : Begins ◌≡◌ k.commands l.commands
    pub as_long : length l.memory ≡ length k.memory

  pub follows_refl : (k : Kept L) → Follows k k
  follows_refl k = record { grows = begins_refl k.commands; as_long = refl }

  pub follows_trans : {k l m : Kept L} → Follows k l → Follows l m → Follows k m
  follows_trans f g = record { grows = begins_trans f.grows g.grows; as_long = g.as_long ∙ f.as_long }

  -- some request was allowed
  abbrev pub Allows : Table L → Type 0
  Allows table = (q : Request L) × (table q ≡ None → ⊥)

  -- an operation was done: the round before it and the round after
  pub record Done (table : Table L) (setup : Setup L) (s s' : Round L) : Type 0 where
    pub allowed : Allows table
    pub follows : Follows s.kept s'.kept
    pub depth : length s.stack ≤ setup.sizes.stack → length s'.stack ≤ setup.sizes.stack
    pub room : length s.kept.commands ≤ setup.sizes.log → length s'.kept.commands ≤ setup.sizes.log

  -- what a step of the round s with so much fuel comes to
  pub data ComesTo (table : Table L) (setup : Setup L) (fuel : ℕ) (s : Round L) : Outcome L → Type 0 where
    to_finish : ComesTo table setup fuel s finished
    to_later : fuel ≡ 0 → ComesTo table setup fuel s later
    to_stop : {n : Stop} → ComesTo table setup fuel s (stopped n)
    to_done : {n : ℕ} {s' : Round L} → fuel ≡ suc n → Done table setup s s' → ComesTo table setup fuel s (done s')

  onto_length : (xs : List (Labelled L)) (es : List (Entry L)) → length (numbers_onto xs es) ≡ length xs + length es
  onto_length [] es = omega arith
  onto_length (x ∷ xs) es = omega (arith, onto_length xs es)

  set_place_length : (m : List (Labelled L)) (z : ℤ) (v : Labelled L) → length (set_place m z v) ≡ length m
  set_place_length m (pos i) v = length-set m i v
  set_place_length m (negsuc i) v = refl

module _ {L : Type 0} (kind : Kind L) (table : Table L) (setup : Setup L) (fuel : ℕ) (s : Round L) where
  abbrev Fine : Outcome L → Type 0
  Fine = ComesTo table setup fuel s

  stops : AtStops Fine
  stops = record { stops = λ n. to_stop }

  asking_comes_to : (op : Opcode) (a b c : L) {k : L → L → Outcome L} → ((N R : L) → Allows table → Fine (k N R))
      → Fine (asking kind table setup op s a b c k)
  asking_comes_to op a b c f = ruled_any stops (answered (table q) refl) f
    where
      q : Request L
      q = request op s.pc_label a b c

      answered : (x : Option (Verdict L)) → table q ≡ x → On (λ _ _. Allows table) x
      answered None e = forbids
      answered (Some v) e = allows (q, λ n. cc)

  module _ (n : ℕ) (some : fuel ≡ suc n) where
    -- an operation that leaves no more on the stack, and memory and commands as they were
    plain : {p : ℤ} {N : L} {es : List (Entry L)} → length es ≤ length s.stack → Allows table → Fine (goto s p N es)
    plain h allowed =
        to_done some
        (record {
          allowed = allowed;
          follows = follows_refl s.kept;
          depth = λ fits. omega arith;
          room = λ fits. fits;
        })

    arithmetic_comes_to : (op : Opcode) (f : ℤ → ℤ → ℤ) → Fine (arithmetic kind table setup op f s)
    arithmetic_comes_to op f =
        taking_any stops s.stack λ a es e.
        taking_any stops es λ b us d.
        asking_comes_to op _ _ _ λ N R.
        plain (omega (arith, ap length e, ap length d))

    return_comes_to : (due : Bool) (f : ReturnFrame L) (rest : List (Entry L)) → suc (length rest) ≤ length s.stack
        → Fine (return_to kind table setup due f rest s)
    return_comes_to true f rest h = taking_any stops s.stack λ a _ _. asking_comes_to _ _ _ _ λ N R. plain h
    return_comes_to false f rest h = asking_comes_to _ _ _ _ λ N R. plain (omega arith)

    tried_comes_to : (op : Operation L) → Fine (tried kind table setup op s)
    tried_comes_to (Push v) =
        provided_any stops StackFull (ltb (length s.stack) setup.sizes.stack) λ free.
        asking_comes_to _ _ _ _ λ N R allowed.
        to_done some (record {
          allowed = allowed;
          follows = follows_refl s.kept;
          depth = λ fits. omega (arith, ltb-true (length s.stack) setup.sizes.stack free);
          room = λ fits. fits;
        })
    tried_comes_to Pop =
        taking_any stops s.stack
        λ a es e. asking_comes_to _ _ _ _ λ N R. plain (omega (arith, ap length e))
    tried_comes_to Noop = asking_comes_to _ _ _ _ λ N R. plain (omega arith)
    tried_comes_to Add = arithmetic_comes_to _ _
    tried_comes_to Sub = arithmetic_comes_to _ _
    tried_comes_to Less = arithmetic_comes_to _ _
    tried_comes_to Load =
        taking_any stops s.stack λ a es e.
        at_place_any stops s.kept.memory a.value OutsideMemory λ cell _.
        asking_comes_to _ _ _ _ λ N R.
        plain (omega (arith, ap length e))
    tried_comes_to Store =
        taking_any stops s.stack λ a es e.
        taking_any stops es λ b us d.
        at_place_any stops s.kept.memory a.value OutsideMemory λ cell _.
        asking_comes_to _ _ _ _ λ N R allowed.
        to_done some (record {
          allowed = allowed;
          follows = record { grows = begins_refl s.kept.commands; as_long = set_place_length s.kept.memory a.value _ };
          depth = λ fits. omega (arith, ap length e, ap length d);
          room = λ fits. fits;
        })
    tried_comes_to Jump =
        taking_any stops s.stack
        λ a es e. asking_comes_to _ _ _ _ λ N R. plain (omega (arith, ap length e))
    tried_comes_to (Bnz k) =
        taking_any stops s.stack
        λ a es e. asking_comes_to _ _ _ _ λ N R. plain (omega (arith, ap length e))
    tried_comes_to (Call k due) =
        taking_any stops s.stack λ a es e.
        taking_all_any stops k es λ xs us d.
        asking_comes_to _ _ _ _ λ N R.
        let frame : Entry L = Frame (record { place = s.pc +ℤ pos 1; due = due; label = R }) in
        plain (omega (arith, ap length e, ap length d, onto_length xs us, onto_length xs (frame ∷ us)))
    tried_comes_to Return =
        nearest_frame_any stops s.stack
        λ xs f rest e.
        return_comes_to f.due f rest (omega (arith, ap length e, onto_length xs (Frame f ∷ rest)))
    tried_comes_to Output =
        taking_any stops s.stack λ a es e.
        provided_any stops LogFull (ltb (length s.kept.commands) setup.sizes.log) λ free.
        asking_comes_to _ _ _ _ λ N R allowed.
        to_done some (record {
          allowed = allowed;
          follows = record { grows = begins_append s.kept.commands _; as_long = refl };
          depth = λ fits. omega (arith, ap length e);
          room =
              λ fits.
              omega (
                arith,
                ltb-true (length s.kept.commands) setup.sizes.log free,
                length-append s.kept.commands ((a.value at R) ∷ []),
              );
        })
    tried_comes_to Halt = halted_any stops kind table setup s (λ _. to_finish)

  pub step_comes_to : Fine (step kind table setup fuel s)
  step_comes_to = step_any stops kind table setup fuel s to_later (λ _. to_finish) tried_comes_to
