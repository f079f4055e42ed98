-- Two stations go side by side through their moves, and whichever can goes ahead.
use Rattle.std.proofs.Common.{◌≡◌, ℕ, suc, List, [], ◌∷◌, length, ℤ, sym, refl, subst, subst₂, inl, arith}
use mathlib.Core.Path.{fun_ext}
use Rattle.labels.specs.Kind.{Kind, Lawful}
use Rattle.rules.specs.Tables.{Table, Same}
use Rattle.machine.specs.Lists.{Each, none, Begins, OneBegins}
use Rattle.machine.specs.Calls.{Input, LentCall}
use Rattle.machine.specs.Observer.{struck, AllUnder, AlikeOperation, AlikeInput, same_start, alike_enter, visible}
use Rattle.machine.specs.Stations.{Station, idle, running, shut, memory_of, commands_of, Idle, after_all, Allowed}
use Rattle.machine.specs.Steps.{Setup, Kept, Round, Outcome, step}
use Rattle.machine.specs.declared.answers.Stop.{Stop}
use Rattle.machine.specs.declared.parts.Labelled.{Labelled}
use Rattle.machine.proofs.Alikes.{Memories, memories_sym, alike_sym}
use Rattle.machine.proofs.Commands.{Shown, visible_begins}
use Rattle.machine.proofs.Flows.{Secure}
use Rattle.machine.proofs.HiddenSteps.{hidden_match, hidden_step}
use Rattle.machine.proofs.Lasting.{moved_lasts, run_lasts}
use Rattle.machine.proofs.Lists.{each_set, begins_equal, begins_trans, one_begins_sym, one_begins_tail}
use Rattle.machine.proofs.Moves.{Move, input, turn, inputs_of, taken_in, run, run_shut}
use Rattle.machine.proofs.Moves.{Ready, flat, run_flat, inputs_flat, ready_flat}
use Rattle.machine.proofs.SideBySide.{settle, SameSight, Alongside, both_visible, both_hidden}
use Rattle.machine.proofs.SideBySide.{alongside, Fit, fit_idle, fit_running, fit_sym, Matches}
use Rattle.machine.proofs.SideBySide.{left_stops, right_stops, left_alone, right_alone, together}
use Rattle.machine.proofs.VisibleSteps.{visible_steps}

module _ {L : Type 0} {kind : Kind L} (laws : Lawful kind) (o : L) (rows : Table L) (secure : Secure kind o rows) where
  -- What is to be shown of two stations at the end, after so many inputs each.
  pub record SeenAlike (n₁ n₂ : ℕ) (st₁ st₂ : Station L) : Type 0 where
    pub of_commands : OneBegins ◌≡◌ (visible kind o (commands_of st₁)) (visible kind o (commands_of st₂))
    pub of_memories : n₁ ≡ n₂ → Idle st₁ → Idle st₂ → Memories kind o (memory_of st₁) (memory_of st₂)

  seen_sym : {n₁ n₂ : ℕ} {st₁ st₂ : Station L} → SeenAlike n₁ n₂ st₁ st₂ → SeenAlike n₂ n₁ st₂ st₁
  seen_sym
      u = record {
        of_commands = one_begins_sym u.of_commands;
        of_memories = λ e i j. memories_sym kind o (u.of_memories (sym e) j i);
      }

  seen_suc : {n₁ n₂ : ℕ} {st₁ st₂ : Station L} → SeenAlike n₁ n₂ st₁ st₂ → SeenAlike (suc n₁) (suc n₂) st₁ st₂
  seen_suc u = record { of_commands = u.of_commands; of_memories = λ e. u.of_memories (omega arith) }

  -- the ends of two stations' moves
  abbrev Ends : Setup L → Setup L → List (Move L) → List (Move L) → Station L → Station L → Type 0
  Ends S₁ S₂ ms₁ ms₂ st₁ st₂ =
      SeenAlike (length (inputs_of ms₁)) (length (inputs_of ms₂)) (run kind S₁ st₁ ms₁)
      (run kind S₂ st₂ ms₂)

  -- Stations that fit, with moves that are ready and alike inputs, end so.
  abbrev Claim : Setup L → Setup L → List (Move L) → List (Move L) → Type 0
  Claim S₁ S₂ ms₁ ms₂ =
      (st₁ st₂ : Station L) → Fit kind o st₁ st₂ → Ready kind S₁ rows st₁ ms₁
      → Ready kind S₂ rows st₂ ms₂
      → OneBegins (AlikeInput kind o) (inputs_of ms₁) (inputs_of ms₂) → Ends S₁ S₂ ms₁ ms₂ st₁ st₂

  input_sym : (a b : Input L) → AlikeInput kind o a b → AlikeInput kind o b a
  input_sym a b same_start = same_start
  input_sym a b (alike_enter h) = alike_enter (alike_sym kind o _ _ h)

  fit_shown : {st₁ st₂ : Station L} → Fit kind o st₁ st₂ → Shown kind o (commands_of st₁) (commands_of st₂)
  fit_shown (fit_idle sight) = sight.commands
  fit_shown (fit_running (both_visible v e t sight)) = sight.commands
  fit_shown (fit_running (both_hidden h k t sight)) = sight.commands

  module _ (S₁ S₂ : Setup L) where
    -- what one has said stays a beginning of what the other says
    ahead : (c : List (Labelled L)) (st : Station L) (ms : List (Move L))
        → Begins ◌≡◌ (visible kind o c) (visible kind o (commands_of st))
        → Begins ◌≡◌ (visible kind o c) (visible kind o (commands_of (run kind S₂ st ms)))
    ahead c st ms h = begins_trans h (visible_begins kind o (run_lasts kind S₂ st ms).grows)

    -- a station that is shut says nothing more
    shuts : {n₁ n₂ : ℕ} (stop : Stop) (place : ℤ) (kept : Kept L) (st₂ : Station L) (ms₁ ms₂ : List (Move L))
        → Begins ◌≡◌ (visible kind o kept.commands) (visible kind o (commands_of st₂))
        → SeenAlike n₁ n₂ (run kind S₁ (shut stop place kept) ms₁) (run kind S₂ st₂ ms₂)
    shuts {n₁} {n₂} stop place kept st₂ ms₁ ms₂ h =
        subst (λ (st : Station L). SeenAlike n₁ n₂ st (run kind S₂ st₂ ms₂))
        (sym (run_shut kind S₁ stop place kept ms₁))
        (record { of_commands = inl (ahead kept.commands st₂ ms₂ h); of_memories = λ _ i _. cc i })

    -- an idle station without inputs stays as it is
    run_idle : (kept : Kept L) (ms : List (Move L)) → 0 ≡ length (inputs_of ms) → run kind S₂ (idle kept) ms ≡ idle kept
    run_idle kept [] e = refl
    run_idle kept (input i ∷ ms) e = absurd (omega arith)
    run_idle kept (turn table fuel ∷ ms) e = run_idle kept ms e

    -- the first is at its end
    ended : (ms₂ : List (Move L)) → Claim S₁ S₂ [] ms₂
    ended ms₂ st₁ st₂ fit ready₁ ready₂ alike = record {
      of_commands = inl (ahead (commands_of st₁) st₂ ms₂ (begins_equal (fit_shown fit)));
      of_memories = memories fit;
    }
      where
        memories : {st₁ st₂ : Station L} → Fit kind o st₁ st₂ → 0 ≡ length (inputs_of ms₂)
            → Idle st₁ → Idle (run kind S₂ st₂ ms₂)
            → Memories kind o (memory_of st₁) (memory_of (run kind S₂ st₂ ms₂))
        memories (fit_idle {k} {l} sight) z i j =
            subst (λ (st : Station L). Memories kind o k.memory (memory_of st))
            (sym (run_idle l ms₂ z)) sight.memories
        memories (fit_running a) z i j = cc i

  -- a step of each, under policies true to the rows
  steps_match : (S₁ S₂ : Setup L) → Each (AlikeOperation kind o) S₁.program S₂.program → (t u : Table L)
      → Same rows t → Same rows u
      → (f g : ℕ) {r s : Round L} → Alongside kind o r s → Matches kind o r s (step kind t S₁ f r) (step kind u S₂ g s)
  steps_match S₁ S₂ programs t u same₁ same₂ f g {r} {s} beside =
      subst₂ (λ (t u : Table L). Matches kind o r s (step kind t S₁ f r) (step kind u S₂ g s))
      (fun_ext same₁) (fun_ext same₂) (rows_match beside)
    where
      rows_match : Alongside kind o r s → Matches kind o r s (step kind rows S₁ f r) (step kind rows S₂ g s)
      rows_match (both_visible v e stacks sight) =
          visible_steps kind o rows secure S₁ S₂ programs f g r s v e stacks sight
      rows_match (both_hidden h k stacks sight) = hidden_match kind o h k stacks sight
          (hidden_step laws o rows secure S₁ r h f) (hidden_step laws o rows secure S₂ s k g)

  -- an input of each
  inputs_fit : (a b : Input L) {k l : Kept L} → AlikeInput kind o a b → SameSight kind o k l
      → Fit kind o (taken_in kind (idle k) a) (taken_in kind (idle l) b)
  inputs_fit a b same_start sight = fit_running (alongside kind o (inl refl) none sight)
  inputs_fit a b (alike_enter {cell} h) sight =
      fit_idle (record { memories = each_set cell sight.memories h; commands = sight.commands })

  -- what follows from how a step of each of two rounds matches
  module _ (S₁ S₂ : Setup L) (ms₁ ms₂ : List (Move L)) {r s : Round L} (beside : Alongside kind o r s) where
    abbrev Result : Outcome L → Outcome L → Type 0
    Result x y = Ends S₁ S₂ ms₁ ms₂ (settle r x) (settle s y)

    shown : Shown kind o r.kept.commands s.kept.commands
    shown = fit_shown (fit_running beside)

    joined : {x y : Outcome L} → Matches kind o r s x y
        → Begins ◌≡◌ r.kept.commands (commands_of (settle r x)) → Begins ◌≡◌ s.kept.commands (commands_of (settle s y))
        → (Fit kind o (settle r x) (running s) → Result x y) → (Fit kind o (running r) (settle s y) → Result x y)
        → (Fit kind o (settle r x) (settle s y) → Result x y) → Result x y
    joined {y} (left_stops {n}) grows₁ grows₂ one two both =
        shuts S₁ S₂ n r.pc r.kept (settle s y) ms₁ ms₂
        (begins_trans (begins_equal shown) (visible_begins kind o grows₂))
    joined {x} (right_stops {n}) grows₁ grows₂ one two both =
        seen_sym
        (shuts S₂ S₁ n s.pc s.kept (settle r x) ms₂ ms₁
        (begins_trans (begins_equal (sym shown)) (visible_begins kind o grows₁)))
    joined (left_alone fit) grows₁ grows₂ one two both = one fit
    joined (right_alone fit) grows₁ grows₂ one two both = two fit
    joined (together fit) grows₁ grows₂ one two both = both fit

  module _ (S₁ S₂ : Setup L) (programs : Each (AlikeOperation kind o) S₁.program S₂.program) where
    -- Both have moves left: by how their next moves match, one goes ahead, or the other, or both.
    forward : (a b : Move L) (ms₁ ms₂ : List (Move L)) → Claim S₁ S₂ ms₁ (b ∷ ms₂) → Claim S₁ S₂ (a ∷ ms₁) ms₂
        → Claim S₁ S₂ ms₁ ms₂ → Claim S₁ S₂ (a ∷ ms₁) (b ∷ ms₂)
    forward (turn t f) b ms₁ ms₂ one two both st₁ st₂ (fit_idle sight) ready₁ ready₂ alike =
        one _ _ (fit_idle sight) ready₁.1 ready₂ alike
    forward (input a) (turn u g) ms₁ ms₂ one two both st₁ st₂ (fit_idle sight) ready₁ ready₂ alike =
        two _ _ (fit_idle sight) ready₁ ready₂.1 alike
    forward (input a) (input b) ms₁ ms₂ one two both st₁ st₂ (fit_idle sight) ready₁ ready₂ alike =
        let firsts = one_begins_tail input_sym alike in
        seen_suc (both _ _ (inputs_fit a b firsts.0 sight) ready₁.1 ready₂.1 firsts.1)
    forward (input a) b ms₁ ms₂ one two both st₁ st₂ (fit_running beside) ready₁ ready₂ alike = cc ready₁.0
    forward (turn t f) (input b) ms₁ ms₂ one two both st₁ st₂ (fit_running beside) ready₁ ready₂ alike = cc ready₂.0
    forward (turn t f) (turn u g) ms₁ ms₂ one two both st₁ st₂ (fit_running {r} {s} beside) ready₁ ready₂ alike =
        joined S₁ S₂ ms₁ ms₂ beside (steps_match S₁ S₂ programs t u ready₁.0 ready₂.0 f g beside)
        (moved_lasts kind S₁ (running r) (turn t f)).grows (moved_lasts kind S₂ (running s) (turn u g)).grows
        (λ fit. one _ _ fit ready₁.1 ready₂ alike) (λ fit. two _ _ fit ready₁ ready₂.1 alike)
        (λ fit. both _ _ fit ready₁.1 ready₂.1 alike)

    after_one : (a : Move L) (ms₁ : List (Move L)) → ((ms₂ : List (Move L)) → Claim S₁ S₂ ms₁ ms₂)
        → (ms₂ : List (Move L))
        → Claim S₁ S₂ (a ∷ ms₁) ms₂
    after_one a ms₁ rest [] = λ st₁ st₂ fit ready₁ ready₂ alike.
        seen_sym (ended S₂ S₁ (a ∷ ms₁) st₂ st₁ (fit_sym kind o fit) ready₂ ready₁ (one_begins_sym alike))
    after_one a ms₁ rest (b ∷ ms₂) = forward a b ms₁ ms₂ (rest (b ∷ ms₂)) (after_one a ms₁ rest ms₂) (rest ms₂)

    side_by_side : (ms₁ ms₂ : List (Move L)) → Claim S₁ S₂ ms₁ ms₂
    side_by_side [] ms₂ = ended S₁ S₂ ms₂
    side_by_side (a ∷ ms₁) ms₂ = after_one a ms₁ (side_by_side ms₁) ms₂

    -- the calls themselves
    pub calls_end : (st₁ st₂ : Station L) (calls₁ calls₂ : List (LentCall L)) → Fit kind o st₁ st₂
        → Allowed kind S₁ st₁ calls₁ × AllUnder kind rows calls₁
        → Allowed kind S₂ st₂ calls₂ × AllUnder kind rows calls₂
        → OneBegins (AlikeInput kind o) (struck S₁.sizes calls₁) (struck S₂.sizes calls₂)
        → SeenAlike (length (struck S₁.sizes calls₁)) (length (struck S₂.sizes calls₂))
        (after_all kind S₁ st₁ calls₁) (after_all kind S₂ st₂ calls₂)
    calls_end st₁ st₂ calls₁ calls₂ fit proper₁ proper₂ alike =
        let e₁ = inputs_flat kind S₁ calls₁ in
        let e₂ = inputs_flat kind S₂ calls₂ in
        let ends = side_by_side (flat kind S₁ calls₁) (flat kind S₂ calls₂) st₁ st₂ fit
        (ready_flat kind S₁ rows st₁ calls₁ proper₁.0 proper₁.1)
        (ready_flat kind S₂ rows st₂ calls₂ proper₂.0 proper₂.1)
        (subst₂ (OneBegins (AlikeInput kind o)) (sym e₁) (sym e₂) alike) in
        subst₂
        (λ (xs ys : List (Input L)). SeenAlike (length xs) (length ys)
        (after_all kind S₁ st₁ calls₁) (after_all kind S₂ st₂ calls₂))
        e₁ e₂
        (subst₂ (SeenAlike _ _) (run_flat kind S₁ st₁ calls₁) (run_flat kind S₂ st₂ calls₂) ends)
