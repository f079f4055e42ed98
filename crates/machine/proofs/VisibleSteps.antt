-- Two rounds at one visible place, alike to the observer: after a step of each they are alike, or one ends.
use Rattle.std.proofs.Common.{◌≡◌, ℕ, zero, suc, Bool, true, false, cond, List, ℤ, pos, negsuc}
use Rattle.std.proofs.Common.{◌+ℤ◌, Option, sym, refl, ap, ◌∙◌, subst, inl, inr, ⊎_elim}
use Rattle.labels.specs.Kind.{Kind}
use Rattle.rules.specs.Tables.{Table}
use Rattle.rules.specs.declared.Opcode.{Opcode}
use Rattle.rules.specs.declared.Opcode.TheVariants as opcode
use Rattle.rules.specs.declared.Verdict.{Verdict}
use Rattle.machine.specs.Lists.{Each, none, more}
use Rattle.machine.specs.Observer.{Alike, AlikeOperation, same_operation, alike_push}
use Rattle.machine.specs.Steps.{set_place, ◌at◌, Setup, Round, Outcome, finished, stopped, done, sum}
use Rattle.machine.specs.Steps.{difference, is_less, branch, element, at_place, provided, taking}
use Rattle.machine.specs.Steps.{taking_all, numbers_onto, nearest_frame, ruled, goto, next, halts}
use Rattle.machine.specs.Steps.{with_fuel, asking, arithmetic, return_to, attempt, tried, step}
use Rattle.machine.specs.declared.answers.Stop.{Stop}
use Rattle.machine.specs.declared.answers.Stop.TheVariants.{OutsideProgram, OutsideMemory, HaltAboveBottom}
use Rattle.machine.specs.declared.parts.Labelled.{Labelled}
use Rattle.machine.specs.declared.parts.Frame.{Frame as ReturnFrame}
use Rattle.machine.specs.declared.parts.Entry.{Entry}
use Rattle.machine.specs.declared.parts.Operation.{Operation}
use Rattle.machine.specs.declared.parts.Operation.TheVariants.{Push, Pop, Noop, Add, Sub, Less, Load, Store}
use Rattle.machine.specs.declared.parts.Operation.TheVariants.{Jump, Bnz, Call, Return, Output, Halt}
use Rattle.machine.proofs.Alikes.{Memories, memories_sym, memories_trans, overwritten}
use Rattle.machine.proofs.Alikes.{alike_one, alike_copy, alike_two, same_number}
use Rattle.machine.proofs.Alikes.{labels_alike, alike_number, same_frame, Stacks}
use Rattle.machine.proofs.Commands.{shown_alike}
use Rattle.machine.proofs.Flows.{On, allows, Both, left_forbids, right_forbids}
use Rattle.machine.proofs.Flows.{both_allow, TwoFlow, Flow, AlikeVerdicts, Secure}
use Rattle.machine.proofs.Hiding.{Visible, AlikeLabels}
use Rattle.machine.proofs.Lists.{each_set_place}
use Rattle.machine.proofs.Outcomes.{at_place_any}
use Rattle.machine.proofs.SideBySide.{counter, SameSight, Alongside, both_visible}
use Rattle.machine.proofs.SideBySide.{alongside, fit_idle, fit_running, Matches, left_stops}
use Rattle.machine.proofs.SideBySide.{right_stops, left_alone, right_alone, together}

-- a round with another program counter
abbrev moved_to : {L : Type 0} → Labelled L → Round L → Round L
moved_to c s = record { pc = c.value; pc_label = c.label; stack = s.stack; kept = s.kept }

module _ {L : Type 0} (kind : Kind L) (o : L) where
  abbrev Near : Labelled L → Labelled L → Type 0
  Near = Alike kind o

  -- Numbers, cells, frames and verdicts that both steps take: where one has none it stops.
  module _ (r s : Round L) where
    abbrev Match : Outcome L → Outcome L → Type 0
    Match = Matches kind o r s

    provided_match : (stop : Stop) {x y : Outcome L} (b c : Bool) → Match x y
        → Match (provided b stop x) (provided c stop y)
    provided_match stop true true h = h
    provided_match stop true false h = right_stops
    provided_match stop false c h = left_stops

    taking_match : {es fs : List (Entry L)} {k h : Labelled L → List (Entry L) → Outcome L} → Stacks kind o es fs
        → ((a b : Labelled L) (us vs : List (Entry L)) → Near a b → Stacks kind o us vs → Match (k a us) (h b vs))
        → Match (taking es k) (taking fs h)
    taking_match none f = left_stops
    taking_match (more (alike_number x) t) f = f _ _ _ _ x t
    taking_match (more (same_frame e) t) f = left_stops

    taking_all_match : (n : ℕ) {es fs : List (Entry L)} {k h : List (Labelled L) → List (Entry L) → Outcome L}
        → Stacks kind o es fs
        → ((xs ys : List (Labelled L)) (us vs : List (Entry L)) → Memories kind o xs ys
        → Stacks kind o us vs → Match (k xs us) (h ys vs))
        → Match (taking_all n es k) (taking_all n fs h)
    taking_all_match zero t f = f _ _ _ _ none t
    taking_all_match (suc n) t f =
        taking_match t
        (λ a b us vs x u. taking_all_match n u (λ xs ys ws zs p q. f _ _ _ _ (more x p) q))

    nearest_frame_match : {es fs : List (Entry L)}
        {k h : ReturnFrame L → List (Entry L) → Outcome L}
        → Stacks kind o es fs
        → ((f g : ReturnFrame L) (us vs : List (Entry L)) → f ≡ g → Stacks kind o us vs → Match (k f us) (h g vs))
        → Match (nearest_frame es k) (nearest_frame fs h)
    nearest_frame_match none f = left_stops
    nearest_frame_match (more (alike_number x) t) f = nearest_frame_match t f
    nearest_frame_match (more (same_frame e) t) f = f _ _ _ _ e t

    element_match : {A : Type 0} {R : A → A → Type 0} {xs ys : List A} (stop : Stop)
        {k h : A → Outcome L} (i : ℕ)
        → Each R xs ys
        → ((a b : A) → R a b → Match (k a) (h b))
        → Match (element xs i (stopped stop) k) (element ys i (stopped stop) h)
    element_match stop i none f = left_stops
    element_match stop zero (more x t) f = f _ _ x
    element_match stop (suc i) (more x t) f = element_match stop i t f

    -- at one place
    at_place_match : {A : Type 0} {R : A → A → Type 0} {xs ys : List A} (stop : Stop)
        {k h : A → Outcome L} (z : ℤ) {z' : ℤ}
        → z ≡ z' → Each R xs ys
        → ((a b : A) → R a b → Match (k a) (h b))
        → Match (at_place xs z (stopped stop) k) (at_place ys z' (stopped stop) h)
    at_place_match {xs} {ys} stop {k} {h} z e t f =
        subst (λ (z' : ℤ). Match (at_place xs z (stopped stop) k) (at_place ys z' (stopped stop) h))
        e (place z)
      where
        place : (z : ℤ) → Match (at_place xs z (stopped stop) k) (at_place ys z (stopped stop) h)
        place (pos i) = element_match stop i t f
        place (negsuc i) = left_stops

    -- at any two places of two memories
    any_cells_match : (stop : Stop) {m n : List (Labelled L)} {k h : Labelled L → Outcome L} (z z' : ℤ)
        → ((v w : Labelled L) → set_place m z v ≡ m → set_place n z' w ≡ n → Match (k v) (h w))
        → Match (at_place m z (stopped stop) k) (at_place n z' (stopped stop) h)
    any_cells_match stop {m} {n} {k} {h} z z' f =
        at_place_any {Q = λ x. Match x (at_place n z' (stopped stop) h)}
        (record { stops = λ _. left_stops }) m z stop λ v e.
        at_place_any {Q = λ y. Match (k v) y} (record { stops = λ _. right_stops }) n z' stop λ w d. f v w e d

    ruled_match : {Q : L → L → L → L → Type 0} {F G : L → L → Type 0} {x y : Option (Verdict L)}
        {k h : L → L → Outcome L}
        → Both Q x y → On F x → On G y
        → ((N R N' R' : L) → Q N R N' R' → F N R → G N' R' → Match (k N R) (h N' R')) → Match (ruled x k) (ruled y h)
    ruled_match left_forbids f g m = left_stops
    ruled_match right_forbids f g m = right_stops
    ruled_match (both_allow q) (allows f) (allows g) m = m _ _ _ _ q f g

  onto_alike : {xs ys : List (Labelled L)} {es fs : List (Entry L)} → Memories kind o xs ys → Stacks kind o es fs
      → Stacks kind o (numbers_onto xs es) (numbers_onto ys fs)
  onto_alike none t = t
  onto_alike (more x xs) t = more (alike_number x) (onto_alike xs t)

  module _ (table : Table L) (secure : Secure kind o table) (setup₁ setup₂ : Setup L)
      (r s₀ : Round L) (visible : Visible kind o r.pc_label)
      (stacks : Stacks kind o r.stack s₀.stack) (sight : SameSight kind o r.kept s₀.kept) where
    -- the other round, at the same place
    abbrev s : Round L
    s = moved_to (counter r) s₀

    -- how two outcomes match
    abbrev M : Outcome L → Outcome L → Type 0
    M = Match r s

    abbrev try₁ : Operation L → Outcome L
    try₁ op = tried kind table setup₁ op r

    abbrev try₂ : Operation L → Outcome L
    try₂ op = tried kind table setup₂ op s

    here : Alongside kind o r s
    here = both_visible visible refl stacks sight

    both_done : {r' s' : Round L} → Near (counter r') (counter s') → Stacks kind o r'.stack s'.stack
        → SameSight kind o r'.kept s'.kept → M (done r') (done s')
    both_done near t v = together (fit_running (alongside kind o near t v))

    -- both go on with the memory and the commands as they were
    onward : {p q : ℤ} {N N' : L} {es fs : List (Entry L)} → Near (p at N) (q at N') → Stacks kind o es fs
        → M (goto r p N es) (goto s q N' fs)
    onward near t = both_done near t sight

    onward_next : {N N' : L} {es fs : List (Entry L)} → AlikeLabels kind o N N' → Stacks kind o es fs
        → M (next r N es) (next s N' fs)
    onward_next alike = onward (same_number kind o (r.pc +ℤ pos 1) alike)

    -- asked with alike labels
    asking_match : (op : Opcode) {a a' b b' c c' : L} {k h : L → L → Outcome L} → AlikeLabels kind o a a'
        → AlikeLabels kind o b b' → AlikeLabels kind o c c'
        → ((N R N' R' : L) → AlikeVerdicts kind o N R N' R' → Flow kind o op r.pc_label a b c N R
        → Flow kind o op r.pc_label a' b' c' N' R'
        → M (k N R) (h N' R'))
        → M (asking kind table setup₁ op r a b c k) (asking kind table setup₂ op s a' b' c' h)
    asking_match op a_alike b_alike c_alike =
        ruled_match r s (secure.alike op r.pc_label a_alike b_alike c_alike) (secure.flows op _ _ _ _)
        (secure.flows op _ _ _ _)

    push_match : (v w : Labelled L) → Near v w → M (try₁ (Push v)) (try₂ (Push w))
    push_match v w x =
        provided_match r s _ _ _
        (asking_match opcode.Push (labels_alike kind o x) (inl refl) (inl refl) λ _ _ _ _ t f g.
        onward_next t.pc (more (alike_number (alike_copy kind o x t.result f.a_result g.a_result)) stacks))

    arithmetic_match : (op : Opcode) (f : ℤ → ℤ → ℤ)
        → ((a b N R : L) → Flow kind o op r.pc_label a b kind.bottom N R → TwoFlow kind o r.pc_label a b N R)
        → M (arithmetic kind table setup₁ op f r) (arithmetic kind table setup₂ op f s)
    arithmetic_match op f carries =
        taking_match r s stacks λ a a' _ _ x rest.
        taking_match r s rest λ b b' _ _ y rest.
        asking_match op (labels_alike kind o x) (labels_alike kind o y) (inl refl) λ N R N' R' t f₁ f₂.
        let c₁ = carries _ _ N R f₁ in
        let c₂ = carries _ _ N' R' f₂ in
        onward_next t.pc
        (more
        (alike_number
        (alike_two kind o f y x t.result c₁.b_result c₂.b_result c₁.a_result c₂.a_result))
        rest)

    return_match : (due : Bool) (f : ReturnFrame L) {es fs : List (Entry L)} → Stacks kind o es fs
        → M (return_to kind table setup₁ due f es r) (return_to kind table setup₂ due f fs s)
    return_match true frame rest =
        taking_match r s stacks λ a a' _ _ x _.
        asking_match opcode.Return (inl refl) (labels_alike kind o x) (inl refl) λ _ _ _ _ t f g.
        onward (same_number kind o frame.place t.pc)
        (more (alike_number (alike_copy kind o x t.result f.b_result g.b_result)) rest)
    return_match false frame rest =
        asking_match opcode.Return (inl refl) (inl refl) (inl refl) λ _ _ _ _ t f g.
        onward (same_number kind o frame.place t.pc) rest

    halt_match : (b : Bool) → M (cond b finished (stopped HaltAboveBottom)) (cond b finished (stopped HaltAboveBottom))
    halt_match true = together (fit_idle sight)
    halt_match false = left_stops

    tried_match : (op : Operation L) → M (try₁ op) (try₂ op)
    tried_match (Push v) = push_match v v (inl refl)
    tried_match Pop =
        taking_match r s stacks λ a a' _ _ x rest.
        asking_match opcode.Pop (labels_alike kind o x) (inl refl) (inl refl) λ _ _ _ _ t _ _.
        onward_next t.pc rest
    tried_match Noop =
        asking_match opcode.Noop (inl refl) (inl refl) (inl refl)
        λ _ _ _ _ t _ _. onward_next t.pc stacks
    tried_match Add = arithmetic_match opcode.Add sum (λ _ _ _ _ f. f)
    tried_match Sub = arithmetic_match opcode.Sub difference (λ _ _ _ _ f. f)
    tried_match Less = arithmetic_match opcode.Less is_less (λ _ _ _ _ f. f)
    -- at one address alike cells are read, and at hidden addresses the result is hidden
    tried_match Load =
        taking_match r s stacks λ a a' _ _ x rest.
        ⊎_elim
        (λ e.
        at_place_match r s OutsideMemory a.value (ap (λ (v : Labelled L). v.value) e) sight.memories λ _ _ y.
        asking_match opcode.Load (labels_alike kind o x) (labels_alike kind o y) (inl refl) λ _ _ _ _ t f g.
        onward_next t.pc (more (alike_number (alike_copy kind o y t.result f.b_result g.b_result)) rest))
        (λ h.
        any_cells_match r s OutsideMemory a.value a'.value λ _ _ _ _.
        ruled_match r s (secure.loads r.pc_label h.0 h.1) (secure.flows opcode.Load _ _ _ _)
        (secure.flows opcode.Load _ _ _ _) λ _ _ _ _ t f g.
        onward_next t (more (alike_number (inr (f.a_result h.0, g.a_result h.1))) rest))
        x
    -- at one address alike cells get alike numbers, and at hidden addresses hidden cells get hidden numbers
    tried_match Store =
        taking_match r s stacks λ a a' _ _ x rest.
        taking_match r s rest λ b b' _ _ y rest.
        ⊎_elim
        (λ e.
        at_place_match r s OutsideMemory a.value (ap (λ (v : Labelled L). v.value) e) sight.memories λ _ _ z.
        asking_match opcode.Store (labels_alike kind o x) (labels_alike kind o y)
        (labels_alike kind o z) λ _ _ _ _ t f g.
        both_done (same_number kind o (r.pc +ℤ pos 1) t.pc) rest (record {
          memories =
              each_set_place a.value (ap (λ (v : Labelled L). v.value) e) sight.memories
              (alike_copy kind o y t.result f.b_result g.b_result);
          commands = sight.commands;
        }))
        (λ h.
        any_cells_match r s OutsideMemory a.value a'.value λ _ _ e e'.
        ruled_match r s (secure.stores r.pc_label h.0 h.1) (secure.flows opcode.Store _ _ _ _)
        (secure.flows opcode.Store _ _ _ _) λ _ _ _ _ t f g.
        both_done (same_number kind o (r.pc +ℤ pos 1) t) rest (record {
          memories =
              memories_trans kind o
              (memories_sym kind o
              (overwritten kind o r.kept.memory a.value _ _ e (f.a_cell h.0) (f.a_result h.0)))
              (memories_trans kind o sight.memories
              (overwritten kind o s.kept.memory a'.value _ _ e' (g.a_cell h.1)
              (g.a_result h.1)));
          commands = sight.commands;
        }))
        x
    tried_match Jump =
        taking_match r s stacks λ a a' _ _ x rest.
        asking_match opcode.Jump (labels_alike kind o x) (inl refl) (inl refl) λ _ _ _ _ t f g.
        onward (alike_copy kind o x t.pc f.a_pc g.a_pc) rest
    tried_match (Bnz k) =
        taking_match r s stacks λ a a' _ _ x rest.
        asking_match opcode.Bnz (labels_alike kind o x) (inl refl) (inl refl) λ _ _ _ _ t f g.
        onward (alike_one kind o (branch r.pc k) x t.pc f.a_pc g.a_pc) rest
    tried_match (Call k due) =
        taking_match r s stacks λ a a' _ _ x rest.
        taking_all_match r s k rest λ _ _ _ _ numbers rest.
        asking_match opcode.Call (labels_alike kind o x) (inl refl) (inl refl) λ _ _ _ _ t f g.
        onward (alike_copy kind o x t.pc f.a_pc g.a_pc)
        (onto_alike numbers
        (more
        (same_frame
        (ap (λ (l : L). record { place = r.pc +ℤ pos 1; due = due; label = l })
        (f.p_frame ∙ sym g.p_frame)))
        rest))
    tried_match Return = nearest_frame_match r s stacks λ f g es fs e rest.
        subst
        (λ (g : ReturnFrame L). M (return_to kind table setup₁ f.due f es r)
        (return_to kind table setup₂ g.due g fs s))
        e (return_match f.due f rest)
    tried_match Output =
        taking_match r s stacks λ a a' _ _ x rest.
        provided_match r s _ _ _
        (asking_match opcode.Output (labels_alike kind o x) (inl refl) (inl refl)
        λ _ _ _ _ t f g.
        both_done (same_number kind o (r.pc +ℤ pos 1) t.pc) rest (record {
          memories = sight.memories;
          commands =
              shown_alike kind o r.kept.commands s.kept.commands sight.commands
              (alike_copy kind o x t.result f.a_result g.a_result);
        }))
    tried_match Halt = halt_match (kind.below r.pc_label kind.bottom)

    -- without fuel a round stays where it is, beside the other
    with_fuel_match : (f g : ℕ) {x y : Outcome L} → M x y → M (with_fuel f x) (with_fuel g y)
    with_fuel_match zero g h = left_alone (fit_running here)
    with_fuel_match (suc f) zero h = right_alone (fit_running here)
    with_fuel_match (suc f) (suc g) h = h

    operation_match : (f g : ℕ) (op op' : Operation L) → AlikeOperation kind o op op'
        → M (attempt kind table setup₁ f r op) (attempt kind table setup₂ g s op')
    operation_match f g op op' same_operation =
        tested (halts op) (halt_match (kind.below r.pc_label kind.bottom))
        (with_fuel_match f g (tried_match op))
      where
        tested : (b : Bool) {x y z w : Outcome L} → M x y → M z w → M (cond b x z) (cond b y w)
        tested true h k = h
        tested false h k = k
    operation_match f g op op' (alike_push x) = with_fuel_match f g (push_match _ _ x)

  -- a step of each, with any fuel
  pub visible_steps : (table : Table L) → Secure kind o table → (setup₁ setup₂ : Setup L)
      → Each (AlikeOperation kind o) setup₁.program setup₂.program
      → (f g : ℕ) (r s : Round L) → Visible kind o r.pc_label → counter r ≡ counter s → Stacks kind o r.stack s.stack
      → SameSight kind o r.kept s.kept
      → Matches kind o r s (step kind table setup₁ f r) (step kind table setup₂ g s)
  visible_steps table secure setup₁ setup₂ programs f g r s visible e stacks sight =
      subst
      (λ (c : Labelled L). Matches kind o r (moved_to c s) (step kind table setup₁ f r)
      (step kind table setup₂ g (moved_to c s)))
      e
      (at_place_match r (moved_to (counter r) s) OutsideProgram r.pc refl programs
      (operation_match table secure setup₁ setup₂ r s visible stacks sight f g))
