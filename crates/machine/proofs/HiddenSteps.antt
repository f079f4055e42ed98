-- A step at a hidden place shows nothing: it ends, stays hidden, or returns to the topmost visible frame.
use Rattle.std.proofs.Common.{◌≡◌, ℕ, Bool, true, false, cond, ◌⊎◌, List, [], ◌∷◌, ℤ}
use Rattle.std.proofs.Common.{pos, ◌+ℤ◌, sym, refl, ap, ◌∙◌, subst, subst₂, inl, inr}
use Rattle.labels.specs.Kind.{Kind, Lawful}
use Rattle.rules.specs.Tables.{Table}
use Rattle.rules.specs.declared.Opcode.{Opcode}
use Rattle.rules.specs.declared.Opcode.TheVariants as opcode
use Rattle.machine.specs.Lists.{more}
use Rattle.machine.specs.Steps.{◌at◌, Setup, Round, Outcome, finished, later, stopped, done}
use Rattle.machine.specs.Steps.{numbers_onto, goto, asking, arithmetic, return_to, tried, step}
use Rattle.machine.specs.declared.answers.Stop.{Stop}
use Rattle.machine.specs.declared.answers.Stop.TheVariants.{OutsideMemory}
use Rattle.machine.specs.declared.parts.Labelled.{Labelled}
use Rattle.machine.specs.declared.parts.Frame.{Frame as ReturnFrame}
use Rattle.machine.specs.declared.parts.Entry.{Entry}
use Rattle.machine.specs.declared.parts.Entry.TheVariants.{Number, Frame}
use Rattle.machine.specs.declared.parts.Operation.{Operation}
use Rattle.machine.specs.declared.parts.Operation.TheVariants.{Push, Pop, Noop, Add, Sub, Less, Load, Store}
use Rattle.machine.specs.declared.parts.Operation.TheVariants.{Jump, Bnz, Call, Return, Output, Halt}
use Rattle.machine.proofs.Alikes.{overwritten, alike_number, same_frame, Stacks, crop}
use Rattle.machine.proofs.Commands.{shown_hidden}
use Rattle.machine.proofs.Flows.{TwoFlow, Flow, Secure}
use Rattle.machine.proofs.Hiding.{Visible, Hidden, visible_or_hidden, never_both}
use Rattle.machine.proofs.Outcomes.{AtStops, provided_any, taking_any, taking_all_any}
use Rattle.machine.proofs.Outcomes.{nearest_frame_any, at_place_any, ruled_any, halted_any, step_any}
use Rattle.machine.proofs.SideBySide.{counter, SameSight, sight_refl, sight_sym, sight_trans}
use Rattle.machine.proofs.SideBySide.{Alongside, both_hidden, alongside, fit_running, Matches}
use Rattle.machine.proofs.SideBySide.{left_stops, right_stops, left_alone, right_alone, together}

module _ {L : Type 0} (kind : Kind L) (o : L) where
  -- What a return leaves on the rest of the stack: a hidden number if a result is due, else nothing.
  abbrev pub Returned : Bool → List (Entry L) → List (Entry L) → Type 0
  Returned true rest
      es = record {
        number : Labelled L;
        hidden : Hidden kind o number.label;
        is : es ≡ Number number ∷ rest;
      }
  Returned false rest es = es ≡ rest

  -- The round has come back to the frame that `shown` begins with.
  pub record Came (shown : List (Entry L)) (r' : Round L) : Type 0 where
    pub frame : ReturnFrame L
    pub rest : List (Entry L)
    pub topmost : shown ≡ Frame frame ∷ rest
    pub place : counter r' ≡ frame.place at frame.label
    pub stack : Returned frame.due rest r'.stack

  -- what a step of the round r at a hidden place comes to
  pub data Hides (r : Round L) : Outcome L → Type 0 where
    hides_stop : {n : Stop} → Hides r (stopped n)
    hides_later : Hides r later
    stays : {r' : Round L} → Hidden kind o r'.pc_label → crop kind o r'.stack ≡ crop kind o r.stack
        → SameSight kind o r.kept r'.kept → Hides r (done r')
    comes : {r' : Round L} → Came (crop kind o r.stack) r' → SameSight kind o r.kept r'.kept → Hides r (done r')

  hidden_frame : (f : ReturnFrame L) (es : List (Entry L)) → Hidden kind o f.label
      → crop kind o (Frame f ∷ es) ≡ crop kind o es
  hidden_frame f es h = ap (λ (b : Bool). cond b (Frame f ∷ es) (crop kind o es)) h

  visible_frame : (f : ReturnFrame L) (es : List (Entry L)) → Visible kind o f.label
      → crop kind o (Frame f ∷ es) ≡ Frame f ∷ es
  visible_frame f es v = ap (λ (b : Bool). cond b (Frame f ∷ es) (crop kind o es)) v

  onto_crop : (xs : List (Labelled L)) (es : List (Entry L)) → crop kind o (numbers_onto xs es) ≡ crop kind o es
  onto_crop [] es = refl
  onto_crop (x ∷ xs) es = onto_crop xs es

  -- Two that come back do so together: frames that tell alike are the same frame.
  come_together : {shown₁ shown₂ : List (Entry L)} {r' s' : Round L} → Stacks kind o shown₁ shown₂
      → SameSight kind o r'.kept s'.kept
      → Came shown₁ r' → Came shown₂ s' → Alongside kind o r' s'
  come_together {r'} {s'} stacks sight c d = from (subst₂ (Stacks kind o) c.topmost d.topmost stacks)
    where
      returned : (due : Bool) {us vs : List (Entry L)} → Stacks kind o us vs → Returned due us r'.stack
          → Returned due vs s'.stack → Stacks kind o r'.stack s'.stack
      returned true t a b =
          subst₂ (Stacks kind o) (sym a.is) (sym b.is)
          (more (alike_number (inr (a.hidden, b.hidden))) t)
      returned false t a b = subst₂ (Stacks kind o) (sym a) (sym b) t

      from : Stacks kind o (Frame c.frame ∷ c.rest) (Frame d.frame ∷ d.rest) → Alongside kind o r' s'
      from (more (same_frame e) t) = alongside kind o
          (inl (c.place ∙ ap (λ (f : ReturnFrame L). f.place at f.label) e ∙ sym d.place))
          (returned c.frame.due t c.stack
          (subst (λ (f : ReturnFrame L). Returned f.due d.rest s'.stack) (sym e) d.stack))
          sight

  -- a step of each of two rounds at hidden places: one that stays hidden goes ahead alone, two that come back
  -- do so together
  pub hidden_match : {r s : Round L} {x y : Outcome L} → Hidden kind o r.pc_label → Hidden kind o s.pc_label
      → Stacks kind o (crop kind o r.stack) (crop kind o s.stack) → SameSight kind o r.kept s.kept → Hides r x
      → Hides s y → Matches kind o r s x y
  hidden_match h k stacks sight hides_stop hy = left_stops
  hidden_match h k stacks sight hides_later hy = left_alone (fit_running (both_hidden h k stacks sight))
  hidden_match {s} h k stacks sight (stays h' c sees) hy =
      left_alone
      (fit_running
      (both_hidden h' k
      (subst (λ (es : List (Entry L)). Stacks kind o es (crop kind o s.stack)) (sym c) stacks)
      (sight_trans kind o (sight_sym kind o sees) sight)))
  hidden_match h k stacks sight (comes c sees) hides_stop = right_stops
  hidden_match h k stacks sight (comes c sees) hides_later = right_alone (fit_running (both_hidden h k stacks sight))
  hidden_match {r} h k stacks sight (comes c sees) (stays k' d sees') =
      right_alone
      (fit_running
      (both_hidden h k'
      (subst (λ (es : List (Entry L)). Stacks kind o (crop kind o r.stack) es) (sym d) stacks)
      (sight_trans kind o sight sees')))
  hidden_match h k stacks sight (comes c sees) (comes d sees') =
      together
      (fit_running
      (come_together stacks
      (sight_trans kind o (sight_sym kind o sees) (sight_trans kind o sight sees')) c d))

module _ {L : Type 0} {kind : Kind L} (laws : Lawful kind) (o : L) (table : Table L)
    (secure : Secure kind o table) (setup : Setup L)
    (r : Round L) (hidden : Hidden kind o r.pc_label) where
  abbrev Hid : Outcome L → Type 0
  Hid = Hides kind o r

  -- a stack that tells what the round's stack told
  abbrev Tells : List (Entry L) → Type 0
  Tells es = crop kind o es ≡ crop kind o r.stack

  stops : AtStops Hid
  stops = record { stops = λ n. hides_stop }

  -- What is left tells the same once a number is taken, or numbers are.
  taken : {es us : List (Entry L)} {a : Labelled L} → Tells es → es ≡ Number a ∷ us → Tells us
  taken t e = sym (ap (crop kind o) e) ∙ t

  all_taken : {es : List (Entry L)} (xs : List (Labelled L)) (us : List (Entry L)) → Tells es
      → es ≡ numbers_onto xs us → Tells us
  all_taken xs us t e = sym (ap (crop kind o) e ∙ onto_crop kind o xs us) ∙ t

  asking_hides : (op : Opcode) (a b c : L) {k : L → L → Outcome L}
      → ((N R : L) → Flow kind o op r.pc_label a b c N R → Hid (k N R)) → Hid (asking kind table setup op r a b c k)
  asking_hides op a b c = ruled_any stops (secure.flows op r.pc_label a b c)

  -- on at a hidden place, with the memory and the commands as they were
  stay : {p : ℤ} {N : L} {es : List (Entry L)} → Hidden kind o N → Tells es → Hid (goto r p N es)
  stay h e = stays h e (sight_refl kind o r.kept)

  arithmetic_hides : (op : Opcode) (f : ℤ → ℤ → ℤ)
      → ((a b N R : L) → Flow kind o op r.pc_label a b kind.bottom N R → TwoFlow kind o r.pc_label a b N R)
      → Hid (arithmetic kind table setup op f r)
  arithmetic_hides op f carries =
      taking_any stops r.stack λ a es e.
      taking_any stops es λ b us d.
      asking_hides op _ _ _ λ N R q.
      stay ((carries _ _ N R q).p_pc hidden) (taken (taken refl e) d)

  -- back to a frame: a visible one is the topmost, and a hidden one changes nothing that tells
  back : (f : ReturnFrame L) (rest es : List (Entry L)) {N : L} → Tells (Frame f ∷ rest)
      → crop kind o es ≡ crop kind o rest
      → N ≡ f.label
      → Returned kind o f.due rest es → Hid (goto r f.place N es)
  back f rest es {N} e c n returned = at_level (visible_or_hidden kind o f.label)
    where
      at_level : Visible kind o f.label ⊎ Hidden kind o f.label → Hid (goto r f.place N es)
      at_level (inl v) = comes (record {
        frame = f;
        rest = rest;
        topmost = sym e ∙ visible_frame kind o f rest v;
        place = ap (λ (l : L). f.place at l) n;
        stack = returned;
      }) (sight_refl kind o r.kept)
      at_level (inr h) =
          stay (subst (λ (l : L). Hidden kind o l) (sym n) h)
          (c ∙ sym (hidden_frame kind o f rest h) ∙ e)

  return_hides : (due : Bool) (f : ReturnFrame L) (rest : List (Entry L)) → f.due ≡ due → Tells (Frame f ∷ rest)
      → Hid (return_to kind table setup due f rest r)
  return_hides true f rest d e =
      taking_any stops r.stack λ a _ _.
      asking_hides opcode.Return _ _ _ λ N R q.
      back f rest (Number (a.value at R) ∷ rest) e refl q.frame_pc
      (subst (λ (b : Bool). Returned kind o b rest (Number (a.value at R) ∷ rest)) (sym d)
      (record { number = a.value at R; hidden = q.p_result hidden; is = refl }))
  return_hides false f rest d e =
      asking_hides opcode.Return _ _ _ λ N R q.
      back f rest rest e refl q.frame_pc (subst (λ (b : Bool). Returned kind o b rest rest) (sym d) refl)

  -- a hidden round does not finish: its label is not bottom
  halt_hides : kind.below r.pc_label kind.bottom ≡ true → Hid finished
  halt_hides e = never_both kind o r.pc_label (laws.transitive r.pc_label kind.bottom o e (laws.least o)) hidden

  tried_hides : (op : Operation L) → Hid (tried kind table setup op r)
  tried_hides (Push v) = provided_any stops _ _ λ _. asking_hides opcode.Push _ _ _ λ N R q. stay (q.p_pc hidden) refl
  tried_hides Pop =
      taking_any stops r.stack
      λ a es e. asking_hides opcode.Pop _ _ _ λ N R q. stay (q hidden) (taken refl e)
  tried_hides Noop = asking_hides opcode.Noop _ _ _ λ N R q. stay (q hidden) refl
  tried_hides Add = arithmetic_hides opcode.Add _ (λ _ _ _ _ q. q)
  tried_hides Sub = arithmetic_hides opcode.Sub _ (λ _ _ _ _ q. q)
  tried_hides Less = arithmetic_hides opcode.Less _ (λ _ _ _ _ q. q)
  tried_hides Load =
      taking_any stops r.stack λ a es e.
      at_place_any stops r.kept.memory a.value OutsideMemory λ cell _.
      asking_hides opcode.Load _ _ _ λ N R q.
      stay (q.p_pc hidden) (taken refl e)
  tried_hides Store =
      taking_any stops r.stack λ a es e.
      taking_any stops es λ b us d.
      at_place_any stops r.kept.memory a.value OutsideMemory λ cell same.
      asking_hides opcode.Store _ _ _ λ N R q.
      stays (q.p_pc hidden) (taken (taken refl e) d)
      (record {
        memories =
            overwritten kind o r.kept.memory a.value _ _ same (q.p_cell hidden) (q.p_result hidden);
        commands = refl;
      })
  tried_hides Jump =
      taking_any stops r.stack
      λ a es e. asking_hides opcode.Jump _ _ _ λ N R q. stay (q.p_pc hidden) (taken refl e)
  tried_hides (Bnz k) =
      taking_any stops r.stack
      λ a es e. asking_hides opcode.Bnz _ _ _ λ N R q. stay (q.p_pc hidden) (taken refl e)
  tried_hides (Call k due) =
      taking_any stops r.stack λ a es e.
      taking_all_any stops k es λ xs us d.
      asking_hides opcode.Call _ _ _ λ N R q.
      let frame : ReturnFrame L = record { place = r.pc +ℤ pos 1; due = due; label = R } in
      stay (q.p_pc hidden)
      (onto_crop kind o xs (Frame frame ∷ us)
      ∙ hidden_frame kind o frame us (subst (λ (l : L). Hidden kind o l) (sym q.p_frame) hidden)
      ∙ all_taken xs us (taken refl e) d)
  tried_hides Return =
      nearest_frame_any stops r.stack
      λ xs f rest e. return_hides f.due f rest refl (all_taken xs (Frame f ∷ rest) refl e)
  tried_hides Output =
      taking_any stops r.stack λ a es e.
      provided_any stops _ _ λ _.
      asking_hides opcode.Output _ _ _ λ N R q.
      stays (q.p_pc hidden) (taken refl e)
      (record {
        memories = (sight_refl kind o r.kept).memories;
        commands = shown_hidden kind o r.kept.commands (a.value at R) (q.p_result hidden);
      })
  tried_hides Halt = halted_any stops kind table setup r halt_hides

  -- a step, with any fuel
  pub hidden_step : (fuel : ℕ) → Hid (step kind table setup fuel r)
  hidden_step fuel = step_any stops kind table setup fuel r (λ _. hides_later) halt_hides (λ _ _. tried_hides)
