-- Operations, numbers and calls that are alike to an observer.
use Rattle.std.proofs.Common.{◌≡◌, ◌↔◌, IsTrue, Bool, true, false, not, ℕ, pos, List, [], ◌∷◌, refl, sym, ap, ◌∙◌, inl}
use Rattle.labels.specs.Kind.{Kind}
use Rattle.machine.specs.Calls.{Input, enters, is_some_input}
use Rattle.machine.specs.Lists.{Each, none, more}
use Rattle.machine.specs.Observer.{Alike, AlikeOperation, same_operation, alike_push, AlikeInput, alike_enter}
use Rattle.machine.specs.declared.parts.Labelled.{Labelled}
use Rattle.machine.specs.declared.parts.Operation.{Operation}
use Rattle.machine.specs.declared.parts.Operation.TheVariants.{Push, Pop, Noop, Add, Sub, Less, Load, Store}
use Rattle.machine.specs.declared.parts.Operation.TheVariants.{Jump, Bnz, Call, Return, Output, Halt}
use Rattle.compare.specs.Tests.{without_number}

abbrev pub is_push : {X : Type 0} → Operation X → Bool
is_push (Push v) = true
is_push op = false

-- Without its number a push is still one, and no other operation is.
still_push : {L : Type 0} (op : Operation L) → is_push (without_number op) ≡ is_push op
still_push (Push v) = refl
still_push op = refl

-- Any other operation is told from the others without its number.
abbrev pub put_back : {L : Type 0} → Labelled L → Operation Bool → Operation L
put_back v (Push w) = Push v
put_back v Pop = Pop
put_back v Noop = Noop
put_back v Add = Add
put_back v Sub = Sub
put_back v Less = Less
put_back v Load = Load
put_back v Store = Store
put_back v Jump = Jump
put_back v (Bnz k) = Bnz k
put_back v (Call count due) = Call count due
put_back v Return = Return
put_back v Output = Output
put_back v Halt = Halt

as_it_was : {L : Type 0} (v : Labelled L) (op : Operation L) → is_push op ≡ false → put_back v (without_number op) ≡ op
as_it_was v (Push w) never = cc
as_it_was v op never = refl

module _ {L : Type 0} (kind : Kind L) (o : L) where
  -- Of operations that are not both pushes, alike ones are the same without their numbers.
  pub same_without : (one two : Operation L) → AlikeOperation kind o one two → without_number one ≡ without_number two
  same_without one two same_operation = refl
  same_without one two (alike_push a) = refl

  other_alike : (v : Labelled L) (one two : Operation L) → is_push one ≡ false
      → without_number one ≡ without_number two → AlikeOperation kind o one two
  other_alike v one two other same = rw (sym (as_it_was v one other) ∙ ap (put_back v) same ∙ as_it_was v two
      (sym (ap is_push same ∙ still_push two) ∙ still_push one ∙ other)) same_operation

  never_push : (op : Operation L) → ((v : Labelled L) → (op ≡ Push v) → ⊥) → is_push op ≡ false
  never_push (Push v) never = absurd (never v refl)
  never_push op never = refl

  -- a number to put back, whichever
  any : Labelled L
  any = record { value = pos 0; label = o }

  pub first_other : (one two : Operation L) → ((v : Labelled L) → (one ≡ Push v) → ⊥)
      → without_number one ≡ without_number two → AlikeOperation kind o one two
  first_other one two never = other_alike any one two (never_push one never)

  pub second_other : (one two : Operation L) → ((v : Labelled L) → (two ≡ Push v) → ⊥)
      → without_number one ≡ without_number two → AlikeOperation kind o one two
  second_other one two never same = other_alike any one two (sym (still_push one) ∙ ap is_push same ∙ still_push two
      ∙ never_push two never) same

  -- Alike pushes are those with alike numbers.
  pub alike_number : (v w : Labelled L) → AlikeOperation kind o (Push v) (Push w) → Alike kind o v w
  alike_number v w same_operation = inl refl
  alike_number v w (alike_push a) = a

  -- Calls are alike if each stands for one enter, and these are alike.
  pub entered_alike : (cell other : ℕ) (v w : Labelled L)
      → Each (AlikeInput kind o) (enters cell v ∷ []) (enters other w ∷ []) → Alike kind o v w
  entered_alike cell other v w (more (alike_enter a) none) = a

  -- Calls that stand for no enter or start are alike, and such a call is alike to no other.
  pub neither : (is js : List (Input L)) → is_some_input is ≡ false → (b : Bool) → b ≡ is_some_input js
      → IsTrue (not b) ↔ Each (AlikeInput kind o) is js
  neither [] [] never b tested = (λ _. none, λ _. ap not tested)
  neither [] (j ∷ js) never b tested = (λ no. cc (sym (ap not tested) ∙ no), λ each. elim each [ ])
  neither (i ∷ is) js never b tested = cc never
