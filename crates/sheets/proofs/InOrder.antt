-- One line more, said at the end.
use Rattle.std.specs.Result.{is_ok, IfOk, MatchResult, IsErrAnd}
use Rattle.std.proofs.Common.{◌≡◌, ℕ, ◌<◌, ◌+◌, arith, Result, Ok, Err, List, [], ◌∷◌, ◌++◌, length}
use Rattle.std.proofs.Common.{take, get_or, map, inl, inr, ⊎_elim, sym, subst, ap, ◌∙◌}
use Rattle.std.proofs.lemmas.List.{take_more, map-append}
use Rattle.machine.specs.declared.parts.Operation.{Operation}
use Rattle.machine.specs.declared.calls.Call.{Call}
use Rattle.sheets.specs.Lines.{SaysOperation, SaysCall}
use Rattle.sheets.specs.Sheets.{NamesPlace, SaysProgram, Adds, SaysCalls}

module _ {L : Type 0} (text : L → List ℕ) where
  names_more : (ws : List (List (List ℕ))) (w : List (List ℕ)) (ops : List (Operation L))
      → SaysProgram text ws ops → NamesPlace w → SaysProgram text (ws ++ w ∷ []) ops
  names_more [] w [] said names = (names, tt)
  names_more [] w (op ∷ ops) said names = absurd said
  names_more (x ∷ ws) w [] (n, said) names = (n, names_more ws w [] said names)
  names_more (x ∷ ws) w (op ∷ ops) said names =
      ⊎_elim (λ (n, more). inl (n, names_more ws w (op ∷ ops) more names))
      (λ (s, more). inr (s, names_more ws w ops more names)) said

  says_more : (ws : List (List (List ℕ))) (w : List (List ℕ)) (ops : List (Operation L))
      (o : Operation L) → SaysProgram text ws ops → SaysOperation text w o
      → SaysProgram text (ws ++ w ∷ []) (ops ++ o ∷ [])
  says_more [] w [] o said says = inr (says, tt)
  says_more [] w (op ∷ ops) o said says = absurd said
  says_more (x ∷ ws) w [] o (n, said) says = inl (n, says_more ws w [] o said says)
  says_more (x ∷ ws) w (op ∷ ops) o said says =
      ⊎_elim (λ (n, more). inl (n, says_more ws w (op ∷ ops) o more says))
      (λ (s, more). inr (s, says_more ws w ops o more says)) said

  pub adds_more : (ws : List (List (List ℕ))) (w : List (List ℕ))
      (before after : List (Operation L)) → SaysProgram text ws before → Adds text w before after
      → SaysProgram text (ws ++ w ∷ []) after
  adds_more ws w before after said adds =
      ⊎_elim
      (λ (names, same).
      subst (λ ops. SaysProgram text (ws ++ w ∷ []) ops) (sym same)
      (names_more ws w before said names))
      (λ (o, says, more).
      subst (λ ops. SaysProgram text (ws ++ w ∷ []) ops) (sym more)
      (says_more ws w before o said says))
      adds

  pub calls_more : (ws : List (List (List ℕ))) (w : List (List ℕ)) (calls : List (Call L))
      (c : Call L) → SaysCalls text ws calls → SaysCall text w c
      → SaysCalls text (ws ++ w ∷ []) (calls ++ c ∷ [])
  calls_more [] w [] c said says = (says, tt)
  calls_more [] w (d ∷ calls) c said says = absurd said
  calls_more (x ∷ ws) w [] c said says = absurd said
  calls_more (x ∷ ws) w (d ∷ calls) c (first, said) says =
      (first, calls_more ws w calls c said says)

-- the next line's words come behind those of the lines so far
pub next_line : {X : Type 0} {Y : Type 0} (f : X → Y) (xs : List X) (i : ℕ) (d : X) → i < length xs
    → map f (take (i + 1) xs) ≡ map f (take i xs) ++ f (get_or xs i d) ∷ []
next_line f xs i d lt =
    ap (map f) (take_more xs i d lt) ∙ map-append f (take i xs) (get_or xs i d ∷ [])

-- what holds of an answer that is no error, where another answer that is none tells so
pub at_ok : {X E Y F : Type 0} (r : Result X E) (s : Result Y F) (y : Y) (Q : Type 0)
    → is_ok s ≡ is_ok r → s ≡ Ok y → IfOk r (λ _. Q) → Q
at_ok (Ok x) s y Q same is q = q
at_ok (Err e) s y Q same is q = absurd (cc (sym same ∙ ap is_ok is))

-- what holds of a value, where another answer passes it on
pub at_value : {X E F : Type 0} (r : Result X E) (s : Result X F) (y : X) (P : X → Type 0)
    (Q : E → F → Type 0) → MatchResult r (λ x. s ≡ Ok x) (λ e. IsErrAnd s (Q e)) → s ≡ Ok y → IfOk r P
    → P y
at_value (Ok x) s y P Q passed is p =
    let same : x ≡ y = grind (arith, sym passed ∙ is) in subst P same p
at_value (Err e) s y P Q passed is p = absurd (rw is at passed)

-- the next line says the next call
pub calls_next : {L X : Type 0} (text : L → List ℕ) (f : X → List (List ℕ)) (lines : List X) (i : ℕ)
    (d : X) → i < length lines
    → (calls all : List (Call L)) (c : Call L) → all ≡ calls ++ c ∷ []
    → SaysCalls text (map f (take i lines)) calls
    → SaysCall text (f (get_or lines i d)) c → SaysCalls text (map f (take (i + 1) lines)) all
calls_next {L} text f lines i d lt calls all c is said says =
    let ws = map f (take i lines) in
    let w = f (get_or lines i d) in
    subst (λ (l : List (List (List ℕ))). SaysCalls text l all) (sym (next_line f lines i d lt))
    (subst (λ (l : List (Call L)). SaysCalls text (ws ++ w ∷ []) l) (sym is)
    (calls_more text ws w calls c said says))
