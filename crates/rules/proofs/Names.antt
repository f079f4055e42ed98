-- An operation found by its name among all of them.
use Rattle.std.proofs.Common.{◌≡◌, ◌≢◌, ℕ, ◌<◌, arith, sym}
use Rattle.std.proofs.Common.{List, [], ◌∷◌, length, Some, None, Option}
use Rattle.std.specs.Borrow.{Bor}
use Rattle.std.specs.List.{AllWithin, HoldsAt}
use Rattle.std.specs.Option.{MatchOption, ok_or, option_copied}
use Rattle.rules.specs.declared.texts.NotAnOperation.{NotAnOperation}
use Rattle.rules.specs.Texts.{name, NameRead}
use Rattle.rules.specs.declared.Opcode.{Opcode}
use Rattle.rules.specs.declared.Opcode.TheVariants.{Push, Pop, Noop, Add, Sub, Less, Load, Store}
use Rattle.rules.specs.declared.Opcode.TheVariants.{Jump, Bnz, Call, Return, Output}

-- every operation, as the code lists them
abbrev pub every : List Opcode
every =
    Push ∷ Pop ∷ Noop ∷ Add ∷ Sub ∷ Less ∷ Load
    ∷ Store ∷ Jump ∷ Bnz ∷ Call ∷ Return ∷ Output ∷ []

-- what holds of every place in the list holds of every operation
pub of_every : (P : Opcode → Type 0) → AllWithin P every 0 13 → (op : Opcode) → P op
of_every P all Push = all 0 Push (omega arith) (omega arith)
of_every P all Pop = all 1 Push (omega arith) (omega arith)
of_every P all Noop = all 2 Push (omega arith) (omega arith)
of_every P all Add = all 3 Push (omega arith) (omega arith)
of_every P all Sub = all 4 Push (omega arith) (omega arith)
of_every P all Less = all 5 Push (omega arith) (omega arith)
of_every P all Load = all 6 Push (omega arith) (omega arith)
of_every P all Store = all 7 Push (omega arith) (omega arith)
of_every P all Jump = all 8 Push (omega arith) (omega arith)
of_every P all Bnz = all 9 Push (omega arith) (omega arith)
of_every P all Call = all 10 Push (omega arith) (omega arith)
of_every P all Return = all 11 Push (omega arith) (omega arith)
of_every P all Output = all 12 Push (omega arith) (omega arith)

-- the operation that was found by the word, or that no operation has it as its name
pub found : (word : List ℕ) (o : Option (Bor Opcode)) (e : NotAnOperation)
    → MatchOption o (AllWithin (λ op. name op ≢ word) every 0 (length every))
    (λ x. (name x.now ≡ word)
    × (i : ℕ) × (i < length every) × HoldsAt (λ y. y ≡ x.now) every i
    × AllWithin (λ op. name op ≢ word) every 0 i)
    → NameRead name word (ok_or (option_copied o) e)
found word None e none = λ op is. of_every (λ op. name op ≢ word) none op (sym is)
found word (Some x) e here = sym here.0
