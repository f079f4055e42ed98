-- How operations, requests and verdicts read.
use Rattle.std.specs.Prelude.{◌≡◌, ◌≢◌, ℕ, List, ◌++◌, Ok, Err, codes, Result}
use Rattle.rules.specs.declared.Opcode.{Opcode}
use Rattle.rules.specs.declared.Opcode.TheVariants.{Push, Pop, Noop, Add, Sub, Less, Load, Store}
use Rattle.rules.specs.declared.Opcode.TheVariants.{Jump, Bnz, Call, Return, Output}
use Rattle.rules.specs.declared.Request.{Request}
use Rattle.rules.specs.declared.Verdict.{Verdict}

-- the name of an operation
abbrev pub name : Opcode → List ℕ
name Push = codes "push"
name Pop = codes "pop"
name Noop = codes "noop"
name Add = codes "add"
name Sub = codes "sub"
name Less = codes "less"
name Load = codes "load"
name Store = codes "store"
name Jump = codes "jump"
name Bnz = codes "bnz"
name Call = codes "call"
name Return = codes "return"
name Output = codes "output"

-- which of the things that have names has the word as its name, or that none has
abbrev pub NameRead : {X E : Type 0} → (X → List ℕ) → List ℕ → Result X E → Type 0
NameRead named word (Ok x) = word ≡ named x
NameRead {X} named word (Err e) = (x : X) → word ≢ named x

module _ {L : Type 0} (text : L → List ℕ) where
  -- a space and the label
  abbrev pub spaced : L → List ℕ
  spaced a = codes " " ++ text a

  -- the whole request
  abbrev pub request_text : Request L → List ℕ
  request_text q = name q.op ++ (spaced q.pc ++ (spaced q.a ++ (spaced q.b ++ spaced q.c)))

  -- the label of the program counter and the result's
  abbrev pub verdict_text : Verdict L → List ℕ
  verdict_text v = codes "pc " ++ (text v.pc ++ (codes ", result " ++ text v.result))
