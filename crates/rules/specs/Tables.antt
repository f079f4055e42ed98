-- What a policy is asked and answers: tables, and the published rows.
use Rattle.std.specs.Prelude.{◌≡◌, Bool, true, false, not, ◌&&◌, cond, Some, None, Option}
use Rattle.labels.specs.Kind.{Kind}
use Rattle.rules.specs.declared.Opcode.{Opcode}
use Rattle.rules.specs.declared.Opcode.TheVariants.{Push, Pop, Noop, Add, Sub, Less, Load, Store}
use Rattle.rules.specs.declared.Opcode.TheVariants.{Jump, Bnz, Call, Return, Output}
use Rattle.rules.specs.declared.Request.{Request}
use Rattle.rules.specs.declared.Verdict.{Verdict}

-- any fixed answer to each request; none forbids
abbrev pub Table : Type 0 → Type 0
Table L = Request L → Option (Verdict L)

-- the two tables have the same answers
abbrev pub Same : {L : Type 0} → Table L → Table L → Type 0
Same {L} s t = (request : Request L) → s request ≡ t request

-- to which tables a policy is true
abbrev pub Truth : Type 0 → Type 0 → Type 1
Truth P L = P → Table L → Type 0

-- what asking a policy does: the policy before, the request, the answer and the policy after
abbrev pub Effect : Type 0 → Type 0 → Type 1
Effect P L = P → Request L → Option (Verdict L) → P → Type 0

-- true to any table before, a policy answers as that table does and is true to it after
abbrev pub Obeys : {P L : Type 0} → Truth P L → Effect P L
Obeys {P} {L} faithful before request answer after =
    (t : Table L) → faithful before t → (answer ≡ t request) × faithful after t

-- a request about an operation, with the label p of the program counter and three labels more
abbrev pub request : {L : Type 0} → Opcode → L → L → L → L → Request L
request op p a b c = record { op = op; pc = p; a = a; b = b; c = c }

-- new label n of the program counter, label r of the result
abbrev pub verdict : {L : Type 0} → L → L → Option (Verdict L)
verdict n r = Some (record { pc = n; result = r })

-- of all operations store alone
abbrev pub is_store : Opcode → Bool
is_store Store = true
is_store op = false

module _ {L : Type 0} (kind : Kind L) where
  open kind use {below, bottom, join}

  -- a store to a cell whose label is not at or above those of the address and the program counter
  abbrev pub is_forbidden : Request L → Bool
  is_forbidden q = is_store q.op && not (below (join q.a q.pc) q.c)

  -- the rows by operation, for the labels P of the program counter, A, B and C
  abbrev pub published_row : Opcode → L → L → L → L → Option (Verdict L)
  published_row Push p a b c = verdict p a
  published_row Pop p a b c = verdict p bottom
  published_row Noop p a b c = verdict p bottom
  published_row Add p a b c = verdict p (join a b)
  published_row Sub p a b c = verdict p (join a b)
  published_row Less p a b c = verdict p (join a b)
  published_row Load p a b c = verdict p (join a b)
  published_row Store p a b c = cond (below (join a p) c) (verdict p (join (join a b) p)) None
  published_row Jump p a b c = verdict (join a p) bottom
  published_row Bnz p a b c = verdict (join a p) bottom
  published_row Call p a b c = verdict (join a p) p
  published_row Return p a b c = verdict a (join b p)
  published_row Output p a b c = verdict p (join a p)

  -- the published rows
  abbrev pub published : Table L
  published q = published_row q.op q.pc q.a q.b q.c
