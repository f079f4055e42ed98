-- Tables by rows: letters for the new label of the program counter, and letters for the result's.
use Rattle.std.specs.Prelude.{◌≡◌, ℕ, Bool, true, false, cond, List, [], ◌∷◌, None, slice_index_or}
use Rattle.labels.specs.Kind.{Kind}
use Rattle.rules.specs.Tables.{Table, Same, Truth, Effect, verdict, is_forbidden}
use Rattle.rules.specs.declared.Opcode.{Opcode}
use Rattle.rules.specs.declared.Opcode.TheVariants.{Push, Pop, Noop, Add, Sub, Less, Load, Store}
use Rattle.rules.specs.declared.Opcode.TheVariants.{Jump, Bnz, Call, Return, Output}
use Rattle.rules.specs.declared.Policy.{Ghosts}
use Rattle.rules.specs.declared.Request.{Request}
use Rattle.rules.specs.declared.rows.Letters.{Letters}
use Rattle.rules.specs.declared.rows.Row.{Row}
use Rattle.rules.specs.declared.rows.RowTable.{RowTable}

-- where an operation's row stands
abbrev pub row_index : Opcode → ℕ
row_index Push = 0
row_index Pop = 1
row_index Noop = 2
row_index Add = 3
row_index Sub = 4
row_index Less = 5
row_index Load = 6
row_index Store = 7
row_index Jump = 8
row_index Bnz = 9
row_index Call = 10
row_index Return = 11
row_index Output = 12

-- the set that has those of the four letters for which it is true
abbrev pub letters : Bool → Bool → Bool → Bool → Letters
letters a b c p = record { a = a; b = b; c = c; p = p }

abbrev pub no_letters : Letters
no_letters = letters false false false false

-- the row with letters n for the program counter and r for the result
abbrev pub row_of : Letters → Letters → Row
row_of n r = record { pc = n; result = r }

-- the row of an operation
abbrev pub row_at : List Row → Opcode → Row
row_at rows op = slice_index_or rows (row_index op) (row_of no_letters no_letters)

-- the published rows, in the order of the operations
abbrev pub published_rows : List Row
published_rows =
    let a = letters true false false false in
    let p = letters false false false true in
    let ab = letters true true false false in
    let ap = letters true false false true in
    let bp = letters false true false true in
    let abp = letters true true false true in
    let none = no_letters in
    row_of p a ∷ row_of p none ∷ row_of p none
    ∷ row_of p ab ∷ row_of p ab ∷ row_of p ab ∷ row_of p ab
    ∷ row_of p abp
    ∷ row_of ap none ∷ row_of ap none
    ∷ row_of ap p ∷ row_of a bp ∷ row_of p ap
    ∷ []

module _ {L : Type 0} (kind : Kind L) where
  open kind use {below, bottom, join}

  -- what a letter stands for: its label if it is in the set
  abbrev pub letter : Bool → L → L
  letter present x = cond present x bottom

  -- the join of the labels whose letters are in the set
  abbrev pub joined : Letters → Request L → L
  joined s q =
      join (join (join (letter s.a q.a) (letter s.b q.b)) (letter s.c q.c)) (letter s.p q.pc)

  -- the table that rows give
  abbrev pub by_rows : List Row → Table L
  by_rows rows q =
      let row = row_at rows q.op in
      cond (is_forbidden kind q) None (verdict (joined row.pc q) (joined row.result q))

  -- a policy that reads its rows is true to the table that they give
  abbrev pub RowsFaithful : Truth RowTable L
  RowsFaithful policy t = Same (by_rows policy.rows) t

  -- asked, it reads its rows off and keeps them
  abbrev pub RowsAsked : Effect RowTable L
  RowsAsked before request answer after = (answer ≡ by_rows before.rows request) × (after ≡ before)

  -- what it is true to and what asking it does, as the trait has them
  abbrev pub rows_policy : Ghosts RowTable L
  rows_policy = record { faithful = RowsFaithful; asked = RowsAsked }
