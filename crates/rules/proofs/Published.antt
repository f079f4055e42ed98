-- The published rows give the published table, for every kind of label.
use Rattle.std.proofs.Common.{◌≡◌, Bool, true, false, cond, not, None, refl}
use Rattle.labels.specs.Kind.{Kind, Lawful}
use Rattle.labels.proofs.Joins.{unit_left, unit_right}
use Rattle.rules.specs.Rows.{by_rows, published_rows}
use Rattle.rules.specs.Tables.{Same, published, published_row}
use Rattle.rules.specs.declared.Opcode.{Opcode}
use Rattle.rules.specs.declared.Opcode.TheVariants.{Push, Pop, Noop, Add, Sub, Less, Load, Store}
use Rattle.rules.specs.declared.Opcode.TheVariants.{Jump, Bnz, Call, Return, Output}

-- to test the opposite is to swap what is chosen between
not_cond : {X : Type 0} (t : Bool) (x y : X) → cond (not t) y x ≡ cond t x y
not_cond true x y = refl
not_cond false x y = refl

module _ {L : Type 0} (below : L → L → Bool) (bottom : L) (join : L → L → L)
    (left : (a : L) → join bottom a ≡ a) (right : (a : L) → join a bottom ≡ a) where
  abbrev kind : Kind L
  kind = record { below = below; bottom = bottom; join = join }

  -- operation by operation, where a join with bottom is the other label
  each : (op : Opcode) (p a b c : L)
      → by_rows kind published_rows (record { op = op; pc = p; a = a; b = b; c = c })
      ≡ published_row kind op p a b c
  each Push p a b c = simp (left, right)
  each Pop p a b c = simp left
  each Noop p a b c = simp left
  each Add p a b c = simp (left, right)
  each Sub p a b c = simp (left, right)
  each Less p a b c = simp (left, right)
  each Load p a b c = simp (left, right)
  each Store p a b c = simp (left, right) (not_cond (below (join a p) c) _ None)
  each Jump p a b c = simp (left, right)
  each Bnz p a b c = simp (left, right)
  each Call p a b c = simp (left, right)
  each Return p a b c = simp (left, right)
  each Output p a b c = simp (left, right)

pub rows_published : {L : Type 0} {kind : Kind L} → Lawful kind
    → Same (by_rows kind published_rows) (published kind)
rows_published {L} {kind} laws q =
    each kind.below kind.bottom kind.join (unit_left laws) (unit_right laws) q.op q.pc q.a q.b q.c
