-- The policy that a name picks: which one it is, to which tables it is true, what asking it does.
use Rattle.std.specs.Prelude.{◌≡◌, None}
use Rattle.labels.specs.Kind.{Kind}
use Rattle.rules.specs.Tables.{Truth, Effect}
use Rattle.rules.specs.Rows.{published_rows, RowsFaithful, RowsAsked}
use Rattle.rules.specs.Policies.{DirectFaithful, DirectAsked, CachedFaithful, CachedAsked}
use Rattle.rules.specs.declared.Policy.{Ghosts}
use Rattle.policies.specs.declared.any.AnyPolicy.{AnyPolicy}
use Rattle.policies.specs.declared.any.AnyPolicy.TheVariants.{Direct, Rows, Cached}
use Rattle.policies.specs.declared.name.PolicyName.{PolicyName}
use Rattle.policies.specs.declared.name.PolicyName.TheVariants as by_name

module _ {L : Type 0} (kind : Kind L) where
  -- it is true to a table when the policy that it holds is
  abbrev pub AnyFaithful : Truth (AnyPolicy L) L
  AnyFaithful (Direct policy) = DirectFaithful kind policy
  AnyFaithful (Rows policy) = RowsFaithful kind policy
  AnyFaithful (Cached policy) = CachedFaithful (RowsFaithful kind) policy

  -- asked, it asks the policy that it holds, and holds that one still
  abbrev pub AnyAsked : Effect (AnyPolicy L) L
  AnyAsked (Direct before) q answer (Direct after) = DirectAsked kind before q answer after
  AnyAsked (Rows before) q answer (Rows after) = RowsAsked kind before q answer after
  AnyAsked (Cached before) q answer (Cached after) =
      CachedAsked (RowsAsked kind) before q answer after
  AnyAsked _ _ _ _ = ⊥

  -- what it is true to and what asking it does, as the trait has them
  abbrev pub any_policy : Ghosts (AnyPolicy L) L
  any_policy = record { faithful = AnyFaithful; asked = AnyAsked }

-- it is the one that the name picks, as new: with the published rows, its cache empty
abbrev pub IsPicked : {L : Type 0} → PolicyName → AnyPolicy L → Type 0
IsPicked by_name.Direct (Direct policy) = Unit {0}
IsPicked by_name.Rows (Rows policy) = policy.rows ≡ published_rows
IsPicked by_name.Cached (Cached policy) =
    (policy.below.rows ≡ published_rows) × (policy.last ≡ None)
IsPicked _ _ = ⊥
