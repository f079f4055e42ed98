-- The policies' names.
use Rattle.std.specs.Prelude.{ℕ, List, codes}
use Rattle.policies.specs.declared.name.PolicyName.{PolicyName}
use Rattle.policies.specs.declared.name.PolicyName.TheVariants.{Direct, Rows, Cached}

-- the name of a policy
abbrev pub name : PolicyName → List ℕ
name Direct = codes "direct"
name Rows = codes "rows"
name Cached = codes "cached"
