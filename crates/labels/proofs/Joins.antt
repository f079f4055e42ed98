-- What the laws of a kind of label give of its join.
use Rattle.std.proofs.Common.{◌≡◌}
use Rattle.labels.specs.Kind.{Kind, Lawful}

module _ {L : Type 0} {kind : Kind L} (laws : Lawful kind) where
  open kind use {below, bottom, join}

  -- the bottom joined to a is a
  pub unit_left : (a : L) → join bottom a ≡ a
  unit_left a =
      laws.antisymmetric (join bottom a) a
      (laws.lub bottom a a (laws.least a) (laws.reflexive a))
      (laws.right bottom a)

  pub unit_right : (a : L) → join a bottom ≡ a
  unit_right a =
      laws.antisymmetric (join a bottom) a
      (laws.lub a bottom a (laws.reflexive a) (laws.least a))
      (laws.left a bottom)
