-- What a kind of label is, and the laws that every kind owes.
use Rattle.std.specs.Prelude.{◌≡◌, Bool, true}

-- `below a b` tests that a is at or below b: who may know what b labels may know what a labels
pub record Kind (L : Type 0) : Type 0 where
  pub below : L → L → Bool
  pub bottom : L
  pub join : L → L → L

module _ {L : Type 0} (kind : Kind L) where
  open kind use {below, bottom, join}

  -- the order is one, the bottom is its least label, and the join the least label at or above both
  pub record Lawful : Type 0 where
    pub reflexive : (a : L) → below a a ≡ true
    pub transitive : (a b c : L) → below a b ≡ true → below b c ≡ true → below a c ≡ true
    pub antisymmetric : (a b : L) → below a b ≡ true → below b a ≡ true → a ≡ b
    pub least : (a : L) → below bottom a ≡ true
    pub left : (a b : L) → below a (join a b) ≡ true
    pub right : (a b : L) → below b (join a b) ≡ true
    pub lub : (a b c : L) → below a c ≡ true → below b c ≡ true → below (join a b) c ≡ true
