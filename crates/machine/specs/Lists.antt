-- Lists compared element by element.
use Rattle.std.specs.Prelude.{◌⊎◌, List, [], ◌∷◌}

-- equally long, and related element by element
pub data Each {A : Type 0} (R : A → A → Type 0) : List A → List A → Type 0 where
  none : Each R [] []
  more : {a b : A} {xs ys : List A} → R a b → Each R xs ys → Each R (a ∷ xs) (b ∷ ys)

-- The first list is, element by element, a beginning of the second.
pub data Begins {A : Type 0} (R : A → A → Type 0) : List A → List A → Type 0 where
  ends : {ys : List A} → Begins R [] ys
  goes_on : {a b : A} {xs ys : List A} → R a b → Begins R xs ys → Begins R (a ∷ xs) (b ∷ ys)

-- One of the two lists is a beginning of the other.
abbrev pub OneBegins : {A : Type 0} → (A → A → Type 0) → List A → List A → Type 0
OneBegins R xs ys = Begins R xs ys ⊎ Begins R ys xs
