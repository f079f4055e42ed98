-- What the contracts cite: kinds of label, their laws and texts.
pub mod Kind
pub mod Text
pub mod Level
pub mod Growers
pub mod Pair
pub mod Masks
pub mod PrefixFree
