-- What the contracts cite: names, and policies by name.
pub mod Names
pub mod AnyPolicy
