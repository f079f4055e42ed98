-- What the contracts of this crate are stated by.
pub mod Calls
pub mod Decoding
pub mod Exports
pub mod Kinds
pub mod Labels
pub mod Parts
pub mod Plans
pub mod Reports
