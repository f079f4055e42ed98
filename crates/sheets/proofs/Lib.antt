-- Lemmas that the proofs of several functions cite.
pub mod Digits
pub mod Labelled
pub mod InOrder
pub mod Wording
pub mod Given
pub mod Sections
