-- Lemmas on sets of growers as sources.
pub mod Alone
