-- Lemmas on sets of growers, joins and texts.
pub mod Joins
pub mod Members
pub mod Texts
