-- Lemmas on lists compared, on what is alike, on looks, and on lists of calls as histories.
pub mod Breaking
pub mod Walking
pub mod Likeness
pub mod Exchanging
pub mod Looking
pub mod Histories
pub mod Comparing
