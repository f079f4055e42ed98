-- Lemmas on parts that are lent and offered.
pub mod Handing
pub mod Offering
pub mod Vectors
