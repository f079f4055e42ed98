-- Lemmas on places, stacks, arguments and what an operation comes to.
pub mod Places
pub mod Stacks
pub mod Inserts
pub mod Doing
pub mod Arguments
pub mod Stepping
