-- Lemmas on lengths, cells and goes.
pub mod Fitting
pub mod Cells
pub mod Runs
pub mod Going
