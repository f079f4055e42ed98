-- What the contracts of this crate are stated by.
pub mod Numbers
pub mod Words
pub mod Kinds
pub mod Lines
pub mod Settings
pub mod Sheets
pub mod Parts
