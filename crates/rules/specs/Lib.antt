-- What the contracts cite: tables, rows, policies and texts.
pub mod Tables
pub mod Rows
pub mod Policies
pub mod Texts
