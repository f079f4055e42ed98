-- What the contracts cite: sources of readings, and labels in words.
pub mod Readings
pub mod Levels
pub mod Growers
pub mod Pairs
pub mod Logged
pub mod Counted
