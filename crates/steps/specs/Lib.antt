-- What the contracts cite: places, windows, walks, operations and steps.
pub mod Places
pub mod Windows
pub mod Walks
pub mod Operations
pub mod Steps
