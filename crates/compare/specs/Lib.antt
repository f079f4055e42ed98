-- What the contracts cite: differences of lists, runs, reports, symmetry and tests.
pub mod Differences
pub mod Runs
pub mod Reports
pub mod Symmetry
pub mod Tests
