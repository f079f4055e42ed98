-- What the contracts cite: parts, steps, calls, observers, laws and worked examples.
pub mod Numbers
pub mod Steps
pub mod Calls
pub mod Stations
pub mod Lists
pub mod Observer
pub mod Laws
pub mod Texts
pub mod Worked
pub mod WorkedTests
pub mod WorkedCalls
pub mod WorkedPair
