-- What the contracts cite: lengths, views of stations, calls and goes.
pub mod Lengths
pub mod Views
pub mod Calls
pub mod Goes
pub mod Turns
