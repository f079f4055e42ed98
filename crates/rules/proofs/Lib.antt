-- Lemmas on the cache, the published rows and names.
pub mod Hits
pub mod Published
pub mod Names
