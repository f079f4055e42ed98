-- What the contracts cite: calls on sites, their parts, texts and rehearsals.
pub mod Calls
pub mod Sites
pub mod Texts
pub mod Rehearsals
