-- Lemmas that the proofs of several functions cite.
mod Decoding
mod Ends
