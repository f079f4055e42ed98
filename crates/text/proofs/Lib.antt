-- Lemmas on lines and on questions read word by word.
pub mod Lines
pub mod ByWord
