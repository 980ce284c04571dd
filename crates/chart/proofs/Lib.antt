-- The promise of a stream as a whole.
pub mod Whole
