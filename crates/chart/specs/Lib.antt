-- What is promised of a stream as a whole.
pub mod Whole
