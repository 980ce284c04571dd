-- What is promised of an input as a whole.
pub mod Whole
