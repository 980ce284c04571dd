-- What is heard of a typed line.
pub mod Heard
