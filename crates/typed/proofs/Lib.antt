-- Laws of words, names and numbers, which the proofs of the functions cite.
pub mod Verbs
pub mod Runs
pub mod Decimals
pub mod Lines
pub mod Naming
pub mod Filling
pub mod Examples
pub mod Determined
