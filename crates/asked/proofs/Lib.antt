-- Laws of what a typed line asks of a board, which the proofs of the functions cite.
pub mod Examples
pub mod Determined
