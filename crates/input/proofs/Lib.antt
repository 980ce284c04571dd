-- Laws of what was read.
pub mod Pieces
