-- Laws of what was taken in.
pub mod Pieces
