-- Laws of the lines, and the run in full.
pub mod Lines
pub mod Full
