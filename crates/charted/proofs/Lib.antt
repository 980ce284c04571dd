-- Laws of the lines, a stream with its lines, and that the contract determines.
pub mod Lines
pub mod Worked
pub mod Determined
