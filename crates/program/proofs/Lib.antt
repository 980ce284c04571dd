-- Laws of a program's argument.
pub mod Arguments
pub mod Determined
