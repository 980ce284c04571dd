-- The law of what a line does to the desk.
pub mod Determined
