-- What the rules keep, whatever the board: statements.
pub mod Ranges
pub mod Shape
pub mod Kept
pub mod Local
pub mod Own
