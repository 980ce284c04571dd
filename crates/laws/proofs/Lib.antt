-- What the rules keep, whatever the board: proofs.
pub mod Tables
pub mod Grants
pub mod Ranges
pub mod Tests
pub mod Shape
pub mod Rings
pub mod Opening
pub mod Books
pub mod Lists
pub mod Standing
pub mod Records
pub mod Kept
pub mod Local
pub mod Room
pub mod Sizes
pub mod Own
pub mod Commands
