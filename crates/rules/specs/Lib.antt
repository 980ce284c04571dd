-- Document 01 as definitions, in the order in which a reader meets them.
pub mod Tables
pub mod Bits
pub mod Answers
pub mod Letters
pub mod Words
pub mod Book
pub mod Home
pub mod Lists
pub mod Board
pub mod Commands
pub mod Shape
pub mod Waits
pub mod Sheet
pub mod Cases
pub mod Ranges
pub mod Determined
