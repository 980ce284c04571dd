-- The board of functions, in the order of its story. Nobody has to believe it: it is a device of proof.
pub mod Lists
pub mod Tables
pub mod Book
pub mod Rings
pub mod Board
pub mod Totals
pub mod Reach
