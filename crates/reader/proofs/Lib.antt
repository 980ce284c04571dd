-- Laws of the reading place: what is read at a bit, the sheet as a whole, and a place that is held or lent.
pub mod Fields
pub mod Places
pub mod Spared
pub mod Heads
pub mod Determined
