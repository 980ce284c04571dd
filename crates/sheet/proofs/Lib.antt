-- Laws that the reader's proofs share.
pub mod Order
pub mod Parts
pub mod Runs
pub mod Longer
pub mod Determined
