-- Laws that the proofs share, and that the contracts determine.
pub mod Sums
pub mod Determined
