-- Laws that the proofs share, and that the contracts determine.
pub mod Refusals
pub mod Determined
