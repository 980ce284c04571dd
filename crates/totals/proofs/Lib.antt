-- Laws that the proofs share, and that the contracts determine.
pub mod Laws
pub mod Determined
