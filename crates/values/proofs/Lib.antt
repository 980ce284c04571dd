-- Laws that the proofs share, and that the contracts determine.
pub mod Answers
pub mod Defaults
pub mod Lowest
pub mod Places
pub mod Rows
pub mod Determined
