-- Laws that the proofs share.
pub mod ByKind
pub mod Reaching
pub mod Shorter
