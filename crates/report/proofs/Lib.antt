-- What the contracts of this crate come to.
pub mod Whole
pub mod Determined
