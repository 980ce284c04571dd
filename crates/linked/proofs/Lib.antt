-- The contract determines its result.
pub mod Determined
