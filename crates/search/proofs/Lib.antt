-- The search finds a ring where there is one: proofs.
pub mod Numbers
pub mod Ways
pub mod Rings
pub mod Waiting
pub mod Found
pub mod Sets
pub mod Walks
pub mod Determined
pub mod Cases
