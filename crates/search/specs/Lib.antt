-- The search for a ring of waits, and what is promised of it.
pub mod Numbers
pub mod Waiting
pub mod Ways
pub mod Found
pub mod Cases
