-- Laws that the proofs of the functions share.
pub mod Tests
pub mod Tabled
pub mod Noted
pub mod Clauses
pub mod Determined
