-- Definitions that the contracts of the reading place cite.
pub mod Place
pub mod Found
