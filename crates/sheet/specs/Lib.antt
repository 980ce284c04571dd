-- Definitions that the reader's inner contracts cite.
pub mod Refusals
pub mod Kept
