-- Definitions that the contracts cite.
pub mod Pieces
pub mod Read
