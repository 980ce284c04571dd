-- Definitions that the contracts cite.
pub mod Input
pub mod Read
