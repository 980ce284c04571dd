-- The statement: one page.
pub mod Demand
