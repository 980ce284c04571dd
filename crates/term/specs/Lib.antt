-- How a chart takes a stream in, and what is promised of it.
pub mod Feed
pub mod Term
pub mod Cases
