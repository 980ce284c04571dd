-- What a stream holds and what a chart counts, as definitions.
pub mod Stream
pub mod Totals
