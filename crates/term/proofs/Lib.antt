-- Laws of a stream taken in, what is promised of a chart, its examples, and that the contracts determine.
pub mod Laws
pub mod Sums
pub mod Lengths
pub mod Term
pub mod Cases
pub mod Determined
