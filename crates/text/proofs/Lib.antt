-- Laws of text, and that the contracts determine.
pub mod Text
pub mod Determined
pub mod PlacedDetermined
