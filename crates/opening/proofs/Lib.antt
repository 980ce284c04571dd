-- Laws of an opening.
pub mod Homes
pub mod Opened
pub mod Determined
