-- Laws of the public calls.
pub mod Packing
pub mod Calls
pub mod Determined
