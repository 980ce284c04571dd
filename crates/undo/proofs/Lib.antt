-- Laws of the ring of 65 places, which stands for a list of desks.
pub mod History
pub mod Determined
