-- Laws between what the handlers compute and what the rules say.
pub mod Holds
pub mod Fronts
pub mod Places
pub mod Shift
pub mod Determined
