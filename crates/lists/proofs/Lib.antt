-- Laws between what the handlers compute and what the rules say.
pub mod Gathering
pub mod Turns
pub mod Waited
pub mod Rings
pub mod Determined
