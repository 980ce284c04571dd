-- Laws of the engine.
pub mod Ready
pub mod Granting
pub mod Sends
pub mod Arrivals
pub mod Releases
pub mod Turn
pub mod Working
pub mod Determined
