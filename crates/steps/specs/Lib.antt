-- What commands one by one come to.
pub mod BySteps
