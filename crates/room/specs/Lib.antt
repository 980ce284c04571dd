-- What "both give one result" means.
pub mod OneResult
