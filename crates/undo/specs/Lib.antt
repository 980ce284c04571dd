-- What undo can take back, as definitions.
pub mod Undo
