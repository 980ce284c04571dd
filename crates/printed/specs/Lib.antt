-- What is printed for a sheet, as definitions: the lines of document 01, and its run in full.
pub mod Lines
pub mod Full
