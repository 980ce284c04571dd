-- The lines of a chart, and a stream with its lines.
pub mod Lines
pub mod Worked
