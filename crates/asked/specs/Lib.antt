-- Which typed lines are whole commands, and what they ask of a board.
pub mod Lines
pub mod Asked
