-- The machine values of a step's board, command, answer and result, and the theorem that both ways give one result.
pub mod Values
pub mod OneResult
pub mod Determined
