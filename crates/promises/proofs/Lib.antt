-- Demand 3, proved. A board of records is seen as the model's board of functions, and on a board in shape each command as nothing or as
-- one of the model's steps; so the model's theorems hold of what commands reach.
pub mod Seen
pub mod Shape
pub mod Sends
pub mod Arrives
pub mod Commands
pub mod Standing
pub mod Reached
pub mod Drain
pub mod Sheet
pub mod Demand
