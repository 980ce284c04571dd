-- Laws of senders and of desks, which the proofs of the functions cite.
pub mod Sending
pub mod Desks
pub mod Drains
pub mod Determined
