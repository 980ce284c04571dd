-- What a typed line does to a desk, as definitions; and who sent each message.
pub mod Senders
pub mod Desks
