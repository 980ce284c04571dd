-- What a typed line says, as definitions: its words, the names that they may be, and the numbers.
pub mod Verbs
pub mod Words
pub mod Names
pub mod Numbers
pub mod Reading
pub mod Homes
pub mod Spans
