-- Laws of the definitions, each beside the definition's name; and the paper's table, computed.
pub mod Tables
pub mod Bits
pub mod Book
pub mod Lists
pub mod Load
pub mod Numbers
pub mod Sheet
pub mod Cases
pub mod Determined
pub mod Conversions
