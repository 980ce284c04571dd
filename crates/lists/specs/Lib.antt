-- What the contracts say beside the rules.
pub mod Sets
pub mod Rings
pub mod Growing
pub mod Onwards
