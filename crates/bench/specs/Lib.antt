-- What the contracts say beside the rules.
pub mod Packed
pub mod Runs
