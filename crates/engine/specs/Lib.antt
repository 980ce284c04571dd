-- What the contracts say beside the rules.
pub mod Packed
pub mod Grants
pub mod Ready
pub mod Next
pub mod Work
