-- What the contracts say beside the rules.
pub mod Sets
pub mod Fronts
