-- What the tests' contracts speak of beside the rules.
pub mod Stand
pub mod Load
