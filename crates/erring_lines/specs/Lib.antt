pub mod Runs
pub mod Erring
pub mod Errors
