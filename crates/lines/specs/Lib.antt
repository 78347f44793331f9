pub mod Suiting
pub mod Comparing
pub mod Accesses
pub mod Advancing
pub mod Recording
pub mod Gathering
