pub mod Showing
pub mod Collecting
pub mod Single
pub mod Several
