pub mod Showing
pub mod Starting
