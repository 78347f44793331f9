pub mod Carrying
pub mod Showing
pub mod Parts
pub mod Collecting
pub mod Single
pub mod Several
