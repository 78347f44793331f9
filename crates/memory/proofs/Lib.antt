pub mod First
pub mod Admitting
pub mod Tables
