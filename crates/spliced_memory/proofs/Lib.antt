pub mod Splices
