pub mod Bytes
pub mod Faults
pub mod Words
pub mod Parts
pub mod Format
pub mod Reading
pub mod Writing
pub mod RoundTrip
