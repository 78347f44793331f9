-- The definitions that contracts on sheets name.
pub use Rattle.sheet_format.specs.Bytes
pub use Rattle.sheet_format.specs.Faults
pub use Rattle.sheet_format.specs.Format
pub use Rattle.sheet_format.specs.Parts
pub use Rattle.sheet_format.specs.Reading
pub use Rattle.sheet_format.specs.RoundTrip
pub use Rattle.sheet_format.specs.Writing
pub use Rattle.sheet_format.specs.Words
