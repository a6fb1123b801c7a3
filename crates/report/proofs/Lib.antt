-- The laws that the proofs of the report cite.
pub mod Wrote
pub mod Appended
pub mod Chunks
pub mod Rows
pub mod Decimal
pub mod Signed
pub mod Entry
pub mod Bound
pub mod Calls
pub mod Worked
