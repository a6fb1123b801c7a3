-- Lemmas and theorems of the exported calls.
pub mod Given
pub mod RowAt
pub mod Text
pub mod Parsing
pub mod Inverse
pub mod Unique
pub mod Determined
