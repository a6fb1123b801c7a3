-- What the contracts of `embed` cite.
pub mod Status
pub mod Says
pub mod Lengths
pub mod Given
pub mod RowAt
pub mod Parsing
