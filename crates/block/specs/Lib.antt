-- What the contracts of `block` cite.
pub mod Word
pub mod Bytes
pub mod Store
pub mod Checks
pub mod Block
pub mod Read
pub mod File
pub mod Part
pub mod Length
pub mod Fault
pub mod Count
