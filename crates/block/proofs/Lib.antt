-- The laws of `block`, for its own proofs and for its users.
pub mod Sums
pub mod Table
pub mod Words
pub mod Store
pub mod Block
pub mod File
pub mod Fault
pub mod Payload
pub mod Over
pub mod Length
pub mod Whole
