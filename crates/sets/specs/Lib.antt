-- What the contract of the call for many sets cites.
pub mod Answer
pub mod Orders
pub mod Set
pub mod Bases
