-- What the contract of the work on a basis cites.
pub mod Sizes
pub mod Found
