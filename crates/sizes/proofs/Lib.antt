-- Laws about the sizes.
pub mod Entry
pub mod Passed
