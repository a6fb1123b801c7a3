-- Laws about the printed text.
pub mod Print
pub mod Unique
pub mod Degrees
