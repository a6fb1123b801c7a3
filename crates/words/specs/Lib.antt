-- How lent words are read.
pub mod Lent
pub mod Part
pub mod Polynomial
pub mod Some
pub mod Within
