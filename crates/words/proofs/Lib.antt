-- Laws about lent words.
pub mod Over
pub mod Part
pub mod Written
pub mod Within
pub mod Sizes
