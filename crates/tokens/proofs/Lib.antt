-- The laws of words and numbers in a text.
pub mod Found
pub mod Scan
pub mod Number
pub mod Taking
