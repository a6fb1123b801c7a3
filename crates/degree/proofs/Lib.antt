-- Laws about signed numbers.
pub mod Signed
