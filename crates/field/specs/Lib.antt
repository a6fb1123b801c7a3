-- What the field's contracts cite.
pub mod Prime
pub mod Coprime
pub mod Bezout
pub mod Modulus
pub mod ModulusTest
pub mod Inverse
pub mod Gathered
pub mod Fixed
pub mod Refusal
pub mod Number
pub mod Answer
pub mod Calls
