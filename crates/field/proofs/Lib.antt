-- Laws for the layers above, stated once over the modulus, and for refusals.
pub mod Truth
pub mod Words
pub mod Residue
pub mod Gathered
pub mod Fixed
pub mod Coprime
pub mod Prime
pub mod Trial
pub mod ModulusTest
pub mod Outcome
pub mod Numbered
pub mod Tests
pub mod Unique
