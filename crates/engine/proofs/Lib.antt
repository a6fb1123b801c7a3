-- Lemmas and theorems of the engine's calls.
pub mod Admitted
pub mod Sigma
pub mod Buffers
pub mod View
pub mod Unique
