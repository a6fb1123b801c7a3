-- Lemmas and theorems of the pair call.
pub mod Admitted
pub mod Series
pub mod Least
pub mod Lowest
pub mod Worked
pub mod Theorems
pub mod Unique
