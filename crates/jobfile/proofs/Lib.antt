-- The laws of job files.
pub mod Passed
pub mod LaidOut
pub mod Gathered
pub mod Theorems
