-- The laws that the proofs of requests cite.
pub mod Drawing
pub mod Placed
pub mod Fitting
pub mod Lists
pub mod Argued
pub mod Clipped
pub mod WordsRead
pub mod Theorems
