-- What the contracts of the engine's calls cite.
pub mod Sigma
pub mod Answers
pub mod Orders
pub mod Basis
pub mod Approximant
pub mod RowView
