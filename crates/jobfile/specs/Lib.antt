-- What the contracts of `jobfile` cite.
pub mod Lengths
pub mod Job
pub mod Layout
pub mod Payload
pub mod Orders
pub mod Answers
pub mod Outcomes
