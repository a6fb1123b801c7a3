-- What the contracts of the step cite.
pub mod Offset
pub mod Search
pub mod Factor
pub mod Prime
