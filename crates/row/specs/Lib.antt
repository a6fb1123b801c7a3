-- What the contracts of rows cite.
pub mod View
pub mod Shape
