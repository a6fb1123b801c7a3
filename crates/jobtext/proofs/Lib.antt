-- The laws that the proofs of the text job cite.
pub mod Reading
pub mod Unique
pub mod Message
pub mod Worked
