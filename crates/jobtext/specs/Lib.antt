-- What the contracts of the text job cite.
pub mod Job
pub mod Reading
pub mod Message
