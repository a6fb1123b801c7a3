-- Laws about the text in its buffer.
pub mod PrintedIn
