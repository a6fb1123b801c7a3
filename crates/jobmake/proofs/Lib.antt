-- Laws about what is made of a text.
pub mod Admitted
pub mod MadeOf
