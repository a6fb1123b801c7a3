-- Laws about rows of words.
pub mod Turn
pub mod Part
pub mod TimesX
pub mod Unit
pub mod Rows
pub mod Unique
