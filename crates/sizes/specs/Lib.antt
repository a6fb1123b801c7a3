-- The sizes of document 01: what the words of a type say, and the parts from which the calls' orders are built.
pub mod Entry
pub mod Lengths
pub mod Orders
