-- What the contract of the printed text cites.
pub mod Printed
