-- What the contracts of `request` cite.
pub mod Cut
pub mod Drawn
pub mod Piece
pub mod Listed
pub mod Arguments
pub mod Argument
pub mod Shape
