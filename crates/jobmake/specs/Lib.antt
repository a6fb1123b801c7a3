-- What the contract of the made file cites.
pub mod MadeOf
