-- What the contracts of `tokens` cite.
pub mod Tokens
pub mod Number
pub mod Taking
