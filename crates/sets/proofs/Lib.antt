-- Theorems has what a call for many sets says of each set, and Unique that no second outcome meets the contract.
pub mod BasesSizes
pub mod Admitted
pub mod Alone
pub mod Theorems
pub mod Unique
