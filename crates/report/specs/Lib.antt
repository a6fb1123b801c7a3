-- What the contracts of the report cite.
pub mod Each
pub mod Decimal
pub mod Entry
pub mod Words
pub mod Text
pub mod Wrote
pub mod Appended
pub mod Calls
