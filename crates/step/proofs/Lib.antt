-- Laws about the step.
pub mod Columns
pub mod Order
pub mod Search
pub mod Move
pub mod Next
pub mod Unique
