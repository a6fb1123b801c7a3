-- What the contract of the pair call cites.
pub mod Answer
pub mod Orders
pub mod Pair
-- Working notions, which only contracts of the call's own operations cite.
pub mod PairSizes
pub mod Work
