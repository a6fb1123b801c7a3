-- What a reader has to believe about relations and fractions: the definitions of documents 01 and 02, one notion a file.
pub mod Sum
pub mod Product
pub mod Vector
pub mod Relation
pub mod Degree
pub mod ShiftedDegree
pub mod TypeOf
pub mod MinimalBasis
pub mod Pivot
pub mod Reduced
pub mod LeadingZeros
pub mod Shrink
pub mod Sigma
pub mod Approximant
pub mod Combination
pub mod SameRelations
pub mod Polynomial
pub mod Fraction
pub mod Starred
-- Working notions, which only contracts of the engine's own operations cite; no promise to a user rests on them.
pub mod Pick
pub mod Operations
pub mod Pair
pub mod Weight
pub mod ReducedBasis
pub mod Moving
