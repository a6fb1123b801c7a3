-- Theorems about relations. Theorems states what document 01 promises; Pair, Fraction and Starred follow it. Before them:
-- laws (Pick, Sum, Product, Polynomial, Vector, Integer), the working form (Weight, Basis, Start, Generation, Step, Existence),
-- and its agreement with the definitions (Shift, Bridge, Shrink, Sigma).
pub mod Pick
pub mod Sum
pub mod Product
pub mod Polynomial
pub mod Vector
pub mod Weight
pub mod Basis
pub mod Start
pub mod Generation
pub mod Step
pub mod Existence
pub mod Integer
pub mod Shift
pub mod Bridge
pub mod Shrink
pub mod Sigma
pub mod Theorems
pub mod Pair
pub mod Fraction
pub mod Test
pub mod Starred
