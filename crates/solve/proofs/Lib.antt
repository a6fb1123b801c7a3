-- Found has the theorems about a found basis. Before them: the search among all rows, words told by their rows, and the work on a basis.
pub mod Search
pub mod Work
pub mod Found
