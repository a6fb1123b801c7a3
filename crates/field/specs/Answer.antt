-- Answer: what a call's answer says in document 01's terms: the values of the result, a refusal's number, or that zero has no inverse.
use Rattle.std.specs.Prelude.{ℕ, List}

pub data Answer : Type 0 where
  result : List ℕ → Answer
  refusal : ℕ → Answer
  no_inverse : Answer
