-- PrintedIn: the first bytes of a buffer, as many as are counted, are the text that is printed for a job file.
use Rattle.std.specs.Prelude.{List, ℕ, ◌≤◌, length, take}
use Rattle.jobreport.specs.Printed.{Printed}

pub record PrintedIn (file buffer : List ℕ) (count : ℕ) : Type 0 where
  pub inside : count ≤ length buffer
  pub text : Printed file (take count buffer)
