-- A job: the modulus p, the n series to order s with their coefficients end to end, and the type; and which jobs are admitted
-- (document 01, "Sizes").
use Rattle.std.specs.Prelude.{◌≡◌, List, ℕ, ◌*◌, ◌≤◌, ◌<◌, length, get_or}
use Rattle.field.specs.Modulus.{Modulus}
use Rattle.sizes.specs.declared.Job as L

pub record Job : Type 0 where
  pub p : ℕ
  pub n : ℕ
  pub s : ℕ
  pub d : List ℕ
  pub series : List ℕ

abbrev pub job_of : ℕ → ℕ → ℕ → List ℕ → List ℕ → Job
job_of p n s d series = record { p = p; n = n; s = s; d = d; series = series }

-- the job that is lent
abbrev pub lent_job : L.Job → Job
lent_job j = job_of j.sizes.p j.sizes.n j.sizes.s j.d.now j.series.now

-- past its end a list gives zero, which every bound admits
pub record Admitted (j : Job) : Type 0 where
  pub modulus : Modulus j.p
  pub n_from : 1 ≤ j.n
  pub n_to : j.n ≤ 8
  pub s_to : j.s ≤ 255
  pub type_length : length j.d ≡ j.n
  pub series_length : length j.series ≡ j.n * j.s
  pub entries : (i : ℕ) → get_or j.d i 0 ≤ 255
  pub coefficients : (i : ℕ) → get_or j.series i 0 < j.p
