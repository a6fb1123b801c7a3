-- What the payload words of a lent file say: the sizes, the type entries, the series, and the job.
use Rattle.std.specs.Prelude.{List, ℕ, ◌+◌, ◌*◌}
use Rattle.sizes.specs.declared.JobSizes.{JobSizes}
use Rattle.block.specs.Part.{payload_at, payload_part}
use Rattle.jobfile.specs.Job.{Job, job_of}

abbrev pub sizes_in : List ℕ → JobSizes
sizes_in file = record { p = payload_at file 0; n = payload_at file 1; s = payload_at file 2 }

abbrev pub type_in : List ℕ → ℕ → List ℕ
type_in file n = payload_part file 3 n

abbrev pub series_in : List ℕ → ℕ → ℕ → List ℕ
series_in file n s = payload_part file (3 + n) (n * s)

-- the job that the words say
unfoldable pub job_in : List ℕ → Job
job_in file =
    job_of (payload_at file 0) (payload_at file 1) (payload_at file 2) (type_in file (payload_at file 1)) (series_in file (payload_at file 1) (payload_at file 2))
