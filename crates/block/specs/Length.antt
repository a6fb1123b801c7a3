-- The lengths that no file has (document 01, "Refusal numbers", 8): zero, not a multiple of 512, or over those of the largest file.
use Rattle.std.specs.Prelude.{◌≡◌, ℕ, ◌%◌, ◌<◌, ◌≢◌, ◌⊎◌}

abbrev pub BadLength : ℕ → ℕ → Type 0
BadLength largest file = (file ≡ 0) ⊎ ((file % 512 ≢ 0) ⊎ (largest < file))
