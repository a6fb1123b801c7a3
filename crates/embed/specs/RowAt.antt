-- Where a row lies in a lent basis: the row view as the index of its first word and the number of its words.
use Rattle.std.specs.Prelude.{◌≡◌, List, [], ◌∷◌, ℕ, ◌+◌, ◌*◌, ◌-◌, length, take, drop}
use Rattle.field.specs.Answer.{Answer, result}
use Rattle.engine.specs.RowView.{ViewFits, RowViewed}

-- the words from `start` on, `count` of them, are what the row view gives
pub record RowAt (basis : List ℕ) (n s i start count : ℕ) : Type 0 where
  pub fits : ViewFits (length basis) n s i → (start ≡ (i - 1) * (n * (s + 1))) × (count ≡ n * (s + 1))
  pub misfits : ¬ (ViewFits (length basis) n s i) → (start ≡ 0) × (count ≡ 0)
  pub viewed : RowViewed basis n s i (take count (drop start basis))

-- the row call has no refusal of its own
pub record RowSaid (basis : List ℕ) (n s i : ℕ) (said : Answer) : Type 0 where
  pub start : ℕ
  pub count : ℕ
  pub says : said ≡ result (start ∷ count ∷ [])
  pub row_at : RowAt basis n s i start count
