-- No two refusals have one number.
use Rattle.std.proofs.Common.{◌≡◌, ℕ, [], ◌∷◌, get_or, sym, ◌∙◌, ap, refl}
use Rattle.field.specs.declared.Refusal.{Refusal}
use Rattle.field.specs.Number.{number_of}

-- the refusal of a number
numbered : ℕ → Refusal
numbered k = get_or (Refusal.Modulus ∷ Refusal.Modulus ∷ Refusal.Count ∷ Refusal.Order ∷ Refusal.Length ∷ Refusal.Entry ∷ Refusal.Coefficient ∷ Refusal.Numerator ∷ Refusal.FileLength ∷ Refusal.BlockNumber ∷ Refusal.Check ∷ Refusal.BlockCount ∷ Refusal.SpareWord ∷ Refusal.NoFraction ∷ Refusal.Sets ∷ []) k Refusal.Modulus

numbered_back : (e : Refusal) → numbered (number_of e) ≡ e
unfolding numbered
numbered_back Refusal.Modulus = refl
numbered_back Refusal.Count = refl
numbered_back Refusal.Order = refl
numbered_back Refusal.Length = refl
numbered_back Refusal.Entry = refl
numbered_back Refusal.Coefficient = refl
numbered_back Refusal.Numerator = refl
numbered_back Refusal.FileLength = refl
numbered_back Refusal.BlockNumber = refl
numbered_back Refusal.Check = refl
numbered_back Refusal.BlockCount = refl
numbered_back Refusal.SpareWord = refl
numbered_back Refusal.NoFraction = refl
numbered_back Refusal.Sets = refl

pub same_number : (e f : Refusal) → number_of e ≡ number_of f → e ≡ f
same_number e f h = sym (numbered_back e) ∙ ap numbered h ∙ numbered_back f
