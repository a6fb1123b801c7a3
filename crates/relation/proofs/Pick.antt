-- pick follows the decision.
use mathlib.Core.Path.{◌≡◌, refl}
use Rattle.relation.specs.Pick.{pick}

pub pick_yes : {A X : Type 0} (d : Dec A) (x y : X) → A → pick d x y ≡ x
unfolding pick
pick_yes (yes a) x y h = refl
pick_yes (no a) x y h = absurd (a h)

pub pick_no : {A X : Type 0} (d : Dec A) (x y : X) → ¬ A → pick d x y ≡ y
unfolding pick
pick_no (yes a) x y h = absurd (h a)
pick_no (no a) x y h = refl
