-- pick: one of two by a decision.
unfoldable pub pick : {A X : Type 0} → Dec A → X → X → X
pick (yes a) x y = x
pick (no a) x y = y
