-- A run, for any kind of state, sample and answer. The samples of two units are `zip` of their columns, and those of two
-- pairs are `zip` of the pairs' samples.
use Rattle.std.specs.Prelude.{List, [], ◌∷◌}

-- one step for each sample, each from the state that the one before left
unfoldable pub trace : {S X T : Type 0} → (S → X → T) → (T → S) → S → List X → List T
trace step next s [] = []
trace step next s (x ∷ xs) = step s x ∷ trace step next (next (step s x)) xs

-- the state that a run leaves
unfoldable pub left : {S X T : Type 0} → (S → X → T) → (T → S) → S → List X → S
left step next s [] = s
left step next s (x ∷ xs) = left step next (next (step s x)) xs
