-- What a call's contract, as its source states it, fixes. P is that contract, `Learnt` of the function's `Reads`: of the
-- arguments, the result, and the lent slices as the call leaves them; `see` is what a caller sees of the last two.
use Rattle.std.specs.Prelude.{◌≡◌}

pub record Fixes {A Z E O : Type 0} (P : A → Z → E → Type 0) (see : Z → E → O) (f : A → O) : Type 0 where
  -- what is seen is this definition applied to the inputs
  pub says : (a : A) (z : Z) (e : E) → P a z e → see z e ≡ f a
  -- any two outcomes that meet the contract show the same
  pub unique : (a : A) (z z' : Z) (e e' : E) → P a z e → P a z' e' → see z e ≡ see z' e'
