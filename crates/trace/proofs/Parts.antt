-- The first samples of a run: the state that they leave, and what stands in a lent slice for them, sample by sample.
use mathlib.Core.Path.{◌≡◌, refl}
use mathlib.Core.List.{List, [], ◌∷◌, ◌++◌, map, map-append}
use Prim.Native.Nat.{ℕ, suc, ◌<◌}
use lib.ListN.{length, get_or, take, set}
use lib.Seq.{take-suc, take-suc-set}
use Rattle.trace.specs.Trace.{trace, left}
use Rattle.trace.proofs.Steps.{trace_append}

pub left_append :
    {S X T : Type 0} (step : S → X → T) (next : T → S) (s : S) (xs ys : List X)
    → left step next s (xs ++ ys) ≡ left step next (left step next s xs) ys
unfolding left
left_append step next s [] ys = refl
left_append step next s (x ∷ xs) ys = left_append step next (next (step s x)) xs ys

module _ {S X T : Type 0} (step : S → X → T) (next : T → S) (s₀ : S) (xs : List X) (i : ℕ) (d : X) (h : i < length xs) where
  pub left_turn : left step next s₀ (take (suc i) xs) ≡ next (step (left step next s₀ (take i xs)) (get_or xs i d))
  unfolding left
  left_turn = rw (take-suc xs i d h, left_append)

  -- the step t on sample i is taken, and what it shows is stored
  pub shown_turn :
      (f : T → ℕ) (l : List ℕ) (t : T) (v : ℕ) → i < length l → t ≡ step (left step next s₀ (take i xs)) (get_or xs i d) → v ≡ f t
      → take i l ≡ map f (trace step next s₀ (take i xs)) → take (suc i) (set l i v) ≡ map f (trace step next s₀ (take (suc i) xs))
  unfolding trace
  shown_turn f l t v k q w e = rw (take-suc-set l i v k, take-suc xs i d h, trace_append, map-append, e, w, q)
