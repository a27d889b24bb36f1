-- A loop over two columns fills a lent slice: the laws of `Fill`, by the columns' own places and length.
use mathlib.Core.Path.{◌≡◌, refl, sym, ap, ◌∙◌}
use mathlib.Core.List.{List, map, zip}
use Prim.Native.Nat.{ℕ, ◌+◌, ◌<◌, ◌≤◌}
use native.Mathlib.Omega.{arith}
use lib.ListN.{length, get_or, set, length-set}
use Rattle.trace.specs.Trace.{trace}
use Rattle.trace.proofs.Columns.{zip_length, zip_at}
use Rattle.trace.proofs.Fill.{Filled, turn, filled}

abbrev pub FilledPair : {S T : Type 0} → (S → ℕ × ℕ → T) → (T → S) → (T → ℕ) → S → List ℕ → List ℕ → List ℕ → ℕ → S → Type 0
FilledPair step next f s₀ a b l i s = (length l ≡ length a) × Filled step next f s₀ (zip a b) l i s

module _ {S T : Type 0} (step : S → ℕ × ℕ → T) (next : T → S) (f : T → ℕ) (s₀ : S) (a b : List ℕ) (ab : length a ≡ length b) (l : List ℕ) where
  pub start_pair : length a ≡ length l → FilledPair step next f s₀ a b l 0 s₀
  start_pair h = (sym h, (sym h ∙ sym (zip_length a b ab), refl))

  pub turn_pair :
      (i : ℕ) (s : S) (t : T) (v : ℕ) → t ≡ step s (get_or a i 0, get_or b i 0) → v ≡ f t → i < length a
      → FilledPair step next f s₀ a b l i s → FilledPair step next f s₀ a b (set l i v) (i + 1) (next t)
  turn_pair i s t v q w h e =
      let same = q ∙ ap (step s) (sym (zip_at a b i 0 0 h ab)) in
      (length-set l i v ∙ e.0, turn step next f s₀ (zip a b) l i s (0, 0) t v same w (omega (arith, zip_length a b ab)) e.1)

  pub filled_pair : (i : ℕ) (s : S) → length a ≤ i → FilledPair step next f s₀ a b l i s → l ≡ map f (trace step next s₀ (zip a b))
  filled_pair i s h e = filled step next f s₀ (zip a b) l i s (omega (arith, zip_length a b ab)) e.1
