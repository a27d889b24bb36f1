-- A loop fills a lent slice: what stands before i is written, and the samples from i on give the rest.
use mathlib.Core.Path.{◌≡◌, sym, ◌∙◌}
use mathlib.Core.List.{List, ◌++◌, map, append_assoc, append-nil, map-append}
use Prim.Native.Nat.{ℕ, ◌+◌, ◌-◌, ◌<◌, ◌≤◌}
use native.Mathlib.Numerals.{add-one}
use native.Mathlib.Omega.{arith}
use lib.ListN.{length, get_or, take, drop, set, length-append, length-map, length-drop, length-set, drop_of_length-le, take-append-drop}
use lib.Seq.{drop-cons, take-suc-set, take_all, take_at, length-take-le}
use borrow.Rule.Slice.PartMut.{put_mid, Post-is, same_len_mid, mid_len}
use Rattle.trace.specs.Trace.{trace, left}
use Rattle.trace.proofs.Steps.{trace_append, trace_length}

-- f is what the slice shows of each step; s₀ is where the run began, and s is the state before sample i
abbrev pub Filled : {S X T : Type 0} → (S → X → T) → (T → S) → (T → ℕ) → S → List X → List ℕ → ℕ → S → Type 0
Filled step next f s₀ xs l i s = (length l ≡ length xs) × (take i l ++ map f (trace step next s (drop i xs)) ≡ map f (trace step next s₀ xs))

module _ {S X T : Type 0} (step : S → X → T) (next : T → S) (f : T → ℕ) (s₀ : S) (xs : List X) (l : List ℕ) (i : ℕ) (s : S) where
  -- a turn: the step t on sample i is taken, and what it shows is stored
  pub turn :
      (d : X) (t : T) (v : ℕ) → t ≡ step s (get_or xs i d) → v ≡ f t → i < length xs → Filled step next f s₀ xs l i s
      → Filled step next f s₀ xs (set l i v) (i + 1) (next t)
  unfolding trace
  turn d t v q w h e =
      let k : i < length l = omega arith in
      (length-set l i v ∙ e.0, rw (w, q, add-one, take-suc-set, append_assoc) (rw (drop-cons xs i d h) at e.1))

  -- the end: every sample has been passed
  pub filled : length xs ≤ i → Filled step next f s₀ xs l i s → l ≡ map f (trace step next s₀ xs)
  unfolding trace
  filled h e =
      let k : length l ≤ i = omega arith in
      simp (drop_of_length-le xs h, take_all i l k, append-nil) at e.1

  -- many turns at once: what the steps on the samples from i to e show is stored as one part
  pub part_turn :
      (e : ℕ) (part : List ℕ) → part ≡ map f (trace step next s (take (e - i) (drop i xs))) → i ≤ e → e ≤ length xs → Filled step next f s₀ xs l i s
      → Filled step next f s₀ xs (put_mid i (e - i) l part) e (left step next s (take (e - i) (drop i xs)))
  part_turn e part shown up in-it (long, so_far) =
      let size : length part ≡ e - i = rw (shown, length-map, trace_length) (length-take-le (e - i) (drop i xs) (rw length-drop (omega arith))) in
      let before : length (take i l ++ part) ≡ e = length-append (take i l) part ∙ rw (length-take-le i l (omega arith), size) (omega arith) in
      let on : drop (e - i) (drop i xs) ≡ drop e xs = Post-is i e xs up in (
        same_len_mid i (e - i) l part (size ∙ sym (mid_len i e l (omega arith))) ∙ long,
        rw (← append_assoc, take_at (take i l ++ part) _ e before, append_assoc, shown, ← map-append, ← on, ← trace_append, take-append-drop) so_far,
      )

-- the last part: the samples from i to the end
pub part_filled :
    {S X T : Type 0} (step : S → X → T) (next : T → S) (f : T → ℕ) (s₀ : S) (xs : List X) (l : List ℕ) (i : ℕ) (s : S) (part : List ℕ)
    → part ≡ map f (trace step next s (take (length xs - i) (drop i xs))) → i ≤ length xs → Filled step next f s₀ xs l i s
    → put_mid i (length l - i) l part ≡ map f (trace step next s₀ xs)
part_filled step next f s₀ xs l i s part shown up p =
    rw p.0 (filled step next f s₀ xs _ (length xs) _ (omega arith) (part_turn step next f s₀ xs l i s (length xs) part shown up (omega arith) p))

-- and a state is left: by the samples from i on, from the state before sample i
abbrev pub Goes : {S X T : Type 0} → (S → X → T) → (T → S) → S → List X → ℕ → S → Type 0
Goes step next s₀ xs i s = left step next s (drop i xs) ≡ left step next s₀ xs

module _ {S X T : Type 0} (step : S → X → T) (next : T → S) (s₀ : S) (xs : List X) (i : ℕ) (s : S) where
  pub goes_on : (d : X) (t : T) → t ≡ step s (get_or xs i d) → i < length xs → Goes step next s₀ xs i s → Goes step next s₀ xs (i + 1) (next t)
  unfolding left
  goes_on d t q h e = rw (q, add-one) (rw (drop-cons xs i d h) at e)

  pub gone : length xs ≤ i → Goes step next s₀ xs i s → s ≡ left step next s₀ xs
  unfolding left
  gone h e = simp (drop_of_length-le xs h) at e
