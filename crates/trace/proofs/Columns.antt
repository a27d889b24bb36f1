-- Samples of two columns, and of four, taken together: as many as a column has, and each made of the columns' own.
use mathlib.Core.Path.{◌≡◌, refl, ap, ◌∙◌}
use mathlib.Core.List.{List, [], ◌∷◌, zip, zip_with}
use Prim.Native.Nat.{ℕ, zero, suc, ◌-◌, ◌<◌}
use native.Mathlib.Omega.{arith}
use lib.ListN.{length, get_or, take, drop, length-take, length-drop}

pub zip_length : {X Y : Type 0} (us : List X) (vs : List Y) → length us ≡ length vs → length (zip us vs) ≡ length us
unfolding zip zip_with
zip_length [] [] e = refl
zip_length [] (v ∷ vs) e = refl
zip_length (u ∷ us) [] e = absurd (omega arith)
zip_length (u ∷ us) (v ∷ vs) e = ap suc (zip_length us vs (omega arith))

pub zip_at :
    {X Y : Type 0} (us : List X) (vs : List Y) (i : ℕ) (d : X) (e : Y) → i < length us → length us ≡ length vs
    → get_or (zip us vs) i (d, e) ≡ (get_or us i d, get_or vs i e)
unfolding zip zip_with
zip_at [] vs i d e h q = absurd (omega arith)
zip_at (u ∷ us) [] i d e h q = absurd (omega arith)
zip_at (u ∷ us) (v ∷ vs) zero d e h q = refl
zip_at (u ∷ us) (v ∷ vs) (suc i) d e h q = zip_at us vs i d e (omega arith) (omega arith)

-- what is left of both, past the first n
pub zip_drop : {X Y : Type 0} (n : ℕ) (us : List X) (vs : List Y) → length us ≡ length vs → drop n (zip us vs) ≡ zip (drop n us) (drop n vs)
unfolding zip zip_with
zip_drop zero us vs e = refl
zip_drop (suc n) [] vs e = refl
zip_drop (suc n) (u ∷ us) [] e = absurd (omega arith)
zip_drop (suc n) (u ∷ us) (v ∷ vs) e = zip_drop n us vs (omega arith)

module _ (a b c d : List ℕ) (ab : length a ≡ length b) (ac : length a ≡ length c) (ad : length a ≡ length d) where
  pairs_alike : length (zip a b) ≡ length (zip c d)
  pairs_alike = omega (arith, zip_length a b ab, zip_length c d (omega arith))

  pub four_length : length (zip (zip a b) (zip c d)) ≡ length a
  four_length = zip_length (zip a b) (zip c d) pairs_alike ∙ zip_length a b ab

-- parts from k on of two slices of one length are of one length: the next j places of both, and the rest of both
pub parts_alike : (k j : ℕ) (l m : List ℕ) → length l ≡ length m → length (take j (drop k l)) ≡ length (take j (drop k m))
parts_alike k j l m e = rw (length-take j (drop k l), length-take j (drop k m), length-drop k l, length-drop k m, e)

pub rests_alike : (k : ℕ) (l m : List ℕ) → length l ≡ length m → length (take (length l - k) (drop k l)) ≡ length (take (length m - k) (drop k m))
rests_alike k l m e = rw e (parts_alike k (length m - k) l m e)
