-- What number 7 asks of the places, by two words, for every n and N: those that count are inside the width, and none counts above
-- N-1.
use mathlib.Core.Path.{◌≡◌, refl, sym, ◌∙◌}
use mathlib.Core.List.{List}
use mathlib.Core.Logic.{dite}
use mathlib.Core.Bool.{Bool, true, false, not, ◌||◌}
use Prim.Native.Nat.{ℕ, ◌-◌, ◌≤◌, ◌<◌, ◌^◌}
use native.Mathlib.Decide.{dec_lt}
use native.Mathlib.Omega.{arith}
use lib.Dec.{ltb, eqb, lit<}
use lib.ListN.{get_or}
use borrow.Author.Tests.{le-ltb, ltb-false, eq-eqb, eqb-true, not-false}
use Rattle.rules.specs.Bits.{Within}
use Rattle.std.specs.Prelude.{if◌then◌else◌}
use Rattle.rules.specs.Limits.{outside}
use Rattle.rules.specs.Signals.{as_word}
use Rattle.rules.proofs.Signals.{word_small, word_bit, word_zero, none_below, not_at}
use Rattle.rules.proofs.Tables.{or_neither}
use Rattle.rules.proofs.Width.{within, high_zero}
use Rattle.tuple.specs.Tuple.{bad_place, bad_places}
use Rattle.tuple.proofs.Small.{either_small}

-- a one where the count of a place is above a limit
abbrev pub beyond : ℕ → List ℕ → ℕ → ℕ
beyond limit counts i = if ltb limit (get_or counts i 0) then 1 else 0

pub beyond_small : (limit : ℕ) (counts : List ℕ) (i : ℕ) → beyond limit counts i < 2
beyond_small limit counts i = either_small (ltb limit (get_or counts i 0)) (lit< tt) (lit< tt)

zero_told : (p : Bool) → ◌≡◌ {A = ℕ} (if p then 1 else 0) 0 → p ≡ false
zero_told true e = absurd (omega (arith, e))
zero_told false e = refl

same_answer : (p q : Bool) → (p ≡ false → q ≡ false) → (q ≡ false → p ≡ false) → p ≡ q
same_answer true true f g = refl
same_answer true false f g = g refl
same_answer false true f g = sym (f refl)
same_answer false false f g = refl

module _ (n need : ℕ) (counts : List ℕ) where
  abbrev counting : ℕ
  counting = as_word 32 (beyond 0 counts)

  abbrev above : ℕ
  above = as_word 32 (beyond (need - 1) counts)

  abbrev bad : ℕ → Bool
  bad i = bad_place n need (get_or counts i 0) i

  small : counting < 2 ^ 32
  small = word_small (beyond 0 counts) (beyond_small 0 counts) 32

  -- a place that is not bad is not above N-1, and at n and above it does not count
  not_above : (i : ℕ) → bad i ≡ false → ltb (need - 1) (get_or counts i 0) ≡ false
  not_above i = go (ltb i n) where
    go : (p : Bool) → (if p then ltb (need - 1) (get_or counts i 0) else ltb 0 (get_or counts i 0)) ≡ false → ltb (need - 1) (get_or counts i 0) ≡ false
    go true e = e
    go false e = le-ltb (need - 1) (get_or counts i 0) (omega (arith, ltb-false 0 (get_or counts i 0) e))

  not_counting : (i : ℕ) → n ≤ i → bad i ≡ false → ltb 0 (get_or counts i 0) ≡ false
  not_counting i l e = rw (le-ltb i n l) at e

  not_bad : (i : ℕ) → ltb (need - 1) (get_or counts i 0) ≡ false → (n ≤ i → ltb 0 (get_or counts i 0) ≡ false) → bad i ≡ false
  not_bad i e h = go (ltb i n) refl where
    go : (p : Bool) → ltb i n ≡ p → (if p then ltb (need - 1) (get_or counts i 0) else ltb 0 (get_or counts i 0)) ≡ false
    go true q = e
    go false q = h (ltb-false i n q)

  told : bad_places n need counts ≡ false → not (eqb above 0) || outside n counting ≡ false
  told e =
      let fine = not_at bad 32 e in
      let none : above ≡ 0 = (word_zero (beyond (need - 1) counts) (beyond_small (need - 1) counts) 32).1 (λ i l. rw (not_above i (fine i l))) in
      let inside : Within n counting =
      λ k l. dite (dec_lt k 32)
      (λ h. word_bit (beyond 0 counts) (beyond_small 0 counts) 32 k h ∙ rw (not_counting k l (fine k h)))
      (λ h. high_zero 32 counting small k (omega arith)) in
      rw (eq-eqb above 0 none) ((within n counting).1 inside)

  asked : not (eqb above 0) || outside n counting ≡ false → bad_places n need counts ≡ false
  asked e =
      let both = or_neither (not (eqb above 0)) (outside n counting) e in
      let none = (word_zero (beyond (need - 1) counts) (beyond_small (need - 1) counts) 32).0 (eqb-true above 0 (not-false (eqb above 0) both.0)) in
      none_below bad 32
      (λ i l. not_bad i (zero_told (ltb (need - 1) (get_or counts i 0)) (none i l))
      (λ h. zero_told (ltb 0 (get_or counts i 0)) (sym (word_bit (beyond 0 counts) (beyond_small 0 counts) 32 i l) ∙ (within n counting).0 both.1 i h)))

  pub by_two_words : bad_places n need counts ≡ not (eqb above 0) || outside n counting
  by_two_words = same_answer (bad_places n need counts) (not (eqb above 0) || outside n counting) told asked
