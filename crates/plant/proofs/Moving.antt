-- The premises of demand 3 can be met, for every n, N, Tm, TM, D and every length of trace, by a plant all of whose signals go on moving.
use mathlib.Core.Path.{◌≡◌, refl, sym, ap, ◌∙◌}
use mathlib.Core.Logic.{◌≢◌, dite}
use mathlib.Core.List.{[], ◌∷◌}
use Prim.Native.Nat.{ℕ, suc, ◌+◌, ◌-◌, ◌*◌, ◌/◌, ◌%◌, ◌≤◌, ◌<◌}
use native.Mathlib.Omega.{arith}
use native.Mathlib.Decide.{dec_lt}
use native.Mathlib.Nat.{suc-mul, mul-one, mul-le-mul_left, mul-le-mul_right, mod-lt, div-eq_of_lt, div-eq_of_lt-le, div-mul-le_self, lt-div-mul-add, lt_of_mul-lt-mul_right}
use native.Mathlib.Numerals.{add-one}
use lib.Dec.{lit<}
use Rattle.rules.specs.Bits.{bit}
use Rattle.rules.specs.Signals.{as_word, as_list}
use Rattle.rules.proofs.Signals.{word_small, word_bit, word_zero, list_length, list_at}
use Rattle.trace.specs.Trace.{trace}
use Rattle.confirm.specs.Confirm.{clauses}
use Rattle.plant.specs.Plant.{Changes, Observed, outputs}
use Rattle.plant.specs.Moving.{period, turning, moving}

-- a quotient that changes has reached a multiple
module _ (p : ℕ) (some : 0 < p) where
  edge : (s : ℕ) → suc s / p ≢ s / p → suc s ≡ suc (s / p) * p
  edge s d =
      let low : s / p * p ≤ s = div-mul-le_self s p in
      let high : s < s / p * p + p = lt-div-mul-add some in
      rw suc-mul
      (dite (dec_lt (suc s) (s / p * p + p))
      (λ l. absurd (d (div-eq_of_lt-le p (omega arith) (rw (add-one, suc-mul) l))))
      (λ m. omega arith))

  -- so two such places are p apart, or more
  far : (s s' : ℕ) → s < s' → suc s / p ≢ s / p → suc s' / p ≢ s' / p → s + p ≤ s'
  far s s' l a b =
      let e = edge s a in
      let e' = edge s' b in
      let more : suc (s / p) < suc (s' / p) = lt_of_mul-lt-mul_right p (omega arith) in
      omega (arith, rw suc-mul at (mul-le-mul_right p more))

  -- and there is one after each t
  before_edge : (t : ℕ) → (t * p + (p - 1)) / p ≡ t
  before_edge t = div-eq_of_lt-le p (omega arith) (rw (add-one, suc-mul) (omega arith))

  at_edge : (t : ℕ) → suc (t * p + (p - 1)) / p ≡ suc t
  at_edge t = div-eq_of_lt-le p (rw suc-mul (omega arith)) (rw (add-one, suc-mul, suc-mul) (omega arith))

module _ (n need tm tM d : ℕ) where
  abbrev p : ℕ
  p = period n need tM d

  abbrev phase : ℕ → ℕ
  phase s = s / p % 2

  phase_small : (s : ℕ) → phase s < 2
  phase_small s = mod-lt (s / p) (lit< tt)

  signal : (i s : ℕ) → i < n → bit i (turning n p s) ≡ phase s
  signal i s il = word_bit (λ _. phase s) (λ _. phase_small s) n i il

  -- a signal that changes does so at a multiple of the period
  turns : (m i s : ℕ) → i < n → Changes (moving n need tm tM d m) i s → suc s / p ≢ s / p
  turns m i s il c e = c (signal i (suc s) il ∙ ap (λ q. q % 2) e ∙ sym (signal i s il))

  pub moving_observed : tm ≤ tM → d < need * tm → (m : ℕ) → Observed (moving n need tm tM d m)
  moving_observed gaps enough m = record {
    enough = enough;
    fits = λ s. word_small (λ _. phase s) (λ _. phase_small s) n;
    gap_least = λ k l. rw suc-mul (omega arith);
    gap_most = λ k l. rw suc-mul (omega arith);
    formed = λ k l. list_at _ m k (rw (list_length _ m) at l);
    late = λ i k il l. (omega arith, omega arith);
    forward = λ i k il l. rw suc-mul (omega arith);
    rests = λ s l. (word_zero (λ _. phase s) (λ _. phase_small s) n).1 (λ i il. let z : s / p ≡ 0 = div-eq_of_lt (omega arith) in rw z);
    quiet = λ i s s' il l a b. omega (arith, far p (omega arith) s s' l (turns m i s il a) (turns m i s' il b));
  }

  -- after each instant each signal changes again
  pub keeps_moving : (m i t : ℕ) → i < n → (s : ℕ) × (t ≤ s) × Changes (moving n need tm tM d m) i s
  keeps_moving m i t il = (s, omega (arith, mul-le-mul_left t many, mul-one t), λ c. odd (sym (signal i (suc s) il) ∙ c ∙ signal i s il)) where
    s : ℕ
    s = t * p + (p - 1)

    many : 1 ≤ p
    many = omega arith

    odd : phase (suc s) ≡ phase s → ⊥
    odd e = let e' : suc t % 2 ≡ t % 2 = rw (before_edge p many t, at_edge p many t) at e in omega arith

-- two signals, read 0 and 1 late, which move at 7, 14 and 21: no output is a mixture of them
pub moving_outputs : outputs (moving 2 2 1 1 1 22) ≡ 0 ∷ 0 ∷ 0 ∷ 0 ∷ 0 ∷ 0 ∷ 0 ∷ 0 ∷ 0 ∷ 3 ∷ 3 ∷ 3 ∷ 3 ∷ 3 ∷ 3 ∷ 3 ∷ 0 ∷ 0 ∷ 0 ∷ 0 ∷ 0 ∷ 0 ∷ []
unfolding as_list as_word trace clauses
moving_outputs = refl
