-- Whether a film meets a premise, and whether it meets the conclusion, is decided by computing.
use mathlib.Core.Path.{◌≡◌}
use mathlib.Core.Logic.Dec
use mathlib.Core.Logic.{◌≢◌, dite}
use Prim.Native.Nat.{ℕ, zero, suc, ◌+◌, ◌*◌, ◌^◌, ◌≤◌, ◌<◌, min}
use native.Mathlib.Omega.{arith}
use native.Mathlib.Decide.{ℕ_discrete, dec_le, dec_lt}
use lib.ListN.{length, get_or}
use Rattle.rules.specs.Bits.{bit}
use Rattle.rules.specs.Signals.{as_word}
use Rattle.sizing.specs.Sizing.{quiet_gap}
use Rattle.plant.specs.Plant.{Watch, gap_of, There, Changes}
use Rattle.plant.specs.Film.{Film, last, watch}
use Rattle.plant.specs.Premises.{Premise, enough, fits, gap_least, gap_most, formed, late, forward, rests, quiet, Holds, Nearly}
use Rattle.plant.specs.Edges.{QuietWithoutDelay, NotLate}
use Rattle.plant.proofs.Premises.{premises}

-- what a decision has decided
abbrev pub Sure : {P : Type 0} → Dec P → Type 0
Sure (yes p) = Unit {0}
Sure (no n) = ⊥

pub surely : {P : Type 0} (d : Dec P) → Sure d → P
surely (yes p) t = p
surely (no n) t = absurd t

-- an implication, whose end may take its premise for granted
unfoldable pub implied : {P Q : Type 0} → Dec P → Dec Q → Dec (P → Q)
implied (yes p) (yes q) = yes (λ _. q)
implied (yes p) (no n) = no (λ f. n (f p))
implied (no n) d = yes (λ p. absurd (n p))

-- every k below m
next : {P : ℕ → Type 0} (m : ℕ) → Dec ((k : ℕ) → k < m → P k) → Dec (P m) → Dec ((k : ℕ) → k < suc m → P k)
next m (no n) d = no (λ f. n (λ k l. f k (omega arith)))
next m (yes h) (no n) = no (λ f. n (f m (omega arith)))
next {P} m (yes h) (yes p) = yes (λ k l. last_or_below k (ℕ_discrete k m) l) where
  last_or_below : (k : ℕ) → Dec (k ≡ m) → k < suc m → P k
  last_or_below k (yes e) l = rw e p
  last_or_below k (no d) l = h k (omega arith)

unfoldable pub every_below : {P : ℕ → Type 0} (m : ℕ) → ((k : ℕ) → Dec (P k)) → Dec ((k : ℕ) → k < m → P k)
unfolding next
every_below zero d = yes (λ k l. absurd (omega (arith, l)))
every_below (suc m) d = next m (every_below m d) (d m)

-- the same said otherwise
unfoldable mapped : {P Q : Type 0} → (P → Q) → (Q → P) → Dec P → Dec Q
mapped f g (yes p) = yes (f p)
mapped f g (no n) = no (λ q. n (g q))

-- a signal of a film changes before the last word only
pub changes_early : (f : Film) (i s : ℕ) → Changes (watch f) i s → s < last f
changes_early f i s c = dite (dec_lt s (last f)) (λ l. l) (λ n. let e : min (suc s) (last f) ≡ min s (last f) = omega arith in absurd (c (rw e)))

module _ (f : Film) where
  abbrev w : Watch
  w = watch f

  abbrev end : ℕ
  end = length f.samples

  -- of the plant's words, of two samples in a row, of a signal's readings, of two readings in a row, of two changes of a signal
  unfoldable every_word : {P : ℕ → Type 0} → ((x : ℕ) → Dec (P x)) → Dec ((s : ℕ) → P (w.plant s))
  unfolding mapped
  every_word d =
      mapped (λ h s. let e : min (min s (last f)) (last f) ≡ min s (last f) = omega arith in rw e at (h (min s (last f)) (omega arith))) (λ h s l. h s)
      (every_below (suc (last f)) (λ s. d (w.plant s)))

  unfoldable every_gap : {P : ℕ → Type 0} → ((k : ℕ) → Dec (P k)) → Dec ((k : ℕ) → There w (suc k) → P k)
  unfolding mapped
  every_gap d = mapped (λ h k l. h k (omega arith) l) (λ h k _ l. h k l) (every_below end (λ k. implied (dec_lt (suc k) end) (d k)))

  unfoldable every_reading : {P : ℕ → ℕ → Type 0} → ((i k : ℕ) → Dec (P i k)) → Dec ((i k : ℕ) → i < f.n → There w k → P i k)
  unfolding mapped
  every_reading d = mapped (λ h i k il l. h i il k l) (λ h i il k l. h i k il l) (every_below f.n (λ i. every_below end (d i)))

  unfoldable every_next : {P : ℕ → ℕ → Type 0} → ((i k : ℕ) → Dec (P i k)) → Dec ((i k : ℕ) → i < f.n → There w (suc k) → P i k)
  unfolding mapped every_gap
  every_next d = mapped (λ h i k il l. h i il k l) (λ h i il k l. h i k il l) (every_below f.n (λ i. every_gap (d i)))

  changes : (i s : ℕ) → Dec (Changes w i s)
  changes i s = Dec.not (ℕ_discrete (bit i (w.plant (suc s))) (bit i (w.plant s)))

  unfoldable every_change : {P : ℕ → ℕ → Type 0} → ((s s' : ℕ) → Dec (P s s')) → Dec ((i s s' : ℕ) → i < f.n → s < s' → Changes w i s → Changes w i s' → P s s')
  unfolding mapped changes
  every_change d =
      mapped
      (λ h i s s' il l a b. h i il s (changes_early f i s a) s' (changes_early f i s' b) l a b)
      (λ h i il s _ s' _ l a b. h i s s' il l a b)
      (every_below f.n (λ i. every_below (last f) (λ s. every_below (last f) (λ s'. implied (dec_lt s s') (implied (changes i s) (implied (changes i s') (d s s')))))))

  abbrev gap : ℕ
  gap = gap_of w

unfoldable pub decide : (p : Premise) (f : Film) → Dec (Holds p (watch f))
unfolding mapped every_word every_gap every_reading every_next every_change
decide enough f = dec_lt f.d (f.need * f.tm)
decide fits f = every_word f (λ x. dec_lt x (2 ^ f.n))
decide gap_least f = every_gap f (λ k. dec_le ((watch f).taken k + f.tm) ((watch f).taken (suc k)))
decide gap_most f = every_gap f (λ k. dec_le ((watch f).taken (suc k)) ((watch f).taken k + f.tM))
decide formed f = every_below (end f) (λ k. ℕ_discrete (get_or f.samples k 0) (as_word f.n (λ i. bit i ((watch f).plant ((watch f).read i k)))))
decide late f = every_reading f (λ i k. Dec.and (dec_le ((watch f).read i k) ((watch f).taken k)) (dec_le ((watch f).taken k) ((watch f).read i k + f.d)))
decide forward f = every_next f (λ i k. dec_le ((watch f).read i k) ((watch f).read i (suc k)))
decide rests f = mapped (λ h s l. h s (omega arith)) (λ h s l. h s (omega arith)) (every_below (suc ((watch f).taken 0)) (λ s. ℕ_discrete ((watch f).plant s) f.initial))
decide quiet f = every_change f (λ s s'. dec_lt (s + gap f) s')

-- the same, missed by one
unfoldable pub dec_nearly : (p : Premise) (f : Film) → Dec (Nearly p (watch f))
unfolding every_word every_gap every_reading every_next every_change
dec_nearly enough f = dec_le f.d (f.need * f.tm + 1)
dec_nearly fits f = every_word f (λ x. dec_lt x (2 ^ (f.n + 1)))
dec_nearly gap_least f = every_gap f (λ k. dec_le ((watch f).taken k + f.tm) ((watch f).taken (suc k) + 1))
dec_nearly gap_most f = every_gap f (λ k. dec_le ((watch f).taken (suc k)) ((watch f).taken k + f.tM + 1))
dec_nearly formed f = yes tt
dec_nearly late f = every_reading f (λ i k. Dec.and (dec_le ((watch f).read i k) ((watch f).taken k)) (dec_le ((watch f).taken k) ((watch f).read i k + f.d + 1)))
dec_nearly forward f = every_next f (λ i k. dec_le ((watch f).read i k) ((watch f).read i (suc k) + 1))
dec_nearly rests f = every_below ((watch f).taken 0) (λ s. ℕ_discrete ((watch f).plant s) f.initial)
dec_nearly quiet f = every_change f (λ s s'. dec_le (s + gap f) (s' + 1))

unfoldable pub dec_quiet_without_delay : (f : Film) → Dec (QuietWithoutDelay (watch f))
unfolding every_change
dec_quiet_without_delay f = every_change f (λ s s'. dec_lt (s + quiet_gap f.n f.need f.tM 0) s')

unfoldable pub dec_not_late : (f : Film) → Dec (NotLate (watch f))
unfolding every_reading
dec_not_late f = every_reading f (λ i k. dec_le ((watch f).taken k) ((watch f).read i k + f.d))

-- all premises, or all but the one with that number
unfoldable pub dec_others : (skipped : ℕ) (f : Film) → Dec ((k : ℕ) → k < length premises → k ≢ skipped → Holds (get_or premises k enough) (watch f))
dec_others skipped f = every_below (length premises) (λ k. implied (Dec.not (ℕ_discrete k skipped)) (decide (get_or premises k enough) f))

-- the plant did not show the word within the age
unfoldable pub dec_missed :
    (plant : ℕ → ℕ) (word instant age : ℕ)
    → Dec ((m : ℕ) → m < suc instant → instant ≤ m + age → plant m ≢ word)
dec_missed plant word instant age = every_below (suc instant) (λ m. implied (dec_le instant (m + age)) (Dec.not (ℕ_discrete (plant m) word)))
