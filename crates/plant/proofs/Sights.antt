-- What weaker premises than demand 3's say of a watch's inputs, as the induction over a trace needs it. The initial word, input 0, is
-- taken and read at the start.
use mathlib.Core.Path.{◌≡◌, refl, sym, ap, ◌∙◌}
use mathlib.Core.Logic.{◌≢◌, dite, Ne-symm}
use Prim.Native.Nat.{ℕ, zero, suc, ◌+◌, ◌-◌, ◌*◌, ◌^◌, ◌≤◌, ◌<◌}
use native.Mathlib.Omega.{arith}
use native.Mathlib.Decide.{ℕ_discrete, dec_le}
use native.Mathlib.Nat.{suc-mul, zero-mul, one-mul, mul-le-mul_right}
use lib.ListN.{length}
use Rattle.rules.specs.Bits.{bit}
use Rattle.rules.proofs.Width.{words_agree}
use Rattle.plant.specs.Plant.{Watch, gap_of, age_of, ShownBy}
use Rattle.plant.specs.Weaker.{Sufficient}
use Rattle.plant.proofs.Words.{apart, apart_grows}
use Rattle.plant.proofs.Samples.{signal_read, sample_fits}
use Rattle.plant.proofs.Tracks.{input}
use Rattle.plant.proofs.Moves.{Turns, once, still}

-- the instant of input k, and the moment at which its signal i was read
abbrev pub instant : Watch → ℕ → ℕ → ℕ
instant w start zero = start
instant w start (suc k) = w.taken k

abbrev pub reading : Watch → ℕ → ℕ → ℕ → ℕ
reading w start i zero = start
reading w start i (suc k) = w.read i k

-- the earliest moment at which a signal of input k can have been read
abbrev pub earliest : Watch → ℕ → ℕ → ℕ
earliest w start zero = start
earliest w start (suc k) = w.taken k - w.d

-- the plant showed the word as a whole at a moment at which input k can have been read
pub record Sight (w : Watch) (start k word : ℕ) : Type 0 where
  pub moment : ℕ
  pub not_early : earliest w start k ≤ moment
  pub no_later : moment ≤ instant w start k
  pub whole : w.plant moment ≡ word

-- no signal of input k is read before that of input q
abbrev pub Ordered : Watch → ℕ → ℕ → ℕ → Type 0
Ordered w start q k = (i : ℕ) → i < w.n → reading w start i q ≤ reading w start i k

-- what never falls from one place to the next does not fall
climbs : (f : ℕ → ℕ) (end : ℕ) → ((k : ℕ) → k < end → f k ≤ f (suc k)) → (q k : ℕ) → q ≤ k → k ≤ end → f q ≤ f k
climbs f end h q zero l m = let e : q ≡ 0 = omega arith in rw e (omega arith)
climbs f end h q (suc k) l m = dite (ℕ_discrete q (suc k)) (λ e. rw e (omega arith)) (λ d. omega (arith, climbs f end h q k (omega arith) (omega arith), h k (omega arith)))

module _ (w : Watch) (start : ℕ) (o : Sufficient w start) where
  abbrev end : ℕ
  end = length w.samples

  later : (q k : ℕ) → q ≤ k → k ≤ end → instant w start q ≤ instant w start k
  later = climbs (instant w start) end step where
    step : (k : ℕ) → k < end → instant w start k ≤ instant w start (suc k)
    step zero l = o.start_before
    step (suc k) l = o.in_order k l

  -- m gaps, and a delay before the first
  span : (m q k : ℕ) → q + m ≡ k → k ≤ end → instant w start k ≤ earliest w start q + m * w.tM + w.d
  span zero q k e l = let z : q ≡ k = omega arith in rw (zero-mul, z) (at_once k) where
    at_once : (k : ℕ) → instant w start k ≤ earliest w start k + 0 + w.d
    at_once zero = omega arith
    at_once (suc k) = omega arith
  span (suc m) q zero e l = absurd (omega arith)
  span (suc m) q (suc zero) e l =
      let z : q ≡ 0 = omega arith in
      let y : m ≡ 0 = omega arith in
      rw (z, y, one-mul) (omega (arith, o.start_recent))
  span (suc m) q (suc (suc k)) e l = rw suc-mul (omega (arith, o.gap_most k l, span m q (suc k) (omega arith) (omega arith)))

  module _ (i : ℕ) (il : i < w.n) where
    not_early : (k : ℕ) → k ≤ end → earliest w start k ≤ reading w start i k
    not_early zero l = omega arith
    not_early (suc k) l = omega (arith, o.late i k il l)

    not_ahead : (k : ℕ) → k ≤ end → reading w start i k ≤ instant w start k
    not_ahead zero l = omega arith
    not_ahead (suc k) l = omega (arith, o.late i k il l)

    abbrev shown : ℕ → ℕ
    shown s = bit i (w.plant s)

    shows : (k : ℕ) → k ≤ end → bit i (input w k) ≡ shown (reading w start i k)
    shows zero l = sym (ap (bit i) o.starts)
    shows (suc k) l = signal_read w o.formed k l i il

    -- a signal moves at most once, and is still between alike moments, within the quiet gap
    abbrev gap : ℕ
    gap = gap_of w

    quiet : (s s' : ℕ) → s < s' → Turns shown s → Turns shown s' → s + gap ≤ s'
    quiet s s' l a b = omega (arith, o.quiet i s s' il l a b)

    -- m gaps from input q to input k keep within the quiet gap
    within : (m q k : ℕ) → q + m ≡ k → k ≤ end → m ≤ w.n * w.need + 1 → reading w start i k ≤ reading w start i q + gap
    within m q k e l short =
        omega (arith, not_ahead k l, span m q k e l, not_early q (omega arith), mul-le-mul_right w.tM short)

    -- N gaps are few enough, since there is a signal
    few : (m : ℕ) → m ≤ w.need → m ≤ w.n * w.need + 1
    few m h = omega (arith, one-mul w.need, mul-le-mul_right w.need il)

    -- a signal that is alike in inputs j and k is so at every moment between its readings
    still_signal :
        (j k m : ℕ) → j ≤ k → k ≤ j + w.need → k ≤ end → input w j ≡ input w k → reading w start i j ≤ m → m ≤ reading w start i k
        → shown m ≡ bit i (input w k)
    still_signal j k m jk near l same a b =
        still shown gap quiet (reading w start i j) m (reading w start i k) a b
        (within (k - j) j k (omega arith) l (few (k - j) (omega arith)))
        (sym (shows j (omega arith)) ∙ ap (bit i) same ∙ shows k l)
        ∙ sym (shows k l)

    moved_once :
        (q k : ℕ) → q ≤ k → k < end → k ≤ q + w.n * w.need → Ordered w start q k → Ordered w start k (suc k)
        → bit i (input w q) ≢ bit i (input w k) → bit i (input w k) ≢ bit i (input w (suc k)) → ⊥
    moved_once q k qk l near before after a b =
        once shown gap quiet (reading w start i q) (reading w start i k) (reading w start i (suc k))
        (before i il) (after i il) (within (suc k - q) q (suc k) (omega arith) l (omega arith))
        (λ e. a (shows q (omega arith) ∙ e ∙ sym (shows k (omega arith))))
        (λ e. b (shows k (omega arith) ∙ e ∙ sym (shows (suc k) l)))

  input_fits : (k : ℕ) → k ≤ end → input w k < 2 ^ w.n
  input_fits zero l = rw (← o.starts) (o.fits start)
  input_fits (suc k) l = sample_fits w o.formed k l

  -- a whole word, from moments between the readings of two alike inputs
  still_word :
      (j k m : ℕ) → j ≤ k → k ≤ j + w.need → k ≤ end → input w j ≡ input w k
      → ((i : ℕ) → i < w.n → (reading w start i j ≤ m) × (m ≤ reading w start i k))
      → w.plant m ≡ input w k
  still_word j k m jk near l same between =
      words_agree w.n _ _ (o.fits m) (input_fits k l) (λ i il. still_signal i il j k m jk near l same (between i il).0 (between i il).1)

  -- While at most D has passed since the start, what it shows can have been read.
  pub start_sight : (q k : ℕ) → q ≤ k → k ≤ end → instant w start k ≤ start + w.d → Sight w start q w.initial
  start_sight zero k qk l soon = record { moment = start; not_early = omega arith; no_later = omega arith; whole = o.starts }
  start_sight (suc q) k qk l soon =
      let upto = later (suc q) k qk l in
      record { moment = start; not_early = omega arith; no_later = later 0 (suc q) (omega arith) (omega arith); whole = o.starts }

  -- An input that is like the one N before it, or like the initial word if there are not so many, was shown as a whole: at its
  -- earliest moment each signal was already, and was still, as it was read.
  pub anchored : (k : ℕ) → k ≤ end → input w (k - w.need) ≡ input w k → Sight w start k (input w k)
  anchored zero l same = start_sight 0 0 (omega arith) l (omega arith)
  anchored (suc k) l same = dite (dec_le w.need k) old young where
    at_earliest : w.plant (w.taken k - w.d) ≡ input w (suc k) → Sight w start (suc k) (input w (suc k))
    at_earliest e = record { moment = w.taken k - w.d; not_early = omega arith; no_later = omega arith; whole = e }

    old : w.need ≤ k → Sight w start (suc k) (input w (suc k))
    old h =
        let j : ℕ = k - w.need in
        let at_j : suc k - w.need ≡ suc j = omega arith in
        let at_k : j + w.need ≡ k = omega arith in
        at_earliest
        (still_word (suc j) (suc k) (w.taken k - w.d) (omega arith) (omega arith) l (rw at_j at same)
        (λ i il. (omega (arith, o.late i j il (omega arith), rw at_k at (o.outlasts j (omega arith))), omega (arith, o.late i k il l))))

    young : (w.need ≤ k → ⊥) → Sight w start (suc k) (input w (suc k))
    young h =
        let none : suc k - w.need ≡ 0 = omega arith in
        let alike : w.initial ≡ input w (suc k) = rw none at same in
        dite (dec_le start (w.taken k - w.d))
        (λ a. at_earliest (still_word 0 (suc k) (w.taken k - w.d) (omega arith) (omega arith) l alike (λ i il. (omega arith, omega (arith, o.late i k il l)))))
        (λ a. rw (← alike) (start_sight (suc k) (suc k) (omega arith) l (omega arith)))

  -- A new input, n·N gaps after an old one or sooner, differs from it in one more signal, which makes room for N samples more.
  pub one_more :
      (q k : ℕ) → q ≤ k → k < end → k ≤ q + w.n * w.need → Ordered w start q k → Ordered w start k (suc k) → input w (suc k) ≢ input w k
      → apart w.n (input w q) (input w k) * w.need + w.need ≤ apart w.n (input w q) (input w (suc k)) * w.need
  one_more q k qk l near before after d =
      rw suc-mul at
      (mul-le-mul_right w.need
      (apart_grows w.n (input w q) (input w k) (input w (suc k)) (input_fits k (omega arith)) (input_fits (suc k) l)
      (λ i il. moved_once i il q k qk l near before after) (Ne-symm d)))

  -- and inputs that are not alike differ in one signal at least
  pub one_apart : (q k : ℕ) → q ≤ end → k ≤ end → input w q ≢ input w k → 1 ≤ apart w.n (input w q) (input w k)
  one_apart q k ql kl d =
      omega (arith, apart_grows w.n (input w q) (input w q) (input w k) (input_fits q ql) (input_fits k kl) (λ i il a b. a refl) d)

  -- What was shown at input q was shown no later than input k, and n·N gaps and a delay before it at most.
  pub not_old :
      (q k word : ℕ) → q ≤ k → k ≤ end → k ≤ q + w.n * w.need → Sight w start q word
      → ShownBy w.plant word (instant w start k) (age_of w)
  not_old q k word qk l near h =
      let short : k - q ≤ w.n * w.need = omega arith in
      record {
        moment = h.moment;
        no_later = omega (arith, later q k qk l);
        recent = omega (arith, span (k - q) q k (omega arith) l, mul-le-mul_right w.tM short);
        whole = h.whole;
      }

  -- Samples are read in order.
  pub ordered : (q k : ℕ) → 1 ≤ q → q ≤ k → k ≤ end → Ordered w start q k
  ordered zero k some qk l i il = absurd (omega (arith, some))
  ordered (suc q) zero some qk l i il = absurd (omega (arith, qk))
  ordered (suc q) (suc k) some qk l i il = climbs (w.read i) k (λ j m. omega (arith, o.forward i j il (omega arith))) q k (omega arith) (omega arith)

  -- After the time D from the start on, nothing is read that is older than the start.
  pub far_ordered : (q k : ℕ) → q ≤ k → k ≤ end → start + w.d ≤ instant w start k → Ordered w start q k
  far_ordered zero zero qk l far i il = omega arith
  far_ordered zero (suc k) qk l far i il = omega (arith, o.late i k il l)
  far_ordered (suc q) k qk l far i il = ordered (suc q) k (omega arith) qk l i il
