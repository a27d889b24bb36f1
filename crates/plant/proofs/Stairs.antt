-- The age bound is reached for every n, N, Tm, TM and D.
use mathlib.Core.Path.{◌≡◌, refl, sym, ap, ◌∙◌}
use mathlib.Core.Logic.{◌≢◌, dite}
use Prim.Native.Nat.{ℕ, suc, ◌+◌, ◌-◌, ◌*◌, ◌/◌, ◌%◌, ◌≤◌, ◌<◌}
use native.Mathlib.Omega.{arith}
use native.Mathlib.Decide.{dec_le}
use native.Mathlib.Nat.{suc-mul, add-mul, mul-one, mul-le-mul_left, mul-le-mul_right, div-mul-le_self, lt-div-mul-add, div-lt_iff_lt-mul, div-eq_of_lt}
use lib.ListN.{get_or}
use lib.Pow.{pow_pos}
use borrow.Author.Tests.{le-leb, lt-leb}
use Rattle.rules.specs.Bits.{bit}
use Rattle.rules.proofs.Signals.{bit_small, word_small, word_bit, word_zero, list_length, list_at}
use Rattle.confirm.specs.declared.Confirm.{Confirm}
use Rattle.confirm.specs.Confirm.{clauses}
use Rattle.plant.specs.Plant.{Watch, age_of, There, Changes, Formed, Observed, ShownBy, outputs}
use Rattle.plant.specs.Stairs.{raised, rise, rising, oldest, stairs}
use Rattle.plant.specs.Edges.{paper_age}
use Rattle.plant.proofs.Samples.{signal_read}
use Rattle.plant.proofs.Shown.{factors, longer}
use Rattle.plant.proofs.Tracks.{input, Tracks, tracks_fresh, by_clause, alike_on, tracks_next, along}

raised_on : (r s : ℕ) → r ≤ s → raised r s ≡ 1
raised_on r s l = rw (le-leb r s l)

raised_off : (r s : ℕ) → s < r → raised r s ≡ 0
raised_off r s l = rw (lt-leb r s l)

raised_small : (r s : ℕ) → raised r s < 2
raised_small r s = dite (dec_le r s) (λ l. rw (raised_on r s l) (omega arith)) (λ m. rw (raised_off r s (omega arith)) (omega arith))

-- it changes at r only
raised_turns : (r s : ℕ) → raised r (suc s) ≢ raised r s → suc s ≡ r
raised_turns r s d =
    dite (dec_le r s) (λ l. absurd (d (raised_on r (suc s) (omega arith) ∙ sym (raised_on r s l))))
    (λ m. dite (dec_le r (suc s)) (λ l. omega arith) (λ n. absurd (d (raised_off r (suc s) (omega arith) ∙ sym (raised_off r s (omega arith))))))

no_bit : (i : ℕ) → bit i 0 ≡ 0
no_bit i = ap (λ q. q % 2) (div-eq_of_lt (pow_pos i))

module _ (n need tm tM d : ℕ) (gaps : tm ≤ tM) (enough : d < need * tm) where
  abbrev w : Watch
  w = stairs n need tm tM d

  abbrev at : ℕ → ℕ
  at i = rise need tM d i

  some_gap : 1 ≤ tM
  some_gap = omega (arith, factors need tm d enough)

  some_count : 1 ≤ need
  some_count = (factors need tm d enough).0

  -- a moment is read before signal i rises where its sample is no later than D + i·N, and after that otherwise
  not_yet : (i k : ℕ) → k ≤ d + i * need → k * tM < at i
  not_yet i k l = omega (arith, mul-le-mul_right tM l)

  risen : (i k : ℕ) → d + i * need < k → at i ≤ k * tM
  risen i k l = omega (arith, some_gap, rw suc-mul at (mul-le-mul_right tM l))

  signal : (i s : ℕ) → i < n → bit i (rising n need tM d s) ≡ raised (at i) s
  signal i s il = word_bit (λ j. raised (at j) s) (λ j. raised_small (at j) s) n i il

  -- while no signal has risen the word is 0
  all_down : (s : ℕ) → s < d * tM + 1 → rising n need tM d s ≡ 0
  all_down s l =
      (word_zero (λ j. raised (at j) s) (λ j. raised_small (at j) s) n).1
      (λ i il. raised_off (at i) s (omega (arith, not_yet i d (omega arith))))

  formed : Formed w
  formed k l = list_at _ (suc (oldest n need d)) k (rw (list_length _ (suc (oldest n need d))) at l)

  turns : (i s : ℕ) → i < n → Changes w i s → suc s ≡ at i
  turns i s il c = raised_turns (at i) s (λ e. c (signal i (suc s) il ∙ e ∙ sym (signal i s il)))

  pub stairs_observed : Observed w
  stairs_observed = record {
    enough = enough;
    fits = λ s. word_small (λ j. raised (at j) s) (λ j. raised_small (at j) s) n;
    gap_least = λ k l. rw suc-mul (omega arith);
    gap_most = λ k l. rw suc-mul (omega arith);
    formed = formed;
    late = λ i k il l. (omega arith, omega arith);
    forward = λ i k il l. rw suc-mul (omega arith);
    rests = λ s l. all_down s (omega (arith, mul-le-mul_left d some_gap, mul-one d));
    quiet = λ i s s' il l a b. absurd (omega (arith, turns i s il a, turns i s' il b));
  }

  -- what sample k shows of signal i
  sampled : (i k : ℕ) → i < n → k ≤ oldest n need d → bit i (input w (suc k)) ≡ raised (at i) (k * tM)
  sampled i k il l = signal_read w formed k (rw list_length (omega arith)) i il ∙ signal i (k * tM) il

  -- up to sample D nothing has been read but the initial word
  first_samples : (k : ℕ) → k ≤ d → input w (suc k) ≡ 0
  first_samples k l =
      formed k (rw list_length (omega arith))
      ∙ (word_zero _ (λ j. bit_small j _) n).1 (λ i il. signal i (k * tM) il ∙ raised_off (at i) (k * tM) (not_yet i k (omega arith)))

  -- after it each sample differs from the one N before it, in the signal that rose last
  never_alike : (k : ℕ) → d < k → k ≤ oldest n need d → input w (suc k - need) ≢ input w (suc k)
  never_alike k late l same = omega (arith, sym down ∙ ap (bit i) same ∙ up) where
    x : ℕ
    x = k - d - 1

    i : ℕ
    i = x / need

    low : i * need ≤ x
    low = div-mul-le_self x need

    high : x < i * need + need
    high = lt-div-mul-add some_count

    il : i < n
    il = (div-lt_iff_lt-mul some_count).1 (omega arith)

    up : bit i (input w (suc k)) ≡ 1
    up = sampled i k il l ∙ raised_on (at i) (k * tM) (risen i k (omega (arith, low)))

    down : bit i (input w (suc k - need)) ≡ 0
    down =
        dite (dec_le need k)
        (λ h. let e : suc k - need ≡ suc (k - need) = omega arith in
        rw e (sampled i (k - need) il (omega arith) ∙ raised_off (at i) ((k - need) * tM) (not_yet i (k - need) (omega (arith, high)))))
        (λ h. let e : suc k - need ≡ 0 = omega arith in rw e (no_bit i))

  -- so the initial word is held up to the last sample
  pub held_on : get_or (outputs w) (oldest n need d) 0 ≡ 0
  held_on =
      along w (λ s k. Tracks w s k × (s.output ≡ 0)) (λ k word. word ≡ 0) step (λ s k l a. a.1)
      (tracks_fresh w some_count, refl) (oldest n need d) (rw list_length (omega arith))
    where
      step : (s : Confirm) (k : ℕ) → There w k → Tracks w s k × (s.output ≡ 0) → Tracks w (clauses s (input w (suc k))).state (suc k) × ((clauses s (input w (suc k))).state.output ≡ 0)
      step s k l (tr, z) =
          let m : k < suc (oldest n need d) = rw list_length at l in (
            tracks_next w some_count s k tr,
            by_clause w some_count s k tr (λ (t : Confirm). t.output ≡ 0) (λ _. z) (λ _ _. z)
                (λ e h. dite (dec_le k d) (first_samples k)
                (λ far. absurd (never_alike k (omega arith) (omega arith) (alike_on w some_count s k tr e (suc k - need) (omega arith) (omega (arith, h)))))),
          )

  -- and the plant showed it last n·N·TM + D before
  pub stairs_reached :
      1 ≤ n
      → (h : ShownBy w.plant (get_or (outputs w) (oldest n need d) 0) (w.taken (oldest n need d)) (age_of w))
      → h.moment + age_of w ≡ w.taken (oldest n need d)
  stairs_reached some h = omega (arith, low, add-mul d (n * need) tM) where
    up : at 0 ≤ h.moment → ◌≡◌ {A = ℕ} 0 1
    up l = sym (no_bit 0) ∙ ap (bit 0) (sym (h.whole ∙ held_on)) ∙ signal 0 h.moment some ∙ raised_on (at 0) h.moment l

    low : h.moment ≤ d * tM
    low = dite (dec_le (at 0) h.moment) (λ l. absurd (omega (arith, up l))) (λ m. omega arith)

  -- so no smaller age is a bound; and document 000's is none where D > TM
  pub no_sooner : 1 ≤ n → (age : ℕ) → age < age_of w → ShownBy w.plant (get_or (outputs w) (oldest n need d) 0) (w.taken (oldest n need d)) age → ⊥
  no_sooner some age l h =
      absurd (omega (arith, h.recent, stairs_reached some (longer (omega arith) h)))

  pub paper_no_bound : 1 ≤ n → tM < d → ShownBy w.plant (get_or (outputs w) (oldest n need d) 0) (w.taken (oldest n need d)) (paper_age w) → ⊥
  paper_no_bound some over = no_sooner some (paper_age w) (omega (arith, add-mul (n * need) 1 tM))
