-- Where signals agree, for every n. A signal that agrees has the count zero, and does not alarm. So where none disagrees the voted
-- word is the units' and every count is zero; and of a word of n signals the places at n and above change nothing.
use mathlib.Core.Path.{◌≡◌, refl, sym, ◌∙◌}
use mathlib.Core.List.{List, ◌++◌}
use mathlib.Core.Bool.{Bool, true, false}
use mathlib.Core.Logic.{dite}
use Prim.Native.Nat.{ℕ, ◌≤◌, ◌<◌}
use native.Mathlib.Decide.{dec_lt}
use native.Mathlib.Nat.{div-eq_of_lt}
use native.Mathlib.Omega.{arith}
use lib.Dec.{ltb}
use lib.ListN.{length, get_or, drop, replicate}
use lib.Pow.{pow_pos}
use lib.Seq.{ext_get_or}
use Rattle.rules.specs.Bits.{bit}
use Rattle.std.specs.Prelude.{if◌then◌else◌}
use Rattle.rules.specs.Limits.{outside}
use Rattle.rules.specs.Signals.{as_word, as_list}
use Rattle.rules.proofs.Signals.{bit_small, word_none, word_bit, word_small, word_ends, place_below, place_above, places_length}
use Rattle.rules.proofs.Width.{inside_lt, high_zero, words_agree}
use Rattle.tuple.specs.declared.Voters.{Voters}
use Rattle.tuple.specs.Disagreement.{bit_by, count_by, alarm_by, second_by, voters_by}
use Rattle.tuple.proofs.Small.{zeros}

pub zero_bit : (i : ℕ) → bit i 0 ≡ 0
zero_bit i = rw (div-eq_of_lt (pow_pos i))

-- a signal that agrees
count_zero : (need count : ℕ) {d : ℕ} → d ≡ 0 → count_by need count d ≡ 0
count_zero need count e = rw e

silent : (need count : ℕ) {d : ℕ} → d ≡ 0 → alarm_by need count d ≡ 0
silent need count e = rw e (go (ltb count _)) where
  go : (p : Bool) → ◌≡◌ {A = ℕ} (if p then 0 else 0) 0
  go true = refl
  go false = refl

module _
    (n need agreed : ℕ) (counts : List ℕ) (a : ℕ) (wide : n ≤ 32) (long : length counts ≡ 32)
    (above : (k : ℕ) → n ≤ k → k < 32 → get_or counts k 0 ≡ 0) (inside : outside n a ≡ false)
  where
    abbrev after : ℕ → ℕ → List ℕ
    after m d = as_list m (λ i. count_by need (get_or counts i 0) (bit i d)) ++ drop m counts

    as_long : (m d : ℕ) → m ≤ 32 → length (after m d) ≡ 32
    as_long m d l = places_length (λ i. count_by need (get_or counts i 0) (bit i d)) counts m (omega (arith, long, l)) ∙ long

    -- a place below m counts, where its signal disagrees
    below : (m d i : ℕ) → i < m → get_or (after m d) i 0 ≡ count_by need (get_or counts i 0) (bit i d)
    below m d = place_below (λ i. count_by need (get_or counts i 0) (bit i d)) counts m

    -- none at n or above does
    rest : (d i : ℕ) → n ≤ i → i < 32 → get_or (after n d) i 0 ≡ 0
    rest d i l m = place_above (λ k. count_by need (get_or counts k 0) (bit k d)) counts n i l ∙ above i l m

    -- none disagrees
    word_taken : a ≡ as_word n (λ i. bit_by (bit i a) (bit i agreed) (bit i 0))
    word_taken =
        let f : ℕ → ℕ = λ i. bit_by (bit i a) (bit i agreed) (bit i 0) in
        let small : (i : ℕ) → f i < 2 = λ i. rw (zero_bit i) (bit_small i a) in
        words_agree n a (as_word n f) (inside_lt n a inside) (word_small f small n) (λ i l. sym (word_bit f small n i l ∙ rw (zero_bit i)))

    none_alarms : 0 ≡ as_word n (λ i. alarm_by need (get_or counts i 0) (bit i 0))
    none_alarms =
        let f : ℕ → ℕ = λ i. alarm_by need (get_or counts i 0) (bit i 0) in
        word_none f ∙ sym (word_ends f 0 n (omega arith) (λ i l. silent need (get_or counts i 0) (zero_bit i)))

    none_second : 0 ≡ as_word n (λ i. second_by (bit i a) (bit i agreed) (bit i 0))
    none_second =
        let f : ℕ → ℕ = λ i. second_by (bit i a) (bit i agreed) (bit i 0) in
        word_none f ∙ sym (word_ends f 0 n (omega arith) (λ i l. rw (zero_bit i)))

    none_counts : replicate 32 0 ≡ after n 0
    none_counts =
        sym (ext_get_or 0 (after n 0) (replicate 32 0) (as_long n 0 wide)
        (λ i l. dite (dec_lt i n)
        (λ h. below n 0 i h ∙ count_zero need (get_or counts i 0) (zero_bit i) ∙ sym (zeros 32 i))
        (λ h. rest 0 i (omega arith) (rw (as_long n 0 wide) at l) ∙ sym (zeros 32 i))))

    pub agreeing : ◌≡◌ {A = Voters} (record { word = a; mask = 0; second = 0; counts = replicate 32 0 }) (voters_by n need agreed counts a 0)
    agreeing = rw (← word_taken, ← none_alarms, ← none_second, ← none_counts)

    -- the signals that disagree are among the n
    pub all_places : (d : ℕ) → outside n d ≡ false → voters_by 32 need agreed counts a d ≡ voters_by n need agreed counts a d
    all_places d among =
        let agrees : (i : ℕ) → n ≤ i → bit i d ≡ 0 = high_zero n d (inside_lt n d among) in
        let word = word_ends (λ i. bit_by (bit i a) (bit i agreed) (bit i d)) n 32 wide (λ i l. rw (agrees i l) (high_zero n a (inside_lt n a inside) i l)) in
        let mask = word_ends (λ i. alarm_by need (get_or counts i 0) (bit i d)) n 32 wide (λ i l. silent need (get_or counts i 0) (agrees i l)) in
        let second = word_ends (λ i. second_by (bit i a) (bit i agreed) (bit i d)) n 32 wide (λ i l. rw (agrees i l)) in
        let same : after 32 d ≡ after n d =
        ext_get_or 0 (after 32 d) (after n d) (as_long 32 d (omega arith) ∙ sym (as_long n d wide))
        (λ i l. let m : i < 32 = rw (as_long 32 d (omega arith)) at l in
        below 32 d i m ∙ dite (dec_lt i n) (λ h. sym (below n d i h)) (λ h. count_zero need (get_or counts i 0) (agrees i (omega arith)) ∙ sym (rest d i (omega arith) m))) in
        rw (word, mask, second, same)
