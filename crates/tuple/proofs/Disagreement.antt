-- The word of disagreements, for every n: its bit i, for i below n, is a one exactly where bit i of the two words differs, and it
-- has none at n or above. Of two words inside the width it is their XOR. The voters that look at it are the voters, and their
-- word is (a AND NOT d) OR (agreed AND d). Where the second unit shows the agreed bit: d AND (a XOR agreed).
use mathlib.Core.Path.{◌≡◌, refl, sym, ap, ◌∙◌}
use mathlib.Core.Logic.{◌↔◌}
use mathlib.Core.List.{List}
use mathlib.Core.Bool.{Bool, true, false}
use Prim.Native.Nat.{ℕ, zero, suc, ◌+◌, ◌-◌, ◌≤◌, ◌<◌, ◌^◌, min, max}
use native.Mathlib.Omega.{arith}
use lib.Bits.{bit_and, bit_or, bit_xor, and_le_l, and_le_r, or_lt, xor_lt}
use lib.Dec.{ltb, eqb, lit<}
use lib.ListN.{get_or}
use lib.Pow.{pow_mono}
use borrow.Author.Tests.{eqb-true, eqb-false}
use Rattle.rules.specs.Bits.{bit}
use Rattle.std.specs.Prelude.{if◌then◌else◌}
use Rattle.rules.specs.Limits.{outside}
use Rattle.rules.specs.Signals.{as_word}
use Rattle.rules.proofs.Bits.{and_bit, or_bit, xor_exactly, not_bit}
use Rattle.rules.proofs.Signals.{bit_small, word_bit, word_small, word_same, list_same}
use Rattle.rules.proofs.Width.{inside_lt, lt_inside, words_agree}
use Rattle.vote.specs.Vote as vote
use Rattle.vote.specs.Vote.{held, alarm}
use Rattle.vote.specs.declared.Vote.{Vote}
use Rattle.vote.specs.declared.Which.{Which}
use Rattle.vote.specs.declared.Which.TheVariants.{First, Second, Neither}
use Rattle.vote.proofs.Clauses.{by_tests}
use Rattle.tuple.specs.Disagreement.{disagreement, bit_by, count_by, alarm_by, second_by, voters_by}
use Rattle.tuple.specs.declared.Tuple.{Tuple}
use Rattle.tuple.specs.Tuple.{width, vote_need, voter_of, signal_vote, alarm_bit, if_second, second_bit, voters, decided, clauses}
use Rattle.tuple.proofs.Small.{either_small}

-- a one where a test is false
abbrev unless : Bool → ℕ
unless p = if p then 0 else 1

module _ (n a b : ℕ) where
  differs_small : (i : ℕ) → unless (eqb (bit i a) (bit i b)) < 2
  differs_small i = either_small (eqb (bit i a) (bit i b)) (lit< tt) (lit< tt)

  small : disagreement n a b < 2 ^ n
  small = word_small (λ i. unless (eqb (bit i a) (bit i b))) differs_small n

  pub disagreement_inside : outside n (disagreement n a b) ≡ false
  disagreement_inside = lt_inside n (disagreement n a b) small

  at_signal : (i : ℕ) → i < n → bit i (disagreement n a b) ≡ unless (eqb (bit i a) (bit i b))
  at_signal = word_bit (λ i. unless (eqb (bit i a) (bit i b))) differs_small n

  xor_signal : (i : ℕ) → bit i (bit_xor a b) ≡ unless (eqb (bit i a) (bit i b))
  xor_signal i = go (eqb (bit i a) (bit i b)) refl where
    go : (p : Bool) → eqb (bit i a) (bit i b) ≡ p → bit i (bit_xor a b) ≡ unless p
    go true e =
        let none : bit i (bit_xor a b) ≡ 1 → ⊥ = λ q. (xor_exactly i a b).0 q (eqb-true (bit i a) (bit i b) e) in
        omega (arith, bit_small i (bit_xor a b), none)
    go false e = (xor_exactly i a b).1 (eqb-false (bit i a) (bit i b) e)

  pub disagrees_exactly : (i : ℕ) → i < n → (bit i (disagreement n a b) ≡ 1) ↔ (bit i a ≡ bit i b → ⊥)
  disagrees_exactly i l = rw (at_signal i l, ← xor_signal i) (xor_exactly i a b)

  -- one operation makes it
  pub by_xor : outside n a ≡ false → outside n b ≡ false → bit_xor a b ≡ disagreement n a b
  by_xor p q =
      words_agree n (bit_xor a b) (disagreement n a b) (xor_lt n a b (inside_lt n a p) (inside_lt n b q)) small
      (λ i l. xor_signal i ∙ sym (at_signal i l))

-- a vote of one signal, by whether its two bits are equal and whether its count is below N-1
module _ (s : Vote) (x y : ℕ) where
  word_told : (p q : Bool) → bit_by x s.word (unless p) ≡ (by_tests s x y p false q).state.word
  word_told true q = refl
  word_told false true = refl
  word_told false false = refl

  count_told : (p q : Bool) → (if eqb (unless p) 0 then 0 else if q then s.count + 1 else s.count) ≡ (by_tests s x y p false q).state.count
  count_told true q = refl
  count_told false true = refl
  count_told false false = refl

  alarm_told : (p q : Bool) → (if q then 0 else unless p) ≡ alarm_bit (by_tests s x y p false q).answer
  alarm_told true true = refl
  alarm_told true false = refl
  alarm_told false true = refl
  alarm_told false false = refl

  -- of bits: where the first does not show the agreed one, the second does
  second_told :
      s.word < 2 → x < 2 → y < 2 → (p q : Bool) → eqb x y ≡ p → second_by x s.word (unless p) ≡ second_bit (by_tests s x y p false q).answer
  second_told l m k true q e = refl
  second_told l m k false q e = go q (eqb x s.word) (eqb y s.word) refl refl where
    told : (u : Which) (q : Bool) → second_bit (if q then held s (s.count + 1) u else alarm s u).answer ≡ if_second u
    told u true = refl
    told u false = refl

    go : (q f g : Bool) → eqb x s.word ≡ f → eqb y s.word ≡ g → let u = if f then First else if g then Second else Neither in
        (if f then 0 else 1) ≡ second_bit (if q then held s (s.count + 1) u else alarm s u).answer
    go q true g i j = sym (told First q)
    go q false true i j = sym (told Second q)
    go q false false i j =
        let apart = eqb-false x y e in
        let other = eqb-false x s.word i in
        let another = eqb-false y s.word j in
        absurd (omega arith)

module _ (n need agreed : ℕ) (counts : List ℕ) (a b : ℕ) where
  abbrev here : ℕ → Vote
  here i = voter_of need agreed (get_or counts i 0) i

  abbrev equal : ℕ → Bool
  equal i = eqb (bit i a) (bit i b)

  abbrev low : ℕ → Bool
  low i = ltb (get_or counts i 0) (need - 1)

  -- the voters that look at the word of disagreements are the voters
  pub look : voters_by n need agreed counts a (disagreement n a b) ≡ voters n need agreed counts a b
  unfolding vote.clauses
  look =
      let d = disagreement n a b in
      let word = word_same (λ i. bit_by (bit i a) (bit i agreed) (bit i d)) (λ i. (signal_vote need agreed counts a b i).state.word) n
      (λ i l. rw (at_signal n a b i l) (word_told (here i) (bit i a) (bit i b) (equal i) (low i))) in
      let mask = word_same (λ i. alarm_by need (get_or counts i 0) (bit i d)) (λ i. alarm_bit (signal_vote need agreed counts a b i).answer) n
      (λ i l. rw (at_signal n a b i l) (alarm_told (here i) (bit i a) (bit i b) (equal i) (low i))) in
      let second = word_same (λ i. second_by (bit i a) (bit i agreed) (bit i d)) (λ i. second_bit (signal_vote need agreed counts a b i).answer) n
      (λ i l. rw (at_signal n a b i l) (second_told (here i) (bit i a) (bit i b) (bit_small i agreed) (bit_small i a) (bit_small i b) (equal i) (low i) refl)) in
      let left = list_same (λ i. count_by need (get_or counts i 0) (bit i d)) (λ i. (signal_vote need agreed counts a b i).state.count) n
      (λ i l. rw (at_signal n a b i l) (count_told (here i) (bit i a) (bit i b) (equal i) (low i))) in
      rw (word, mask, second, left)

-- so a step's clauses are these, of the voters that look at it
pub same_clauses : (s : Tuple) (a b : ℕ) → clauses s a b ≡ decided s (voters_by (width s) (vote_need s) s.agreed s.counts a (disagreement (width s) a b))
unfolding clauses
same_clauses s a b = ap (decided s) (sym (look (width s) (vote_need s) s.agreed s.counts a b))

-- the voted word, by operations on words
chosen : (d x g : ℕ) → d < 2 → x < 2 → g < 2 → max (min x (1 - d)) (min g d) ≡ bit_by x g d
chosen zero x g l m k = omega (arith, m)
chosen (suc zero) x g l m k = omega (arith, k)
chosen (suc (suc d)) x g l m k = absurd (omega (arith, l))

module _ (n a agreed d : ℕ) (wide : n ≤ 32) (q : outside n a ≡ false) (p : outside n d ≡ false) where
  abbrev by_words : ℕ
  by_words = bit_or (bit_and a ((2 ^ 32 - 1) - d)) (bit_and agreed d)

  words_inside : by_words < 2 ^ n
  words_inside =
      or_lt n (bit_and a ((2 ^ 32 - 1) - d)) (bit_and agreed d)
      (omega (arith, and_le_l a ((2 ^ 32 - 1) - d), inside_lt n a q)) (omega (arith, and_le_r agreed d, inside_lt n d p))

  words_signal : (i : ℕ) → i < n → bit i by_words ≡ bit_by (bit i a) (bit i agreed) (bit i d)
  words_signal i l =
      let narrow : d < 2 ^ 32 = omega (arith, inside_lt n d p, pow_mono wide) in
      rw (or_bit i (bit_and a ((2 ^ 32 - 1) - d)) (bit_and agreed d), and_bit i a ((2 ^ 32 - 1) - d), and_bit i agreed d, not_bit 32 i d (omega (arith, l, wide)) narrow)
      (chosen (bit i d) (bit i a) (bit i agreed) (bit_small i d) (bit_small i a) (bit_small i agreed))

  pub by_bits : by_words ≡ as_word n (λ i. bit_by (bit i a) (bit i agreed) (bit i d))
  by_bits =
      let f : ℕ → ℕ = λ i. bit_by (bit i a) (bit i agreed) (bit i d) in
      let small : (i : ℕ) → f i < 2 = λ i. either_small (eqb (bit i d) 0) (bit_small i a) (bit_small i agreed) in
      words_agree n by_words (as_word n f) words_inside (word_small f small n) (λ i l. words_signal i l ∙ sym (word_bit f small n i l))

-- where the second unit shows the agreed bit, by operations on words
module _ (n a agreed d : ℕ) (p : outside n d ≡ false) where
  abbrev second_by_words : ℕ
  second_by_words = bit_and d (bit_xor a agreed)

  differing : (x y z : ℕ) → z < 2 → (p : Bool) → eqb x y ≡ p → (q : ℕ) → q ≡ unless p → min z q ≡ second_by x y z
  differing x y zero l p e q f = omega arith
  differing x y (suc zero) l true e q f = rw (e, f)
  differing x y (suc zero) l false e q f = rw (e, f)
  differing x y (suc (suc z)) l p e q f = absurd (omega (arith, l))

  second_signal : (i : ℕ) → bit i second_by_words ≡ second_by (bit i a) (bit i agreed) (bit i d)
  second_signal i =
      and_bit i d (bit_xor a agreed)
      ∙ differing (bit i a) (bit i agreed) (bit i d) (bit_small i d) (eqb (bit i a) (bit i agreed)) refl (bit i (bit_xor a agreed)) (xor_signal n a agreed i)

  pub second_by_bits : second_by_words ≡ as_word n (λ i. second_by (bit i a) (bit i agreed) (bit i d))
  second_by_bits =
      let f : ℕ → ℕ = λ i. second_by (bit i a) (bit i agreed) (bit i d) in
      let small : (i : ℕ) → f i < 2 = λ i. either_small (eqb (bit i d) 0) (lit< tt) (either_small (eqb (bit i a) (bit i agreed)) (lit< tt) (lit< tt)) in
      words_agree n second_by_words (as_word n f) (omega (arith, and_le_l d (bit_xor a agreed), inside_lt n d p)) (word_small f small n)
      (λ i l. second_signal i ∙ sym (word_bit f small n i l))
