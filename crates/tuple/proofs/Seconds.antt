-- T-09: the word of a step that tells, for each signal, whether the second unit shows the agreed bit. Bit i is what the plain vote of signal i
-- says; it is a one exactly where the signal differs and the second unit shows the agreed bit; there is none at n or above; and where the
-- signal differs and there is none, the first unit shows it.
use mathlib.Core.Path.{◌≡◌, refl, sym}
use mathlib.Core.Logic.Iff
use mathlib.Core.Logic.{◌↔◌, inl, inr}
use mathlib.Core.Bool.{Bool, true, false}
use Prim.Native.Nat.{ℕ, zero, suc, ◌-◌, ◌≤◌, ◌<◌, ◌^◌, min}
use native.Mathlib.Omega.{arith}
use lib.Bits.{bit_and, bit_xor, and_le_l, xor_lt}
use lib.Dec.{eqb}
use lib.Pow.{pow_mono}
use borrow.Author.Tests.{eqb-true, eqb-false}
use Rattle.rules.specs.Bits.{bit}
use Rattle.rules.specs.Limits.{outside}
use Rattle.rules.specs.Table.{first}
use Rattle.rules.proofs.Bits.{and_bit, xor_exactly, not_bit}
use Rattle.rules.proofs.Signals.{bit_small, word_bit}
use Rattle.rules.proofs.Tables.{either_answer, never_zero}
use Rattle.rules.proofs.Width.{inside_lt, lt_inside, zero_inside, words_agree}
use Rattle.vote.specs.Answers.{byte_of, which_of}
use Rattle.vote.specs.Vote as vote
use Rattle.vote.specs.declared.Vote.{Vote}
use Rattle.vote.specs.declared.VoteAnswer.{VoteAnswer}
use Rattle.vote.specs.declared.VoteAnswer.TheVariants.{Agreed, Held, Alarm, Refused}
use Rattle.vote.specs.declared.Which.{Which}
use Rattle.vote.specs.declared.Which.TheVariants.{First, Second, Neither}
use Rattle.vote.proofs.Bytes as vote_bytes
use Rattle.tuple.specs.declared.Tuple.{Tuple}
use Rattle.tuple.specs.declared.TupleStep.{TupleStep}
use Rattle.tuple.specs.Answers.{number_of}
use Rattle.tuple.specs.Second.{signal_of, OneWhereSecond, FirstOrSecond, Tells}
use Rattle.tuple.specs.Tuple.{width, vote_need, voter, if_second, second_bit, voters_of, clauses, rows_of, not_taken, step_of}
use Rattle.tuple.proofs.Clauses.{either_way}
use Rattle.tuple.proofs.Small.{second_small, seconds_small}

-- a one where the vote's byte is 2
if_second_lem : (u : Which) → (if_second u ≡ 1) ↔ (byte_of u ≡ 2)
if_second_lem First = (λ e. absurd (omega arith), λ e. absurd (omega arith))
if_second_lem Second = (λ e. refl, λ e. refl)
if_second_lem Neither = (λ e. absurd (omega arith), λ e. absurd (omega arith))

pub as_byte : (v : VoteAnswer) → (second_bit v ≡ 1) ↔ (which_of v ≡ 2)
as_byte (Agreed w) = (λ e. absurd (omega arith), λ e. absurd (omega arith))
as_byte (Held w u) = if_second_lem u
as_byte (Alarm w u) = if_second_lem u
as_byte (Refused k) = (λ e. absurd (omega arith), λ e. absurd (omega arith))

-- of a vote: exactly where the two differ and the second shows the agreed word
vote_exactly : (s : Vote) (a b : ℕ) → OneWhereSecond s.word (a, b) (second_bit (vote.clauses s a b false).answer)
vote_exactly s a b = Iff.trans (as_byte (vote.clauses s a b false).answer) (vote_bytes.which_exactly s a b false).second

-- and of bits, where they differ and the second does not, the first does
vote_tells : (s : Vote) (a b : ℕ) → s.word < 2 → a < 2 → b < 2 → (a ≡ b → ⊥) → FirstOrSecond s.word (a, b) (second_bit (vote.clauses s a b false).answer)
vote_tells s a b l m k apart = go (eqb b s.word) refl where
  v : VoteAnswer
  v = (vote.clauses s a b false).answer

  go : (p : Bool) → eqb b s.word ≡ p → FirstOrSecond s.word (a, b) (second_bit v)
  go true e = let shows = eqb-true b s.word e in inr (shows, (vote_exactly s a b).1 (apart, shows))
  go false e =
      let other = eqb-false b s.word e in
      let none : second_bit v ≡ 1 → ⊥ = λ q. other ((vote_exactly s a b).0 q).1 in
      inl (omega arith, omega (arith, second_small v))

module _ (s : Tuple) (a b : ℕ) where
  abbrev vote_of_lem : ℕ → VoteAnswer
  vote_of_lem i = (vote.clauses (voter s i) (bit i a) (bit i b) false).answer

  -- the word is the voters', alarm or not
  second_is : (clauses s a b).second ≡ (voters_of s a b).second
  second_is = either_way s a b (λ (t : TupleStep). t.second ≡ (voters_of s a b).second) refl refl

  pub second_bit_lem : (i : ℕ) → i < width s → bit i (clauses s a b).second ≡ second_bit (vote_of_lem i)
  second_bit_lem i l = rw second_is (word_bit (λ k. second_bit (vote_of_lem k)) (λ k. second_small (vote_of_lem k)) (width s) i l)

  pub second_exactly : (i : ℕ) → i < width s → OneWhereSecond (bit i s.agreed) (signal_of i (a, b)) (bit i (clauses s a b).second)
  second_exactly i l = rw (second_bit_lem i l) (vote_exactly (voter s i) (bit i a) (bit i b))

  pub second_inside : outside (width s) (clauses s a b).second ≡ false
  second_inside = rw second_is (lt_inside (width s) (voters_of s a b).second (seconds_small (vote_need s) s.agreed s.counts a b (width s)))

  -- neither cannot occur
  pub tells : (i : ℕ) → i < width s → (bit i a ≡ bit i b → ⊥) → FirstOrSecond (bit i s.agreed) (signal_of i (a, b)) (bit i (clauses s a b).second)
  tells i l apart = rw (second_bit_lem i l) (vote_tells (voter s i) (bit i a) (bit i b) (bit_small i s.agreed) (bit_small i a) (bit_small i b) apart)

  -- the public step
  pub step_tells : Tells s a b (step_of s a b)
  unfolding step_of
  step_tells =
      either_answer (Tells s a b) (first (rows_of s a b)) (not_taken s) (clauses s a b) (λ r none. absurd (never_zero r none)) (λ e none. tells)

  pub step_second :
      number_of (step_of s a b).answer ≡ 0 → (i : ℕ) → i < width s → OneWhereSecond (bit i s.agreed) (signal_of i (a, b)) (bit i (step_of s a b).second)
  unfolding step_of
  step_second =
      either_answer
      (λ (t : TupleStep). number_of t.answer ≡ 0 → (i : ℕ) → i < width s → OneWhereSecond (bit i s.agreed) (signal_of i (a, b)) (bit i t.second))
      (first (rows_of s a b)) (not_taken s) (clauses s a b) (λ r none. absurd (never_zero r none)) (λ e none. second_exactly)

  -- refused or not
  pub step_inside : outside (width s) (step_of s a b).second ≡ false
  unfolding step_of
  step_inside =
      either_answer (λ (t : TupleStep). outside (width s) t.second ≡ false) (first (rows_of s a b)) (not_taken s) (clauses s a b)
      (λ r. zero_inside (width s)) (λ e. second_inside)

-- of words inside the width it is (a XOR b) AND NOT (b XOR agreed)
module _ (s : Tuple) (a b : ℕ) (wide : width s ≤ 32) (a_in : outside (width s) a ≡ false) (b_in : outside (width s) b ≡ false) (agreed_in : outside (width s) s.agreed ≡ false) where
  abbrev by_words : ℕ
  by_words = bit_and (bit_xor a b) ((2 ^ 32 - 1) - bit_xor b s.agreed)

  by_words_small : by_words < 2 ^ width s
  by_words_small = omega (arith, and_le_l (bit_xor a b) ((2 ^ 32 - 1) - bit_xor b s.agreed), xor_lt (width s) a b (inside_lt (width s) a a_in) (inside_lt (width s) b b_in))

  narrow : bit_xor b s.agreed < 2 ^ 32
  narrow = omega (arith, xor_lt (width s) b s.agreed (inside_lt (width s) b b_in) (inside_lt (width s) s.agreed agreed_in), pow_mono wide)

  -- both are bits, and a one in the same case
  by_words_bit : (i : ℕ) → i < width s → bit i by_words ≡ bit i (clauses s a b).second
  by_words_bit i l =
      let differs = xor_exactly i a b in
      let departs = xor_exactly i b s.agreed in
      let exactly = second_exactly s a b i l in
      rw (and_bit i (bit_xor a b) ((2 ^ 32 - 1) - bit_xor b s.agreed), not_bit 32 i (bit_xor b s.agreed) (omega (arith, l, wide)) narrow)
      (same_bit (bit i (bit_xor a b)) (bit i (bit_xor b s.agreed)) (bit i (clauses s a b).second) (bit_small i _) (bit_small i _) (bit_small i _)
      (λ e. let told = exactly.0 e in (differs.1 told.0, λ z. departs.0 z told.1))
      (λ d kept. exactly.1 (differs.0 d, shows (bit i b) (bit i s.agreed) (λ h. kept (departs.1 h)))))
    where
      shows : (x y : ℕ) → ((x ≡ y → ⊥) → ⊥) → x ≡ y
      shows x y h = go (eqb x y) refl where
        go : (p : Bool) → eqb x y ≡ p → x ≡ y
        go true e = eqb-true x y e
        go false e = absurd (h (eqb-false x y e))

      same_bit : (d e z : ℕ) → d < 2 → e < 2 → z < 2 → (z ≡ 1 → (d ≡ 1) × (e ≡ 1 → ⊥)) → (d ≡ 1 → (e ≡ 1 → ⊥) → z ≡ 1) → min d (1 - e) ≡ z
      same_bit zero e z l m k to from = let none : z ≡ 1 → ⊥ = λ q. omega (arith, (to q).0) in omega (arith, k)
      same_bit (suc zero) zero z l m k to from = sym (from refl (λ q. omega arith))
      same_bit (suc zero) (suc zero) z l m k to from = let none : z ≡ 1 → ⊥ = λ q. (to q).1 refl in omega (arith, k)
      same_bit (suc zero) (suc (suc e)) z l m k to from = absurd (omega (arith, m))
      same_bit (suc (suc d)) e z l m k to from = absurd (omega (arith, l))

  pub second_words : (clauses s a b).second ≡ by_words
  second_words = sym (words_agree (width s) by_words (clauses s a b).second by_words_small (inside_lt (width s) _ (second_inside s a b)) by_words_bit)
