-- T-09, which unit still shows the last agreed word: what the byte says, of every state and sample and of the public step, and that
-- "neither" cannot occur for single signals.
use mathlib.Core.Path.{◌≡◌, refl, sym, ◌∙◌}
use mathlib.Core.Bool.{Bool, true, false, ◌||◌}
use Prim.Native.Nat.{ℕ, ◌+◌, ◌-◌, ◌<◌}
use native.Mathlib.Omega.{arith}
use lib.Dec.{ltb, eqb}
use borrow.Author.Tests.{eqb-true, eqb-false}
use Rattle.std.specs.Prelude.{if◌then◌else◌}
use Rattle.rules.specs.Limits.{bad_count, outside}
use Rattle.rules.specs.Table.{first}
use Rattle.rules.proofs.Readings.{step_0}
use Rattle.rules.proofs.Tables.{or_neither, either_answer, never_zero}
use Rattle.rules.proofs.Width.{inside_lt}
use Rattle.vote.specs.declared.Vote.{Vote}
use Rattle.vote.specs.Answers.{VoteStep}
use Rattle.vote.specs.declared.Which.TheVariants.{First, Second, Neither}
use Rattle.vote.specs.Answers.{number_of, byte_of}
use Rattle.vote.specs.Run.{shown_word, shown_which}
use Rattle.vote.specs.Vote.{agreed, still, held, alarm, clauses, bad_state, rows_of, not_taken, step_of}
use Rattle.vote.specs.Which.{Says, NotNeither}
use Rattle.vote.proofs.Clauses.{by_tests}

-- two words that differ cannot both be the agreed one: first and second exclude each other
pub exclude : (word a b : ℕ) → (a ≡ b → ⊥) → a ≡ word → b ≡ word → ⊥
exclude word a b apart p q = apart (p ∙ sym q)

-- so it does not matter which unit is asked first
pub either_order : (word a b : ℕ) → (a ≡ b → ⊥) → still word a b ≡ (if eqb b word then Second else if eqb a word then First else Neither)
either_order word a b apart = go (eqb a word) (eqb b word) refl refl where
  go : (p q : Bool) → eqb a word ≡ p → eqb b word ≡ q → (if p then First else if q then Second else Neither) ≡ (if q then Second else if p then First else Neither)
  go true true e f = absurd (exclude word a b apart (eqb-true a word e) (eqb-true b word f))
  go true false e f = refl
  go false q e f = refl

-- where the two agree, and where they differ
says_agreed : (word a b : ℕ) → a ≡ b → Says word a b 0
says_agreed word a b e =
    record {
      agreed = (λ z. e, λ z. refl);
      first = (λ z. absurd (omega arith), λ z. absurd (z.0 e));
      second = (λ z. absurd (omega arith), λ z. absurd (z.0 e));
      neither = (λ z. absurd (omega arith), λ z. absurd (z.0 e));
    }

says_apart : (word a b : ℕ) → (a ≡ b → ⊥) → Says word a b (byte_of (still word a b))
says_apart word a b apart = go (eqb a word) (eqb b word) refl refl where
  go : (p q : Bool) → eqb a word ≡ p → eqb b word ≡ q → Says word a b (byte_of (if p then First else if q then Second else Neither))
  go true q e f =
      let is = eqb-true a word e in
      record {
        agreed = (λ z. absurd (omega arith), λ z. absurd (apart z));
        first = (λ z. (apart, is), λ z. refl);
        second = (λ z. absurd (omega arith), λ z. absurd (exclude word a b apart is z.1));
        neither = (λ z. absurd (omega arith), λ z. absurd (z.1 is));
      }
  go false true e f =
      let is = eqb-true b word f in
      record {
        agreed = (λ z. absurd (omega arith), λ z. absurd (apart z));
        first = (λ z. absurd (omega arith), λ z. absurd (exclude word a b apart z.1 is));
        second = (λ z. (apart, is), λ z. refl);
        neither = (λ z. absurd (omega arith), λ z. absurd (z.2 is));
      }
  go false false e f =
      record {
        agreed = (λ z. absurd (omega arith), λ z. absurd (apart z));
        first = (λ z. absurd (omega arith), λ z. absurd (eqb-false a word e z.1));
        second = (λ z. absurd (omega arith), λ z. absurd (eqb-false b word f z.1));
        neither = (λ z. (apart, eqb-false a word e, eqb-false b word f), λ z. refl);
      }

module _ (s : Vote) (a b : ℕ) (reset : Bool) where
  -- what holds of each clause, where the two agree or differ as it asks, holds of the step
  told : (P : VoteStep → Type 0) → (a ≡ b → P (agreed s a)) → ((a ≡ b → ⊥) → (count : ℕ) → P (held s count (still s.word a b)))
      → ((a ≡ b → ⊥) → P (alarm s (still s.word a b))) → P (clauses s a b reset)
  unfolding clauses
  told P same apart loud = go (eqb a b) reset (ltb s.count (s.need - 1)) refl where
    go : (p q r : Bool) → eqb a b ≡ p → P (by_tests s a b p q r)
    go true q r e = same (eqb-true a b e)
    go false true r e = apart (eqb-false a b e) 0
    go false false true e = apart (eqb-false a b e) (s.count + 1)
    go false false false e = loud (eqb-false a b e)

  -- of every state, sample and reset: the byte is of the word agreed before the step
  pub which_exactly : Says s.word a b (shown_which (clauses s a b reset))
  which_exactly =
      let apart = says_apart s.word a b in
      told (λ (t : VoteStep). Says s.word a b (shown_which t)) (says_agreed s.word a b) (λ n count. apart n) apart

  -- and it can be told from the word that is shown, since on hold and alarm that is the agreed one
  pub which_shown : Says (shown_word (clauses s a b reset)) a b (shown_which (clauses s a b reset))
  which_shown =
      let apart = says_apart s.word a b in
      told (λ (t : VoteStep). Says (shown_word t) a b (shown_which t)) (says_agreed a a b) (λ n count. apart n) apart

-- for single signals one of the two still shows it
single : {word a b byte : ℕ} → word < 2 → a < 2 → b < 2 → Says word a b byte → byte ≡ 3 → ⊥
single l m k says e =
    let n = says.neither.0 e in
    let ab = n.0 in
    let aw = n.1 in
    let bw = n.2 in
    omega arith

-- so of a state and a sample inside the width 1
pub inside_single : {n word a b byte : ℕ} → outside n word ≡ false → outside n a || outside n b ≡ false → Says word a b byte → NotNeither n byte
inside_single {n} {word} {a} {b} word_in in_both says one =
    let below : (w : ℕ) → outside n w ≡ false → w < 2 = λ w o. rw one at (inside_lt n w o) in
    let each = or_neither (outside n a) (outside n b) in_both in
    single (below word word_in) (below a each.0) (below b each.1) says

-- the public step: what it says where it is taken; a refused one tells of no unit
pub step_which : (s : Vote) (a b : ℕ) (reset : Bool) → number_of (step_of s a b reset).answer ≡ 0 → Says s.word a b (shown_which (step_of s a b reset))
unfolding step_of
step_which s a b reset =
    either_answer (λ (t : VoteStep). number_of t.answer ≡ 0 → Says s.word a b (shown_which t)) (first (rows_of s a b)) (not_taken s) (clauses s a b reset)
    (λ r none. absurd (never_zero r none)) (λ e none. which_exactly s a b reset)

pub step_not_neither : (s : Vote) (a b : ℕ) (reset : Bool) → NotNeither s.n (shown_which (step_of s a b reset))
unfolding step_of
step_not_neither s a b reset =
    either_answer (λ (t : VoteStep). NotNeither s.n (shown_which t)) (first (rows_of s a b)) (not_taken s) (clauses s a b reset) (λ r one z. omega arith)
    (λ e. let g = (step_0 (bad_count s.need) s.n (outside s.n a || outside s.n b) (bad_state s)).0 e in
    inside_single (or_neither (ltb (s.need - 1) s.count) (outside s.n s.word) g.sound).1 g.sample_in (which_exactly s a b reset))
