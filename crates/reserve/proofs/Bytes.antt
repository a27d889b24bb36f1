-- T-09, which unit of the pair that was voted on still shows the last agreed word: of every state and sample, of the public step, and at the
-- hand-over; and that "neither" cannot occur for single signals. The byte is the vote's own.
use mathlib.Core.Path.{◌≡◌}
use mathlib.Core.Bool.{true, false, ◌||◌}
use Prim.Native.Nat.{ℕ, ◌-◌}
use native.Mathlib.Omega.{arith}
use lib.Dec.{ltb}
use Rattle.rules.specs.Limits.{bad_count, outside}
use Rattle.rules.specs.Table.{first}
use Rattle.rules.proofs.Readings.{step_0}
use Rattle.rules.proofs.Tables.{or_neither, either_answer, never_zero}
use Rattle.trace.specs.Samples.{outside_four}
use Rattle.vote.specs.Answers.{number_of}
use Rattle.vote.specs.Which.{Says, NotNeither}
use Rattle.vote.specs.Vote.{bad_state}
use Rattle.vote.proofs.Bytes as vote_bytes
use Rattle.reserve.specs.declared.Phase.TheVariants.{TakingOver}
use Rattle.reserve.specs.declared.Reserve.{Reserve}
use Rattle.reserve.specs.declared.ReserveStep.{ReserveStep}
use Rattle.reserve.specs.Reserve.{clauses, rows_of, not_taken, step_of}
use Rattle.reserve.specs.Run.{Sample, stepped, public_step, shown_word, shown_which}
use Rattle.reserve.specs.Voted.{voted_on}
use Rattle.reserve.proofs.Clauses.{either_pair}

-- what a step says of the pair that it voted on
abbrev Tells : ℕ → Sample → ReserveStep → Type 0
Tells word x t = let p = voted_on t.pair x in Says word p.0 p.1 (shown_which t)

module _ (s : Reserve) (x : Sample) where
  -- the byte is of the word agreed before the step, by whichever pair
  pub which_exactly : let t = stepped s x in let p = voted_on t.pair x in Says s.vote.word p.0 p.1 (shown_which t)
  which_exactly =
      either_pair s x (Tells s.vote.word x) (vote_bytes.which_exactly s.vote x.0.0 x.0.1 false) (vote_bytes.which_exactly s.vote x.1.0 x.1.1)

  pub which_shown : let t = stepped s x in let p = voted_on t.pair x in Says (shown_word t) p.0 p.1 (shown_which t)
  which_shown =
      either_pair s x (λ (t : ReserveStep). Tells (shown_word t) x t)
      (vote_bytes.which_shown s.vote x.0.0 x.0.1 false) (vote_bytes.which_shown s.vote x.1.0 x.1.1)

  -- so at the hand-over: units 3 and 4, and the word that the vote has kept
  pub handed_which : s.phase ≡ TakingOver → Says s.vote.word x.1.0 x.1.1 (shown_which (stepped s x))
  unfolding clauses
  handed_which over = rw over (vote_bytes.which_exactly s.vote x.1.0 x.1.1 true)

  -- the public step, where it is taken; a refused one tells of no unit
  pub step_which : let t = public_step s x in number_of t.answer ≡ 0 → let p = voted_on t.pair x in Says s.vote.word p.0 p.1 (shown_which t)
  unfolding step_of
  step_which =
      either_answer (λ (t : ReserveStep). number_of t.answer ≡ 0 → Tells s.vote.word x t) (first (rows_of s x.0.0 x.0.1 x.1.0 x.1.1))
      (not_taken s) (stepped s x) (λ r none. absurd (never_zero r none)) (λ e none. which_exactly)

  -- single signals: of a state and a sample inside the width
  pub inside_single : {n : ℕ} → outside n s.vote.word ≡ false → outside_four n x ≡ false → NotNeither n (shown_which (stepped s x))
  inside_single {n} word_in all_in =
      let units = or_neither (outside n x.0.0 || outside n x.0.1) (outside n x.1.0 || outside n x.1.1) all_in in
      either_pair s x (λ (t : ReserveStep). NotNeither n (shown_which t))
      (vote_bytes.inside_single word_in units.0 (vote_bytes.which_exactly s.vote x.0.0 x.0.1 false))
      (λ reset. vote_bytes.inside_single word_in units.1 (vote_bytes.which_exactly s.vote x.1.0 x.1.1 reset))

pub step_not_neither : (s : Reserve) (a b c d : ℕ) → NotNeither s.vote.n (shown_which (step_of s a b c d))
unfolding step_of
step_not_neither s a b c d =
    let v = s.vote in
    either_answer (λ (t : ReserveStep). NotNeither v.n (shown_which t)) (first (rows_of s a b c d)) (not_taken s) (clauses s a b c d) (λ r one z. omega arith)
    (λ e. let g = (step_0 (bad_count v.need) v.n (outside v.n a || outside v.n b || (outside v.n c || outside v.n d)) (bad_state v)).0 e in
    inside_single s ((a, b), (c, d)) (or_neither (ltb (v.need - 1) v.count) (outside v.n v.word) g.sound).1 g.sample_in)
