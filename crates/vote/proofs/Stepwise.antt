-- A run equals its steps: what an accepted run writes is what the public constructor and steps show, one after the other.
use mathlib.Core.Path.{◌≡◌, refl, sym, ap, ◌∙◌}
use mathlib.Core.List.{List, map, zip}
use mathlib.Core.Bool.{Bool, true, false, ◌||◌}
use Prim.Native.Nat.{ℕ, ◌+◌, ◌-◌, ◌≤◌, ◌<◌}
use native.Mathlib.Omega.{arith}
use lib.Dec.{ltb, eqb}
use lib.ListN.{length, get_or}
use borrow.Author.Tests.{le-ltb, ltb-true}
use Rattle.rules.specs.Limits.{bad_count, bad_width, outside}
use Rattle.rules.specs.Table.{first}
use Rattle.rules.proofs.Readings.{Makes, makes, run_makes}
use Rattle.rules.proofs.Tables.{or_neither}
use Rattle.trace.specs.Answers.{done}
use Rattle.trace.specs.Samples.{outside_pair}
use Rattle.trace.proofs.Runs.{answer_done}
use Rattle.trace.proofs.Samples.{nowhere}
use Rattle.trace.proofs.Steps.{agree}
use Rattle.vote.specs.declared.Vote.{Vote}
use Rattle.vote.specs.Vote.{fresh, clauses, made, not_made, made_of, step_of}
use Rattle.vote.specs.Run.{leaves, plain, public_plain, steps, public_steps, shown_word, shown_mark, shown_which, Ran, Stepwise}
use Rattle.vote.proofs.Clauses.{by_tests}

-- a state of width n that a step takes
pub record Sound (n : ℕ) (s : Vote) : Type 0 where
  pub width : s.n ≡ n
  pub counted : bad_count s.need ≡ false
  pub wide : bad_width n ≡ false
  pub small : s.count ≤ s.need - 1
  pub word_in : outside n s.word ≡ false

-- with words inside the width the public step on it is the clauses
pub step_is_clauses : (n : ℕ) (s : Vote) (a b : ℕ) (reset : Bool) → Sound n s → outside n a || outside n b ≡ false → step_of s a b reset ≡ clauses s a b reset
unfolding step_of first
step_is_clauses n s a b reset g e = simp (g.width, g.counted, g.wide, e, le-ltb _ _ g.small, g.word_in)

-- and the clauses leave such a state again
pub sound_next : (n : ℕ) (s : Vote) (a b : ℕ) (reset : Bool) → Sound n s → outside n a || outside n b ≡ false → Sound n (clauses s a b reset).state
unfolding clauses
sound_next n s a b reset g e = go (eqb a b) reset (ltb s.count (s.need - 1)) refl where
  kept : (word count : ℕ) → outside n word ≡ false → count ≤ s.need - 1 → Sound n (record { n = s.n; need = s.need; word = word; count = count })
  kept word count o h = record { width = g.width; counted = g.counted; wide = g.wide; small = h; word_in = o }

  go : (p q r : Bool) → ltb s.count (s.need - 1) ≡ r → Sound n (by_tests s a b p q r).state
  go true q r h = kept a 0 (or_neither (outside n a) (outside n b) e).0 (omega arith)
  go false true r h = kept s.word 0 g.word_in (omega arith)
  go false false true h = kept s.word (s.count + 1) g.word_in (omega (arith, ltb-true s.count (s.need - 1) h))
  go false false false h = g

-- a constructor that refuses nothing makes the fresh state
pub made_fresh : (n need word : ℕ) → Makes (bad_count need) n word → made_of n need word ≡ made n need word
unfolding made_of
made_fresh n need word = makes (bad_count need) n word not_made (made n need word)

-- and it is one that a step takes, so on samples inside the width each public step is the clauses
module _ (n need word : ℕ) (m : Makes (bad_count need) n word) where
  pub fresh_sound : Sound n (fresh n need word)
  fresh_sound = record { width = refl; counted = m.counted; wide = m.wide; small = omega arith; word_in = m.word_in }

  same_steps :
      (xs : List (ℕ × ℕ)) → ((i : ℕ) → i < length xs → outside_pair n (get_or xs i (0, 0)) ≡ false)
      → steps (fresh n need word) xs ≡ public_steps (made_of n need word).state xs
  same_steps xs inside =
      rw (made_fresh n need word m)
      (agree plain public_plain leaves (Sound n) (λ (x : ℕ × ℕ). outside_pair n x ≡ false)
      (λ s x. step_is_clauses n s x.0 x.1 false) (λ s x. sound_next n s x.0 x.1 false) (0, 0) (fresh n need word) xs fresh_sound inside)

pub run_is_steps :
    (n need word : ℕ) (a b words marks which words' marks' which' : List ℕ)
    → Ran n need word a b words marks which done words' marks' which' → Stepwise n need word a b words' marks' which'
run_is_steps n need word a b words marks which words' marks' which' ran =
    let fine = answer_done _ _ _ _ _ outside_pair (zip a b) (sym ran.answered) in
    let m = run_makes _ _ _ _ _ _ fine in
    let same = same_steps n need word m (zip a b) (nowhere (outside_pair n) (zip a b) (0, 0) fine.samples_in) in
    record {
      made = rw (made_fresh n need word m);
      words_same = ran.words_after ∙ ap (map shown_word) same;
      marks_same = ran.marks_after ∙ ap (map shown_mark) same;
      which_same = ran.which_after ∙ ap (map shown_which) same;
    }
