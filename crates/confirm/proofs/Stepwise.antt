-- A run equals its steps: what an accepted run writes is what the public constructor and steps show, one after the other.
use mathlib.Core.Path.{◌≡◌, refl, sym, ap, ◌∙◌}
use mathlib.Core.List.{List, map}
use mathlib.Core.Bool.{Bool, true, false, not}
use Prim.Native.Nat.{ℕ, ◌+◌, ◌-◌, ◌≤◌, ◌<◌}
use native.Mathlib.Omega.{arith}
use lib.ListN.{length, get_or}
use lib.Dec.{ltb, eqb}
use borrow.Author.Tests.{le-ltb, ltb-true}
use Rattle.rules.specs.Limits.{bad_count, bad_width, outside}
use Rattle.rules.specs.Table.{first}
use Rattle.rules.proofs.Readings.{Makes, makes, run_makes}
use Rattle.trace.specs.Answers.{done}
use Rattle.trace.proofs.Runs.{answer_done}
use Rattle.trace.proofs.Samples.{nowhere}
use Rattle.trace.proofs.Steps.{agree}
use Rattle.confirm.specs.declared.Confirm.{Confirm}
use Rattle.confirm.specs.Confirm.{fresh, clauses, made, not_made, made_of, step_of}
use Rattle.confirm.specs.Run.{leaves, steps, public_steps, shown_word, shown_mark, shown_count, Ran, Stepwise}
use Rattle.confirm.proofs.Clauses.{by_tests}

-- a state of width n that a step takes
pub record Sound (n : ℕ) (s : Confirm) : Type 0 where
  pub width : s.n ≡ n
  pub counted : bad_count s.need ≡ false
  pub wide : bad_width n ≡ false
  pub small : s.count ≤ s.need - 1
  pub input_in : outside n s.input ≡ false
  pub output_in : outside n s.output ≡ false

-- with a sample inside the width the public step on it is the clauses
pub step_is_clauses : (n : ℕ) (s : Confirm) (x : ℕ) → Sound n s → outside n x ≡ false → step_of s x ≡ clauses s x
unfolding step_of first
step_is_clauses n s x g e = simp (g.width, g.counted, g.wide, e, le-ltb _ _ g.small, g.input_in, g.output_in)

-- and the clauses leave such a state again
pub sound_next : (n : ℕ) (s : Confirm) (x : ℕ) → Sound n s → outside n x ≡ false → Sound n (clauses s x).state
unfolding clauses
sound_next n s x g e = go (not (eqb x s.input)) (ltb s.count (s.need - 1)) refl where
  kept : (output count : ℕ) → outside n output ≡ false → count ≤ s.need - 1 → Sound n (record { n = s.n; need = s.need; input = x; output = output; count = count })
  kept output count o h = record { width = g.width; counted = g.counted; wide = g.wide; small = h; input_in = e; output_in = o }

  go : (p r : Bool) → ltb s.count (s.need - 1) ≡ r → Sound n (by_tests s x p r).state
  go true r q = kept s.output 0 g.output_in (omega arith)
  go false true q = kept s.output (s.count + 1) g.output_in (omega (arith, ltb-true s.count (s.need - 1) q))
  go false false q = kept x s.count e g.small

-- a constructor that refuses nothing makes the fresh state
pub made_fresh : (n need word : ℕ) → Makes (bad_count need) n word → made_of n need word ≡ made n need word
unfolding made_of
made_fresh n need word = makes (bad_count need) n word not_made (made n need word)

-- and it is one that a step takes, so on samples inside the width each public step is the clauses
module _ (n need word : ℕ) (m : Makes (bad_count need) n word) where
  pub fresh_sound : Sound n (fresh n need word)
  fresh_sound = record { width = refl; counted = m.counted; wide = m.wide; small = omega arith; input_in = m.word_in; output_in = m.word_in }

  pub same_steps : (xs : List ℕ) → ((i : ℕ) → i < length xs → outside n (get_or xs i 0) ≡ false) → steps (fresh n need word) xs ≡ public_steps (made_of n need word).state xs
  same_steps xs inside =
      rw (made_fresh n need word m)
      (agree clauses step_of leaves (Sound n) (λ (x : ℕ). outside n x ≡ false) (step_is_clauses n) (sound_next n) 0 (fresh n need word) xs fresh_sound inside)

pub run_is_steps :
    (n need word : ℕ) (samples words marks counts words' marks' counts' : List ℕ)
    → Ran n need word samples words marks counts done words' marks' counts' → Stepwise n need word samples words' marks' counts'
run_is_steps n need word samples words marks counts words' marks' counts' ran =
    let fine = answer_done _ _ _ _ _ outside samples (sym ran.answered) in
    let m = run_makes _ _ _ _ _ _ fine in
    let same = same_steps n need word m samples (nowhere (outside n) samples 0 fine.samples_in) in
    record {
      made = rw (made_fresh n need word m);
      words_same = ran.words_after ∙ ap (map shown_word) same;
      marks_same = ran.marks_after ∙ ap (map shown_mark) same;
      counts_same = ran.counts_after ∙ ap (map shown_count) same;
    }
