-- A run equals its steps: what an accepted run writes is what the public constructor and steps show, one after the other.
use mathlib.Core.Path.{◌≡◌, refl, sym, ap, ◌∙◌}
use mathlib.Core.List.{List, map, zip}
use mathlib.Core.Bool.{false, ◌||◌}
use Prim.Native.Nat.{ℕ, ◌-◌, ◌<◌}
use lib.ListN.{length, get_or}
use borrow.Author.Tests.{ltb-false}
use Rattle.rules.specs.Limits.{bad_count, outside}
use Rattle.rules.specs.Table.{first}
use Rattle.rules.proofs.Readings.{Makes, makes, run_makes}
use Rattle.rules.proofs.Tables.{or_neither, or_each}
use Rattle.trace.specs.Samples.{outside_pair}
use Rattle.trace.specs.Answers.{done}
use Rattle.trace.proofs.Samples.{nowhere}
use Rattle.trace.proofs.Steps.{agree}
use Rattle.tuple.specs.declared.Tuple.{Tuple}
use Rattle.tuple.specs.Tuple.{width, vote_need, bad_counts, bad_state, fresh, clauses, made, not_made, made_of, rows_of, step_of}
use Rattle.tuple.specs.Run.{leaves, stepped, public_step, steps, public_steps, shown_word, shown_mask, shown_mark, shown_second, Ran, Stepwise}
use Rattle.tuple.proofs.Accepted.{fine}
use Rattle.tuple.proofs.Rows.{none_given, taken}
use Rattle.tuple.proofs.Sound.{Sound, not_bad, sound_next, fresh_sound}

-- on a sound state, with words inside the width, the public step is the clauses
pub step_is_clauses : (n : ℕ) (s : Tuple) (a b : ℕ) → Sound n s → outside n a || outside n b ≡ false → step_of s a b ≡ clauses s a b
step_is_clauses n s a b g e =
    let c = g.confirm_sound in
    taken s a b ((none_given s a b).1 (record { counted = rw g.votes_counted c.counted; wide = rw c.width c.wide; sample_in = rw c.width e; sound = not_bad n s g }))

-- a state that a public step takes is sound
module _ (s : Tuple) (a b : ℕ) (none : first (rows_of s a b) ≡ 0) where
  pub sound : Sound (width s) s
  sound =
      let t = (none_given s a b).0 none in
      let c = s.confirm in
      let counts = or_neither (bad_count (vote_need s)) (bad_count c.need) t.counted in
      let p = or_each (or_each (λ e. e) (λ e. e)) (or_each (or_each (ltb-false (c.need - 1) c.count) (λ e. e)) (λ e. e)) t.sound in
      record {
        confirm_sound = record { width = refl; counted = counts.1; wide = t.wide; small = p.1.0.0; input_in = p.1.0.1; output_in = p.1.1 };
        votes_counted = counts.0;
        places = p.0.0;
        agreed_in = p.0.1;
      }

  -- and it leaves one
  pub sound_left : bad_state (step_of s a b).state ≡ false
  sound_left = rw (taken s a b none) (not_bad (width s) (clauses s a b).state (sound_next (width s) s sound a b))

-- a constructor that refuses nothing makes the fresh state
pub made_fresh : (n votes need word : ℕ) → Makes (bad_counts votes need) n word → made_of n votes need word ≡ made n votes need word
unfolding made_of
made_fresh n votes need word = makes (bad_counts votes need) n word not_made (made n votes need word)

-- and it is one that a step takes, so on samples inside the width each public step is the clauses
pub same_steps :
    (n votes need word : ℕ) → Makes (bad_counts votes need) n word → (xs : List (ℕ × ℕ)) → ((i : ℕ) → i < length xs → outside_pair n (get_or xs i (0, 0)) ≡ false)
    → steps (fresh n votes need word) xs ≡ public_steps (made_of n votes need word).state xs
same_steps n votes need word m xs inside =
    rw (made_fresh n votes need word m)
    (agree stepped public_step leaves (Sound n) (λ (x : ℕ × ℕ). outside_pair n x ≡ false)
    (λ s x. step_is_clauses n s x.0 x.1) (λ s x g e. sound_next n s g x.0 x.1) (0, 0) (fresh n votes need word) xs (fresh_sound n votes need word m) inside)

pub run_is_steps :
    (n votes need word : ℕ) (a b words masks marks seconds words' masks' marks' seconds' : List ℕ)
    → Ran n votes need word a b words masks marks seconds done words' masks' marks' seconds' → Stepwise n votes need word a b words' masks' marks' seconds'
run_is_steps n votes need word a b words masks marks seconds words' masks' marks' seconds' ran =
    let f = fine n votes need word a b words masks marks seconds (sym ran.answered) in
    let m = run_makes _ _ _ _ _ _ f in
    let same = same_steps n votes need word m (zip a b) (nowhere (outside_pair n) (zip a b) (0, 0) f.samples_in) in
    record {
      made = rw (made_fresh n votes need word m);
      words_same = ran.words_after ∙ ap (map shown_word) same;
      masks_same = ran.masks_after ∙ ap (map shown_mask) same;
      marks_same = ran.marks_after ∙ ap (map shown_mark) same;
      seconds_same = ran.seconds_after ∙ ap (map shown_second) same;
    }
