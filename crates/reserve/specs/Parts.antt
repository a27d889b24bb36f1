-- Serves proofs, and the statement of `in_parts`: the steps from a hand-over on, by units 3 and 4 alone, one with a
-- reset, and from then on none.
use Rattle.std.specs.Prelude.{ℕ, ◌≡◌, true, take, drop}
use mathlib.Core.List.{List, [], ◌∷◌, ◌++◌, map, zip}
use Rattle.vote.specs.declared.Vote.{Vote}
use Rattle.vote.specs.Answers.{VoteStep}
use Rattle.vote.specs.Run as vote_run
use Rattle.vote.specs.Vote.{clauses}
use Rattle.reserve.specs.declared.Reserve.{Reserve}
use Rattle.reserve.specs.Run.{steps, shown_word, shown_mark, shown_which, samples_of}

unfoldable pub took_over : Vote → List (ℕ × ℕ) → List VoteStep
took_over s [] = []
took_over s (x ∷ xs) = clauses s x.0 x.1 true ∷ vote_run.steps (clauses s x.0 x.1 true).state xs

-- what they leave in each slice, from sample `over` on
pub record TookOver (s : Vote) (over : ℕ) (c d words marks which words' marks' which' : List ℕ) : Type 0 where
  pub words_after : words' ≡ take over words ++ map vote_run.shown_word (took_over s (drop over (zip c d)))
  pub marks_after : marks' ≡ take over marks ++ map vote_run.shown_mark (took_over s (drop over (zip c d)))
  pub which_after : which' ≡ take over which ++ map vote_run.shown_which (took_over s (drop over (zip c d)))

-- and what all steps leave
pub record Wrote (s : Reserve) (a b c d words' marks' which' : List ℕ) : Type 0 where
  pub words_after : words' ≡ map shown_word (steps s (samples_of a b c d))
  pub marks_after : marks' ≡ map shown_mark (steps s (samples_of a b c d))
  pub which_after : which' ≡ map shown_which (steps s (samples_of a b c d))
