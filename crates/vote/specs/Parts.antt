-- From `Lent` on it serves proofs only. Before: steps over the first samples of two columns, without resets, how many are
-- taken, and what stands written for them.
use Rattle.std.specs.Prelude.{ℕ, suc, ◌+◌, ◌≡◌, Bool, ◌&&◌, eqb, length, take, drop, set, if◌then◌else◌}
use mathlib.Core.List.{List, [], ◌∷◌, ◌++◌, map, zip}
use Rattle.trace.specs.Answers.{apart_pair}
use Rattle.trace.specs.Trace.{left}
use Rattle.vote.specs.declared.Vote.{Vote}
use Rattle.vote.specs.declared.VotePart.{VotePart}
use Rattle.vote.specs.declared.VoteAnswer.{VoteAnswer}
use Rattle.vote.specs.Answers.{VoteStep, word_of, mark_of, which_of}
use Rattle.vote.specs.Run.{plain, leaves, steps, shown_word, shown_mark, shown_which, unequal}

-- all samples or, with `once`, those up to and with the first alarm
unfoldable pub taken_by : Bool → Vote → List (ℕ × ℕ) → ℕ
taken_by once s [] = 0
taken_by once s (x ∷ xs) = suc (if once && eqb (shown_mark (plain s x)) 2 then 0 else taken_by once (leaves (plain s x)) xs)

-- how many samples are taken, and the state that is left
abbrev pub part : Bool → Vote → List (ℕ × ℕ) → VotePart
part once s xs = record { state = left plain leaves s (take (taken_by once s xs) xs); end = taken_by once s xs }

-- of two columns: nothing where columns or slices differ in length
abbrev pub part_of : Bool → Vote → List ℕ → List ℕ → List ℕ → List ℕ → List ℕ → VotePart
part_of once s a b words marks which =
    if apart_pair a b (unequal a words marks which) then record { state = s; end = 0 } else
    part once s (zip a b)

-- what the steps promise of their answer and of each lent slice: what each step shows on the first places, the others as they came
pub record Parts (once : Bool) (s : Vote) (a b words marks which : List ℕ) (r : VotePart) (words' marks' which' : List ℕ) : Type 0 where
  pub answered : r ≡ part_of once s a b words marks which
  pub words_after : words' ≡ map shown_word (steps s (take r.end (zip a b))) ++ drop r.end words
  pub marks_after : marks' ≡ map shown_mark (steps s (take r.end (zip a b))) ++ drop r.end marks
  pub which_after : which' ≡ map shown_which (steps s (take r.end (zip a b))) ++ drop r.end which

-- the slices that are lent to be written, all in one
pub record Lent : Type 0 where
  pub words : List ℕ
  pub marks : List ℕ
  pub which : List ℕ

abbrev pub lent : List ℕ → List ℕ → List ℕ → Lent
lent words marks which = record { words = words; marks = marks; which = which }

-- what an answer shows, stored at i
abbrev pub stored : Lent → ℕ → VoteAnswer → Lent
stored l i answer = lent (set l.words i (word_of answer)) (set l.marks i (mark_of answer)) (set l.which i (which_of answer))

-- the second column and every slice are as long as the first column
pub record AsLong (a b : List ℕ) (l : Lent) : Type 0 where
  pub second_long : length a ≡ length b
  pub words_long : length a ≡ length l.words
  pub marks_long : length a ≡ length l.marks
  pub which_long : length a ≡ length l.which

-- within a loop, what stands in a slice that came as l₀: what the first `end` steps from the state s₀ show, and the rest as it came
pub record Shown (f : VoteStep → ℕ) (s₀ : Vote) (xs : List (ℕ × ℕ)) (l₀ : List ℕ) (end : ℕ) (l : List ℕ) : Type 0 where
  pub long : length l ≡ length xs
  pub shown : take end l ≡ map f (steps s₀ (take end xs))
  pub rest : drop end l ≡ drop end l₀

-- so every slice
pub record Written (s₀ : Vote) (xs : List (ℕ × ℕ)) (l₀ : Lent) (end : ℕ) (l : Lent) : Type 0 where
  pub in_words : Shown shown_word s₀ xs l₀.words end l.words
  pub in_marks : Shown shown_mark s₀ xs l₀.marks end l.marks
  pub in_which : Shown shown_which s₀ xs l₀.which end l.which

-- the first `end` samples have been taken, and no more are where it is over; the state that they left, and the slices
pub record Taken (once : Bool) (s₀ : Vote) (xs : List (ℕ × ℕ)) (l₀ : Lent) (end : ℕ) (s : Vote) (over : Bool) (l : Lent) : Type 0 where
  pub counted : taken_by once s₀ xs ≡ end + (if over then 0 else taken_by once s (drop end xs))
  pub leaving : left plain leaves s₀ (take end xs) ≡ s
  pub written : Written s₀ xs l₀ end l
