-- T-09, of a run: the byte at each sample, by the samples alone; told by hand from the word that is written and the two columns; and that
-- a run of width 1 never writes "neither".
use mathlib.Core.Path.{◌≡◌, refl, sym, ap, ◌∙◌}
use mathlib.Core.List.{List, [], ◌∷◌, map, zip}
use mathlib.Core.Bool.{Bool, true, false}
use Prim.Native.Nat.{ℕ, zero, suc, ◌-◌, ◌<◌}
use native.Mathlib.Omega.{arith}
use lib.Dec.{ltb}
use lib.ListN.{length, get_or, take}
use Rattle.std.specs.Prelude.{if◌then◌else◌}
use Rattle.rules.proofs.Ranges.{same}
use Rattle.rules.proofs.Readings.{run_makes}
use Rattle.rules.proofs.Tables.{or_neither}
use Rattle.trace.specs.Answers.{after}
use Rattle.trace.specs.Samples.{outside_pair}
use Rattle.trace.specs.Trace.{left}
use Rattle.trace.specs.Answers.{RunResult}
use Rattle.trace.specs.Answers.{done}
use Rattle.trace.proofs.Columns.{zip_length, zip_at}
use Rattle.trace.proofs.Runs.{answer_done}
use Rattle.trace.proofs.Samples.{nowhere}
use Rattle.trace.proofs.Steps.{shown_at, column_shows}
use Rattle.vote.specs.declared.Vote.{Vote}
use Rattle.vote.specs.Alarms.{equal}
use Rattle.vote.specs.Run.{plain, leaves, steps, shown_word, shown_mark, shown_which, answer_of, Ran}
use Rattle.vote.specs.Vote.{fresh, clauses}
use Rattle.vote.specs.Which.{Says, NotNeither, last_agreed}
use Rattle.vote.proofs.Bytes.{which_exactly, which_shown, inside_single}
use Rattle.vote.proofs.Clauses.{by_tests}
use Rattle.vote.proofs.Stepwise.{Sound, sound_next, fresh_sound}

-- a step keeps the word that is agreed then, and so samples leave the last agreed word of the samples
pub word_kept : (s : Vote) (x : ℕ × ℕ) (reset : Bool) → (clauses s x.0 x.1 reset).state.word ≡ (if equal x then x.0 else s.word)
unfolding clauses
word_kept s x reset = go (equal x) reset (ltb s.count (s.need - 1)) where
  go : (p q r : Bool) → (by_tests s x.0 x.1 p q r).state.word ≡ (if p then x.0 else s.word)
  go true q r = refl
  go false true r = refl
  go false false true = refl
  go false false false = refl

pub left_agreed : (s : Vote) (xs : List (ℕ × ℕ)) → (left plain leaves s xs).word ≡ last_agreed s.word xs
unfolding left last_agreed
left_agreed s [] = refl
left_agreed s (x ∷ xs) = left_agreed (leaves (plain s x)) xs ∙ ap (λ (w : ℕ). last_agreed w xs) (word_kept s x false)

-- which word that is: of the last sample that agreed, and the initial word if none did
pub never_agreed : (word : ℕ) (xs : List (ℕ × ℕ)) → ((k : ℕ) → k < length xs → equal (get_or xs k (0, 0)) ≡ false) → last_agreed word xs ≡ word
unfolding last_agreed
never_agreed word [] none = refl
never_agreed word (x ∷ xs) none = rw (none 0 (omega arith)) (never_agreed word xs (λ k l. none (suc k) (omega arith)))

pub agreed_at :
    (word : ℕ) (xs : List (ℕ × ℕ)) (j : ℕ) → j < length xs → equal (get_or xs j (0, 0)) ≡ true
    → ((k : ℕ) → j < k → k < length xs → equal (get_or xs k (0, 0)) ≡ false) → last_agreed word xs ≡ (get_or xs j (0, 0)).0
unfolding last_agreed
agreed_at word [] j l e none = absurd (omega arith)
agreed_at word (x ∷ xs) zero l e none = rw e (never_agreed x.0 xs (λ k m. none (suc k) (omega arith) (omega arith)))
agreed_at word (x ∷ xs) (suc j) l e none = agreed_at (if equal x then x.0 else word) xs j (omega arith) e (λ k m o. none (suc k) (omega arith) (omega arith))

-- a run: the byte at sample k is of the word that the samples before it agreed on last
pub steps_which :
    (s : Vote) (xs : List (ℕ × ℕ)) (k : ℕ) → k < length xs → let x = get_or xs k (0, 0) in
    Says (last_agreed s.word (take k xs)) x.0 x.1 (get_or (map shown_which (steps s xs)) k 0)
steps_which s xs k l =
    rw (shown_at plain leaves (0, 0) shown_which 0 s xs k l, ← left_agreed s (take k xs)) (which_exactly (left plain leaves s (take k xs)) _ _ false)

steps_by_hand :
    (s : Vote) (xs : List (ℕ × ℕ)) (k : ℕ) → k < length xs → let x = get_or xs k (0, 0) in let ts = steps s xs in
    Says (get_or (map shown_word ts) k 0) x.0 x.1 (get_or (map shown_which ts) k 0)
steps_by_hand s xs k l =
    rw (shown_at plain leaves (0, 0) shown_word 0 s xs k l, shown_at plain leaves (0, 0) shown_which 0 s xs k l) (which_shown (left plain leaves s (take k xs)) _ _ false)

-- neither is never written by a run of width 1
steps_not_neither :
    (n : ℕ) (s : Vote) (xs : List (ℕ × ℕ)) → Sound n s → ((k : ℕ) → k < length xs → outside_pair n (get_or xs k (0, 0)) ≡ false)
    → (i : ℕ) → i < length (map shown_which (steps s xs)) → NotNeither n (get_or (map shown_which (steps s xs)) i 0)
steps_not_neither n =
    column_shows plain leaves (Sound n) (λ (x : ℕ × ℕ). outside_pair n x ≡ false) (λ s x. sound_next n s x.0 x.1 false) (0, 0) shown_which (NotNeither n)
    (λ s x g o. inside_single g.word_in o (which_exactly s x.0 x.1 false))

-- so a run's answer and slices are all that its promise asks for
pub promised :
    {n need word : ℕ} {a b words marks which : List ℕ} {r : RunResult} {words' marks' which' : List ℕ}
    → let taken = steps (fresh n need word) (zip a b) in
    r ≡ answer_of n need word a b words marks which → words' ≡ after r words (map shown_word taken) → marks' ≡ after r marks (map shown_mark taken)
    → which' ≡ after r which (map shown_which taken) → Ran n need word a b words marks which r words' marks' which'
promised {n} {need} {word} {a} {b} is in_words_lem in_marks in_which =
    record {
      answered = is;
      words_after = in_words_lem;
      marks_after = in_marks;
      which_after = in_which;
      not_neither = λ done.
          let fine = answer_done _ _ _ _ _ outside_pair (zip a b) (sym is ∙ done) in
          let start = fresh_sound n need word (run_makes _ _ _ _ _ _ fine) in
          rw (in_which, done) (steps_not_neither n (fresh n need word) (zip a b) start (nowhere (outside_pair n) (zip a b) (0, 0) fine.samples_in));
    }

-- what a run says, by its contract: at each sample by the samples before it, and by hand, from the word that stands written beside it
module _
    (n need word : ℕ) (a b words marks which words' marks' which' : List ℕ) (ran : Ran n need word a b words marks which done words' marks' which') where
  long : length a ≡ length b
  long = same _ _ (or_neither _ _ (answer_done _ _ _ _ _ outside_pair (zip a b) (sym ran.answered)).alike).0

  pub run_which : (k : ℕ) → k < length a → Says (last_agreed word (take k (zip a b))) (get_or a k 0) (get_or b k 0) (get_or which' k 0)
  run_which k l =
      let at = steps_which (fresh n need word) (zip a b) k (omega (arith, zip_length a b long)) in
      rw ran.which_after (rw (zip_at a b k 0 0 l long) at at)

  pub run_by_hand : (k : ℕ) → k < length a → Says (get_or words' k 0) (get_or a k 0) (get_or b k 0) (get_or which' k 0)
  run_by_hand k l =
      let at = steps_by_hand (fresh n need word) (zip a b) k (omega (arith, zip_length a b long)) in
      rw (ran.words_after, ran.which_after) (rw (zip_at a b k 0 0 l long) at at)
