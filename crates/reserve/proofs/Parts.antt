-- A run from a primary state is that of units 1 and 2 up to and with the first alarm, and of units 3 and 4 from then on.
use mathlib.Core.Path.{◌≡◌, refl, sym, ap, ◌∙◌}
use mathlib.Core.List.{List, [], ◌∷◌, ◌++◌, map, zip, zip_with, append_assoc, append-nil}
use mathlib.Core.Bool.{Bool, true, false}
use Prim.Native.Nat.{ℕ, suc, ◌+◌, ◌-◌, ◌<◌, ◌≤◌}
use native.Mathlib.Numerals.{add-one}
use native.Mathlib.Omega.{arith}
use lib.Dec.{eqb}
use lib.ListN.{length, get_or, take, drop, set, length-set, drop_of_length-le}
use lib.Seq.{drop-cons, drop-length, take_all, take-suc-set}
use borrow.Author.Rules.{part_to_end}
use borrow.Rule.Slice.PartMut.{put_mid, Post-is}
use Rattle.std.specs.Prelude.{if◌then◌else◌}
use Rattle.trace.specs.Trace.{trace, left}
use Rattle.trace.proofs.Columns.{zip_length, zip_at, zip_drop}
use Rattle.vote.specs.Answers.{word_of, mark_of, which_of}
use Rattle.vote.specs.Parts.{taken_by, Parts, Lent, AsLong, Shown, Taken}
use Rattle.vote.specs.Run as vote_run
use Rattle.vote.specs.Vote as vote
use Rattle.vote.specs.declared.Vote.{Vote}
use Rattle.vote.specs.declared.VoteAnswer.{VoteAnswer}
use Rattle.vote.specs.declared.VotePart.{VotePart}
use Rattle.vote.specs.Answers.{VoteStep}
use Rattle.vote.proofs.Parts.{as_taken}
use Rattle.reserve.specs.declared.Phase.{Phase}
use Rattle.reserve.specs.declared.Phase.TheVariants.{Primary, TakingOver, Reserve as Reserved}
use Rattle.reserve.specs.declared.Reserve.{Reserve}
use Rattle.reserve.specs.declared.ReserveStep.{ReserveStep}
use Rattle.reserve.specs.Parts.{took_over, TookOver, Wrote}
use Rattle.reserve.specs.Reserve.{clauses}
use Rattle.reserve.specs.Run.{steps, samples_of}
use Rattle.reserve.proofs.Clauses.{phase_is}

abbrev state_in : Phase → Vote → Reserve
state_in p v = record { phase = p; vote = v }

-- g is what a slice shows of an answer; us and vs are the samples of the two pairs
module _ (g : VoteAnswer → ℕ) where
  abbrev of_vote : VoteStep → ℕ
  of_vote t = g t.answer

  abbrev of_reserve : ReserveStep → ℕ
  of_reserve t = g t.answer

  in_reserve : (v : Vote) (us vs : List (ℕ × ℕ)) → length us ≡ length vs → map of_reserve (steps (state_in Reserved v) (zip us vs)) ≡ map of_vote (vote_run.steps v vs)
  unfolding trace clauses zip zip_with
  in_reserve v [] [] e = refl
  in_reserve v [] (y ∷ vs) e = absurd (let z : 0 ≡ suc (length vs) = e in omega arith)
  in_reserve v (x ∷ us) [] e = absurd (let z : suc (length us) ≡ 0 = e in omega arith)
  in_reserve v (x ∷ us) (y ∷ vs) e =
      ap (λ (l : List ℕ). g (vote_run.plain v y).answer ∷ l)
      (in_reserve (vote_run.plain v y).state us vs (let z : suc (length us) ≡ suc (length vs) = e in omega arith))

  taking_over : (v : Vote) (us vs : List (ℕ × ℕ)) → length us ≡ length vs → map of_reserve (steps (state_in TakingOver v) (zip us vs)) ≡ map of_vote (took_over v vs)
  unfolding trace clauses zip zip_with took_over
  taking_over v [] [] e = refl
  taking_over v [] (y ∷ vs) e = absurd (let z : 0 ≡ suc (length vs) = e in omega arith)
  taking_over v (x ∷ us) [] e = absurd (let z : suc (length us) ≡ 0 = e in omega arith)
  taking_over v (x ∷ us) (y ∷ vs) e =
      let t = vote.clauses v y.0 y.1 true in
      ap (λ (l : List ℕ). g t.answer ∷ l) (in_reserve t.state us vs (let z : suc (length us) ≡ suc (length vs) = e in omega arith))

  pub in_parts :
      (v : Vote) (us vs : List (ℕ × ℕ)) → length us ≡ length vs → let end = taken_by true v us in
      map of_reserve (steps (state_in Primary v) (zip us vs))
      ≡ map of_vote (vote_run.steps v (take end us)) ++ map of_vote (took_over (left vote_run.plain vote_run.leaves v (take end us)) (drop end vs))
  unfolding trace left clauses zip zip_with taken_by took_over
  in_parts v [] [] e = refl
  in_parts v [] (y ∷ vs) e = absurd (let z : 0 ≡ suc (length vs) = e in omega arith)
  in_parts v (x ∷ us) [] e = absurd (let z : suc (length us) ≡ 0 = e in omega arith)
  in_parts v (x ∷ us) (y ∷ vs) e =
      let t = vote_run.plain v x in
      let rest : length us ≡ length vs = (let z : suc (length us) ≡ suc (length vs) = e in omega arith) in
      rw (phase_is t.answer) (go (eqb (mark_of t.answer) 2) (taking_over t.state us vs rest) (in_parts t.state us vs rest)) where
        first : VoteStep
        first = vote_run.plain v x

        later : ℕ
        later = taken_by true first.state us

        go :
            (alarm : Bool)
            → map of_reserve (steps (state_in TakingOver first.state) (zip us vs)) ≡ map of_vote (took_over first.state vs)
            → map of_reserve (steps (state_in Primary first.state) (zip us vs))
            ≡ map of_vote (vote_run.steps first.state (take later us)) ++ map of_vote (took_over (left vote_run.plain vote_run.leaves first.state (take later us)) (drop later vs))
            → let end = suc (if alarm then 0 else later) in
            g first.answer ∷ map of_reserve (steps (state_in (if alarm then TakingOver else Primary) first.state) (zip us vs))
            ≡ map of_vote (vote_run.steps v (take end (x ∷ us))) ++ map of_vote (took_over (left vote_run.plain vote_run.leaves v (take end (x ∷ us))) (drop end (y ∷ vs)))
        go true over on = ap (λ (l : List ℕ). g first.answer ∷ l) over
        go false over on = ap (λ (l : List ℕ). g first.answer ∷ l) on

-- the steps of `vote::columns::write_steps` on units 1 and 2, and those from the hand-over on, are the run
module _
    (s : Reserve) (primary : s.phase ≡ Primary) (a b c d : List ℕ) (l₀ l : Lent) (long : AsLong a b l₀) (ac : length a ≡ length c) (ad : length a ≡ length d)
    {r : VotePart} (wrote : Parts true s.vote a b l₀.words l₀.marks l₀.which r l.words l.marks l.which) where
  taken : Taken true s.vote (zip a b) l₀ r.end r.state true l
  taken = as_taken true s.vote a b l₀ l long r wrote

  as_long : length (zip a b) ≡ length a
  as_long = zip_length a b long.second_long

  shown :
      (g : VoteAnswer → ℕ)
      → map (of_vote g) (vote_run.steps s.vote (take r.end (zip a b))) ++ map (of_vote g) (took_over r.state (drop r.end (zip c d)))
      ≡ map (of_reserve g) (steps s (samples_of a b c d))
  shown g =
      let alike : length (zip a b) ≡ length (zip c d) = omega (arith, as_long, zip_length c d (omega arith)) in
      let here : taken_by true s.vote (zip a b) ≡ r.end = omega (arith, taken.counted) in
      let start : state_in Primary s.vote ≡ s = ap (λ (q : Phase). state_in q s.vote) (sym primary) in
      sym (rw (start, here, taken.leaving) at (in_parts g s.vote (zip a b) (zip c d) alike))

  in_two :
      (g : VoteAnswer → ℕ) {l₀ l : List ℕ} → Shown (of_vote g) s.vote (zip a b) l₀ r.end l
      → take r.end l ++ map (of_vote g) (took_over r.state (drop r.end (zip c d))) ≡ map (of_reserve g) (steps s (samples_of a b c d))
  in_two g q = rw q.shown (shown g)

  pub in_parts_shown :
      (words' marks' which' : List ℕ) → TookOver r.state r.end c d l.words l.marks l.which words' marks' which' → Wrote s a b c d words' marks' which'
  in_parts_shown words' marks' which' o =
      let w = taken.written in
      record {
        words_after = o.words_after ∙ in_two word_of w.in_words;
        marks_after = o.marks_after ∙ in_two mark_of w.in_marks;
        which_after = o.which_after ∙ in_two which_of w.in_which;
      }

  -- without a hand-over before the end, units 1 and 2 are all
  module _ (all : length a ≤ r.end) where
    in_one : (g : VoteAnswer → ℕ) {l₀ l : List ℕ} → Shown (of_vote g) s.vote (zip a b) l₀ r.end l → l ≡ map (of_reserve g) (steps s (samples_of a b c d))
    unfolding took_over
    in_one g {l₀} {l} q =
        let past : length (zip c d) ≤ r.end = omega (arith, zip_length c d (omega arith)) in
        rw (drop_of_length-le (zip c d) past, take_all r.end l (omega (arith, q.long, as_long)), append-nil) at (in_two g q)

    pub in_one_shown : Wrote s a b c d l.words l.marks l.which
    in_one_shown =
        let w = taken.written in
        record { words_after = in_one word_of w.in_words; marks_after = in_one mark_of w.in_marks; which_after = in_one which_of w.in_which }

-- the rest of a slice is put in the place of all that stands from k on
put_rest : (k : ℕ) (l m : List ℕ) → k ≤ length l → put_mid k (length l - k) l m ≡ take k l ++ m
put_rest k l m h = rw (Post-is k (length l) l h, drop-length, append-nil)

-- the step t on sample `over` is stored, and the steps from there on fill the rest of the slice
module _ (f : VoteStep → ℕ) (s : Vote) (over : ℕ) (c d l : List ℕ) (h : over < length c) (cd : length c ≡ length d) (cl : length c ≡ length l) where
  pub handed_over_lem :
      (t : VoteStep) (v : ℕ) (m : List ℕ) → t ≡ vote.clauses s (get_or c over 0) (get_or d over 0) true → v ≡ f t
      → m ≡ map f (vote_run.steps t.state (zip (take (length c - (over + 1)) (drop (over + 1) c)) (take (length d - (over + 1)) (drop (over + 1) d))))
      → put_mid (over + 1) (length (set l over v) - (over + 1)) (set l over v) m ≡ take over l ++ map f (took_over s (drop over (zip c d)))
  unfolding took_over
  handed_over_lem t v m q w e =
      let first : drop over (zip c d) ≡ (get_or c over 0, get_or d over 0) ∷ zip (drop (suc over) c) (drop (suc over) d) =
      drop-cons (zip c d) over (0, 0) (omega (arith, zip_length c d cd)) ∙ rw (zip_at c d over 0 0 h cd, zip_drop (suc over) c d cd) in
      let rest = rw (part_to_end c (over + 1), part_to_end d (over + 1), add-one) at e in
      put_rest (over + 1) (set l over v) m (omega (arith, length-set l over v))
      ∙ rw (add-one, take-suc-set l over v (omega arith), append_assoc, first, rest, w, q)
