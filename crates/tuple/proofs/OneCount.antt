-- T-02 and T-09: with equal counts, and T-09's word left out, the tuple vote is the one that it was before them, with one count: its
-- constructors, its steps and its runs.
use mathlib.Core.Path.{◌≡◌, refl, sym, ap, subst}
use mathlib.Core.List.{List, map, zip}
use mathlib.Core.Bool.{Bool, true, false, not, ◌||◌, or-false}
use Prim.Native.Nat.{ℕ}
use lib.Dec.{eqb}
use lib.ListN.{length}
use borrow.Author.Tests.{eq-eqb}
use Rattle.std.specs.Prelude.{if◌then◌else◌}
use Rattle.rules.specs.Limits.{bad_count}
use Rattle.rules.specs.declared.refusal.Refusal.{Refusal}
use Rattle.rules.specs.Refusal.{refusal_of}
use Rattle.rules.specs.Table.{first, answer}
use Rattle.rules.specs.Refusals.{make_rows}
use Rattle.trace.proofs.Steps.{follows_at}
use Rattle.confirm.specs.Confirm as confirm
use Rattle.confirm.proofs.Clauses.{same_sizes as confirm_sizes}
use Rattle.tuple.specs.declared.Tuple.{Tuple}
use Rattle.tuple.specs.declared.TupleAnswer.{TupleAnswer}
use Rattle.tuple.specs.declared.TupleStep.{TupleStep}
use Rattle.tuple.specs.declared.Voters.{Voters}
use Rattle.tuple.specs.Answers.{word_of, mask_of, mark_of}
use Rattle.tuple.specs.OneCount as one
use Rattle.tuple.specs.OneCount.{OneCount, OneStep, once, twice, twice_made, AsBefore, column}
use Rattle.tuple.specs.Run.{leaves, stepped, steps}
use Rattle.tuple.specs.Tuple.{bad_counts, clauses, made_of, not_taken, step_of}
use Rattle.tuple.proofs.Clauses.{by_test}
use Rattle.tuple.proofs.Unique.{ran}

-- two equal counts are refused as one is
pub same_count : (need : ℕ) → bad_counts need need ≡ bad_count need
same_count need = go (bad_count need) where
  go : (p : Bool) → p || p ≡ p
  go true = refl
  go false = refl

-- an answer told in other words: refused or not
retold : {A B : Type 0} (f : A → B) (number : ℕ) (refuse : Refusal → A) (work : A) → answer number (λ r. f (refuse r)) (f work) ≡ f (answer number refuse work)
retold {A} {B} f number refuse work = go (eqb number 0) where
  go : (p : Bool) → ◌≡◌ {A = B} (if p then f work else f (refuse (refusal_of number))) (f (if p then work else refuse (refusal_of number)))
  go true = refl
  go false = refl

pub same_made : (n need word : ℕ) → made_of n need need word ≡ twice_made (one.made_of n need word)
unfolding made_of one.made_of
same_made n need word = rw (same_count need) (retold twice_made (first (make_rows (bad_count need) n word)) one.not_made (one.made n need word))

module _ (s : OneCount) (a b : ℕ) where
  abbrev v : Voters
  v = one.voters_of s a b

  same_clauses : AsBefore (clauses (twice s) a b) (one.clauses s a b)
  unfolding clauses one.clauses
  same_clauses = go (not (eqb v.mask 0)) where
    go : (p : Bool) → AsBefore (by_test (twice s) v p) (if p then one.alarm s v else one.confirms s v (confirm.clauses s.confirm v.word))
    go true = record { state = refl; answer = refl }
    go false = record { state = rw (confirm_sizes s.confirm v.word).1; answer = refl }

  of_twice : AsBefore (step_of (twice s) a b) (one.step_of s a b)
  unfolding step_of one.step_of
  of_twice = rw (same_count s.confirm.need) (go (eqb (first (one.rows_of s a b)) 0)) where
    refusal : Refusal
    refusal = refusal_of (first (one.rows_of s a b))

    go : (p : Bool) → AsBefore (if p then clauses (twice s) a b else not_taken (twice s) refusal) (if p then one.clauses s a b else one.not_taken s refusal)
    go true = same_clauses
    go false = record { state = refl; answer = refl }

pub same_step : (s : Tuple) (a b : ℕ) → s.votes ≡ s.confirm.need → AsBefore (step_of s a b) (one.step_of (once s) a b)
same_step s a b equal =
    subst (λ (votes : ℕ). AsBefore (step_of (record { votes = votes; confirm = s.confirm; agreed = s.agreed; counts = s.counts }) a b) (one.step_of (once s) a b))
    (sym equal) (of_twice (once s) a b)

-- what a run shows, sample by sample
pub same_column :
    (shown : TupleAnswer → ℕ) (s : OneCount) (xs : List (ℕ × ℕ))
    → map (λ (t : TupleStep). shown t.answer) (steps (twice s) xs) ≡ column shown s xs
same_column shown s xs =
    follows_at stepped leaves one.stepped one.leaves (λ (t : TupleStep). shown t.answer) (λ (t : OneStep). shown t.answer) (0, 0) (0, 0)
    (λ k (t : Tuple) (s : OneCount). t ≡ twice s) xs xs refl (λ k t s l e. let same = same_clauses s _ _ in rw e (same.state, ap shown same.answer)) (twice s) s refl

-- a run with N for both counts; by `run_unique`, what meets the contract of `tuple::run`. Where the slice of T-09 is as long as the first
-- column, its answer and the other slices are what they were
pub same_run :
    (n need word : ℕ) (a b words masks marks seconds : List ℕ) → length a ≡ length seconds → let now = ran n need need word a b words masks marks seconds in
    (now.0, now.1, now.2, now.3) ≡ one.ran n need word a b words masks marks
same_run n need word a b words masks marks seconds long =
    let start = one.fresh n need word in
    let xs = zip a b in
    rw (same_count need, same_column word_of start xs, same_column mask_of start xs, same_column mark_of start xs, eq-eqb _ _ long, or-false)
