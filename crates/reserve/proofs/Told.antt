-- The pair that a reserve vote's run voted on is told from its marks: an alarm hands over, and nothing hands back.
use mathlib.Core.Path.{◌≡◌, refl, ap}
use mathlib.Core.Bool.{Bool, true, false}
use mathlib.Core.List.{List, [], ◌∷◌, map}
use Prim.Native.Nat.{ℕ}
use lib.Dec.{eqb}
use lib.ListN.{length}
use borrow.Author.Tests.{eq-eqb}
use Rattle.std.specs.Prelude.{if◌then◌else◌}
use Rattle.trace.specs.Trace.{trace}
use Rattle.vote.specs.Answers.{mark_of}
use Rattle.vote.specs.Vote as vote
use Rattle.vote.specs.declared.VoteAnswer.{VoteAnswer}
use Rattle.reserve.specs.Reserve.{fresh, phase_after, in_phase, clauses}
use Rattle.reserve.specs.Run.{Sample, stepped, leaves, steps, shown_mark, shown_pair}
use Rattle.reserve.specs.declared.Phase.{Phase}
use Rattle.reserve.specs.declared.Phase.TheVariants.{Primary, TakingOver, Reserve as Reserved}
use Rattle.reserve.specs.declared.Reserve.{Reserve}
use Rattle.reserve.proofs.Clauses.{phase_is}
use Rattle.reserve.specs.Pairs.{told, told_pair, next_pair, pairs_of, pairs_in}

-- the pair in force
abbrev in_force : Phase → ℕ
in_force Primary = 1
in_force TakingOver = 2
in_force Reserved = 2

handed : (x : VoteAnswer) → in_force (phase_after x) ≡ (if eqb (mark_of x) 2 then 2 else 1)
handed x = rw (phase_is x) (go (eqb (mark_of x) 2)) where
  go : (alarm : Bool) → in_force (if alarm then TakingOver else Primary) ≡ (if alarm then 2 else 1)
  go true = refl
  go false = refl

module _ (s : Reserve) (x : Sample) where
  pair_voted : shown_pair (stepped s x) ≡ in_force s.phase
  unfolding clauses
  pair_voted = go s.phase where
    go : (p : Phase) → shown_pair (in_phase p s.vote x.0.0 x.0.1 x.1.0 x.1.1) ≡ in_force p
    go Primary = refl
    go TakingOver = refl
    go Reserved = refl

  pair_next : in_force (leaves (stepped s x)).phase ≡ next_pair (told (in_force s.phase) (shown_mark (stepped s x)))
  unfolding clauses
  pair_next = go s.phase where
    two : (b : Bool) → ◌≡◌ {A = ℕ} 2 (if b then 2 else 2)
    two true = refl
    two false = refl

    go : (p : Phase) → let t = in_phase p s.vote x.0.0 x.0.1 x.1.0 x.1.1 in in_force (leaves t).phase ≡ next_pair (told (in_force p) (shown_mark t))
    go Primary = handed (vote.clauses s.vote x.0.0 x.0.1 false).answer
    go TakingOver = two (eqb (mark_of (vote.clauses s.vote x.1.0 x.1.1 true).answer) 2)
    go Reserved = two (eqb (mark_of (vote.clauses s.vote x.1.0 x.1.1 false).answer) 2)

told_from : (s : Reserve) (xs : List Sample) → map shown_pair (steps s xs) ≡ map told_pair (trace told next_pair (in_force s.phase) (map shown_mark (steps s xs)))
unfolding trace
told_from s [] = refl
told_from s (x ∷ xs) = rw (pair_voted s x, ← pair_next s x) (ap (λ (l : List ℕ). in_force s.phase ∷ l) (told_from (leaves (stepped s x)) xs))

pub pairs_told : (n need word : ℕ) (xs : List Sample) → map shown_pair (steps (fresh n need word) xs) ≡ pairs_of (map shown_mark (steps (fresh n need word) xs))
pairs_told n need word = told_from (fresh n need word)

-- a slice with a place for each mark is left with the pairs
pub pairs_in_lem : (marks pairs : List ℕ) → length marks ≡ length pairs → pairs_in marks pairs ≡ pairs_of marks
unfolding pairs_in
pairs_in_lem marks pairs e = rw (eq-eqb (length marks) (length pairs) e)
