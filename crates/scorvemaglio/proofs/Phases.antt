-- A reserve state from C: the number of a step is the table's, with a phase that is none of the three as one more reason for 7.
use Prim.Native.Nat.{ℕ}
use mathlib.Core.Path.{◌≡◌, refl, sym, ap, ◌∙◌}
use mathlib.Core.List.{List, [], ◌∷◌}
use mathlib.Core.Logic.{◌↔◌}
use mathlib.Core.Bool.{Bool, true, false, not, ◌&&◌, ◌||◌}
use lib.Dec.{eqb}
use borrow.Author.Tests.{eqb-true, eqb-false, not-false}
use Rattle.rules.specs.Limits.{bad_count, outside}
use Rattle.rules.specs.Table.{Row, first, Given, numbered}
use Rattle.rules.specs.Refusals.{step_rows}
use Rattle.rules.proofs.Tables.{or_neither, exactly}
use Rattle.rules.proofs.OneTest.{one_reason_more, one_test_more, refused_number}
use Rattle.vote.specs.Answers.{mark_of, which_of}
use Rattle.vote.specs.Vote.{bad_state}
use Rattle.reserve.specs.Reserve.{clauses, step_of}
use Rattle.reserve.specs.declared.Reserve.{Reserve}
use Rattle.reserve.proofs.Clauses.{shown_stays}
use Rattle.reserve.proofs.Exactly.{step_number}
use Rattle.reserve.proofs.OneTest.{union, union_outside, admitted, one_test, ways}
use Rattle.scorvemaglio.specs.States.{reserve_of, no_phase}
use Rattle.scorvemaglio.specs.Voters.{reserve_number, reserve_shown, reserve_kept}

-- refused is what has no phase or is not admitted
either : (p q : Bool) → not (p || not q) ≡ q && not p
either true true = refl
either true false = refl
either false true = refl
either false false = refl

module _ (state : List ℕ) (a b c d : ℕ) where
  abbrev s : Reserve
  s = reserve_of state

  abbrev outlying : Bool
  outlying = let n = s.vote.n in outside n a || outside n b || (outside n c || outside n d)

  -- the words of the four units, and the vote's state, as document 01 has it
  abbrev rows : List Row
  rows = step_rows (bad_count s.vote.need) s.vote.n outlying (bad_state s.vote || no_phase state)

  number : reserve_number state (step_of s a b c d) ≡ first rows
  number = rw (step_number s a b c d) (one_reason_more (bad_count s.vote.need) s.vote.n outlying (bad_state s.vote) (no_phase state))

  pub reserve_step_exactly : (k : ℕ) → (reserve_number state (step_of s a b c d) ≡ k) ↔ Given k rows
  unfolding numbered
  reserve_step_exactly k = rw number (exactly rows refl k)

  abbrev pub refused : Bool
  refused = no_phase state || not (admitted s a b c d)

  tested : not refused ≡ eqb (first rows) 0
  tested =
      either (no_phase state) (admitted s a b c d)
      ∙ rw (one_test s a b c d) (one_test_more (bad_count s.vote.need) s.vote.n outlying (bad_state s.vote) (no_phase state))

  pub refused_as :
      refused ≡ true
      → let r = first (step_rows (bad_count s.vote.need) s.vote.n (outside s.vote.n (union a b c d)) true) in
      (r ≡ reserve_number state (step_of s a b c d)) × (r ≡ 0 → ⊥)
  refused_as e =
      let some : eqb (first rows) 0 ≡ false = rw (← tested, e) in
      let same = refused_number (bad_count s.vote.need) s.vote.n outlying (bad_state s.vote || no_phase state) some in
      rw (union_outside s.vote.n a b c d, ← same) (sym number, eqb-false _ _ some)

  pub taken_as : refused ≡ false → (reserve_number state (step_of s a b c d) ≡ 0) × (clauses s a b c d ≡ step_of s a b c d)
  taken_as e = (number ∙ eqb-true _ _ (rw (← tested, e)), (ways s a b c d).0 (not-false _ (or_neither (no_phase state) (not (admitted s a b c d)) e).1))

  -- what the clauses show is the word that they leave in the state
  pub kept_as_shown : reserve_kept (clauses s a b c d) ≡ reserve_shown (clauses s a b c d)
  kept_as_shown =
      let t = clauses s a b c d in
      ap (λ (w : ℕ). w ∷ mark_of t.answer ∷ t.pair ∷ which_of t.answer ∷ []) (sym (shown_stays s ((a, b), (c, d))))
