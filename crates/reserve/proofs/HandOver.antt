-- The hand-over: Primary, TakingOver for one step, Reserve for ever; no alarm at the step of hand-over; and from then on, what
-- units 1 and 2 show influences no answer and no state. The phases are those that the clauses leave; a refused step leaves its
-- state as it came.
use mathlib.Core.Path.{◌≡◌, refl, sym, ap, ◌∙◌}
use mathlib.Core.Logic.{◌↔◌}
use mathlib.Core.List.{List, ◌++◌}
use mathlib.Core.Bool.{Bool, true, false, false≢true}
use Prim.Native.Nat.{ℕ}
use native.Mathlib.Omega.{arith}
use lib.Dec.{eqb}
use borrow.Author.Tests.{eq-eqb, eqb-true}
use Rattle.std.specs.Prelude.{if◌then◌else◌}
use Rattle.rules.specs.Refusal.{refusal_of}
use Rattle.rules.specs.Table.{first}
use Rattle.trace.proofs.Steps.{alike, trace_append}
use Rattle.vote.specs.Answers.{mark_of}
use Rattle.vote.specs.Vote as vote
use Rattle.vote.specs.declared.VoteAnswer.{VoteAnswer}
use Rattle.vote.proofs.Clauses.{reset_silent, same_sizes as vote_sizes}
use Rattle.reserve.specs.HandOver.{handed_over, Alike, AllAlike}
use Rattle.reserve.specs.declared.Phase.{Phase}
use Rattle.reserve.specs.declared.Phase.TheVariants.{Primary, TakingOver, Reserve as Reserved}
use Rattle.reserve.specs.declared.Reserve.{Reserve}
use Rattle.reserve.specs.declared.ReserveStep.{ReserveStep}
use Rattle.reserve.specs.Reserve.{phase_after, in_phase, clauses, not_taken, step_of, rows_of}
use Rattle.reserve.proofs.Clauses.{phase_is, either_pair}
use Rattle.reserve.specs.Run.{leaves, Sample, stepped, public_step, steps, public_steps, left_by, left_by_public, shown_mark}

-- the three phases in their order
abbrev place : Phase → ℕ
place Primary = 0
place TakingOver = 1
place Reserved = 2

over_on_alarm : (v : VoteAnswer) → (phase_after v ≡ TakingOver) ↔ (mark_of v ≡ 2)
over_on_alarm v = rw (phase_is v) (go (eqb (mark_of v) 2) refl) where
  go : (alarm : Bool) → eqb (mark_of v) 2 ≡ alarm → ((if alarm then TakingOver else Primary) ≡ TakingOver) ↔ (mark_of v ≡ 2)
  go true q = (λ e. eqb-true _ _ q, λ e. refl)
  go false q = (λ e. omega (arith, ap place e), λ e. absurd (false≢true (sym q ∙ eq-eqb _ _ e)))

primary_or_over : (v : VoteAnswer) → phase_after v ≡ Reserved → ⊥
primary_or_over v = rw (phase_is v) (go (eqb (mark_of v) 2)) where
  go : (alarm : Bool) → (if alarm then TakingOver else Primary) ≡ Reserved → ⊥
  go true e = omega (arith, ap place e)
  go false e = omega (arith, ap place e)

module _ (s : Reserve) (x : Sample) where
  -- from Primary the next phase is TakingOver exactly on an alarm, and Reserve never
  pub over_exactly : s.phase ≡ Primary → ((stepped s x).state.phase ≡ TakingOver) ↔ (shown_mark (stepped s x) ≡ 2)
  unfolding clauses
  over_exactly p = rw p (over_on_alarm (vote.clauses s.vote x.0.0 x.0.1 false).answer)

  pub not_at_once : s.phase ≡ Primary → (stepped s x).state.phase ≡ Reserved → ⊥
  unfolding clauses
  not_at_once p = rw p (primary_or_over (vote.clauses s.vote x.0.0 x.0.1 false).answer)

  -- TakingOver lasts one step, and Reserve stays
  pub then_reserve : handed_over s.phase ≡ true → (stepped s x).state.phase ≡ Reserved
  unfolding clauses
  then_reserve = go s.phase where
    go : (p : Phase) → handed_over p ≡ true → (in_phase p s.vote x.0.0 x.0.1 x.1.0 x.1.1).state.phase ≡ Reserved
    go Primary h = absurd (false≢true h)
    go TakingOver h = refl
    go Reserved h = refl

  pub hand_over_silent : s.phase ≡ TakingOver → shown_mark (stepped s x) ≡ 2 → ⊥
  unfolding clauses
  hand_over_silent p = rw p (reset_silent s.vote x.1.0 x.1.1)

-- from a hand-over on, the clauses do not look at units 1 and 2
pub unseen : (s : Reserve) (x y : Sample) → handed_over s.phase ≡ true → x.1 ≡ y.1 → stepped s y ≡ stepped s x
unfolding clauses
unseen s x y h e = go s.phase h where
  go :
      (p : Phase) → handed_over p ≡ true
      → in_phase p s.vote y.0.0 y.0.1 y.1.0 y.1.1 ≡ in_phase p s.vote x.0.0 x.0.1 x.1.0 x.1.1
  go Primary h = absurd (false≢true h)
  go TakingOver h = rw e refl
  go Reserved h = rw e refl

-- nor does the public step, where their words are inside the width
unseen_step : (s : Reserve) (x y : Sample) → handed_over s.phase ≡ true → Alike s.vote.n x y → public_step s y ≡ public_step s x
unfolding step_of
unseen_step s x y h a = simp (unseen s x y h a.reserve, a.inside, a.inside_too, a.reserve)

same_width : (s : Reserve) (x : Sample) → (stepped s x).state.vote.n ≡ s.vote.n
same_width s x =
    either_pair s x (λ (t : ReserveStep). t.state.vote.n ≡ s.vote.n)
    (vote_sizes s.vote x.0.0 x.0.1 false).0 (λ reset. (vote_sizes s.vote x.1.0 x.1.1 reset).0)

-- a state after a hand-over
record After (n : ℕ) (s : Reserve) : Type 0 where
  width : s.vote.n ≡ n
  over : handed_over s.phase ≡ true

-- a public step leaves such a state again, refused ones too
stays_over : (n : ℕ) (s : Reserve) (x : Sample) → After n s → After n (leaves (public_step s x))
unfolding step_of
stays_over n s x g = go (eqb (first (rows_of s x.0.0 x.0.1 x.1.0 x.1.1)) 0) where
  go : (b : Bool) → After n (if b then stepped s x else not_taken s (refusal_of (first (rows_of s x.0.0 x.0.1 x.1.0 x.1.1)))).state
  go true = record { width = same_width s x ∙ g.width; over = ap handed_over (then_reserve s x g.over) }
  go false = g

-- traces of any length from such a state, by the clauses and by the public steps: every answer and every state
module _ (s : Reserve) (xs ys : List Sample) (h : handed_over s.phase ≡ true) (a : AllAlike s.vote.n xs ys) where
  pub unseen_steps : steps s xs ≡ steps s ys
  unseen_steps =
      alike stepped stepped leaves (λ (s : Reserve). handed_over s.phase ≡ true) (Alike s.vote.n)
      (λ t x y g l. unseen t x y g l.reserve) (λ t x y g l. ap handed_over (then_reserve t x g))
      ((0, 0), (0, 0)) s xs ys h a.lengths a.each

  pub unseen_public_steps : public_steps s xs ≡ public_steps s ys
  unseen_public_steps =
      alike public_step public_step leaves (After s.vote.n) (Alike s.vote.n)
      (λ t x y g l. unseen_step t x y g.over (rw g.width l)) (λ t x y g l. stays_over s.vote.n t x g)
      ((0, 0), (0, 0)) s xs ys (record { width = refl; over = h }) a.lengths a.each

-- and so runs of any length from any state: what was seen before the hand-over is the same, what units 1 and 2 show after it is not
module _ (s : Reserve) (before xs ys : List Sample) where
  pub unseen_run :
      handed_over (left_by s before).phase ≡ true → AllAlike (left_by s before).vote.n xs ys
      → steps s (before ++ xs) ≡ steps s (before ++ ys)
  unseen_run h a =
      trace_append stepped leaves s before xs
      ∙ ap (λ (l : List ReserveStep). steps s before ++ l) (unseen_steps (left_by s before) xs ys h a)
      ∙ sym (trace_append stepped leaves s before ys)

  pub unseen_public_run :
      handed_over (left_by_public s before).phase ≡ true → AllAlike (left_by_public s before).vote.n xs ys
      → public_steps s (before ++ xs) ≡ public_steps s (before ++ ys)
  unseen_public_run h a =
      trace_append public_step leaves s before xs
      ∙ ap (λ (l : List ReserveStep). public_steps s before ++ l) (unseen_public_steps (left_by_public s before) xs ys h a)
      ∙ sym (trace_append public_step leaves s before ys)
