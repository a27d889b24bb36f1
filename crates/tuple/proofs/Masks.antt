-- The alarm mask: its bit i is a one exactly when voter i alarms, it is zero exactly when none does, and it has no bit at n or above.
use mathlib.Core.Path.{◌≡◌, refl, sym, ◌∙◌}
use mathlib.Core.Logic.{◌↔◌}
use mathlib.Core.Bool.{Bool, true, false, not}
use Prim.Native.Nat.{ℕ, ◌<◌}
use native.Mathlib.Omega.{arith}
use lib.Dec.{eqb}
use borrow.Author.Tests.{eqb-true, eqb-false, not-false, not-true}
use Rattle.rules.specs.Bits.{bit}
use Rattle.rules.specs.Limits.{outside}
use Rattle.rules.proofs.Signals.{word_bit, word_zero}
use Rattle.rules.proofs.Width.{lt_inside}
use Rattle.confirm.specs.Confirm as confirm
use Rattle.confirm.proofs.Clauses.{marks_few as confirm_marks}
use Rattle.vote.specs.Answers.{mark_of}
use Rattle.vote.specs.Vote as vote
use Rattle.vote.specs.declared.VoteAnswer.{VoteAnswer}
use Rattle.vote.specs.declared.VoteAnswer.TheVariants.{Agreed as VoteAgreed, Held as VoteHeld, Alarm as VoteAlarm, Refused as VoteRefused}
use Rattle.tuple.specs.declared.Tuple.{Tuple}
use Rattle.tuple.specs.Run.{shown_mask, shown_mark}
use Rattle.tuple.specs.Tuple.{width, vote_need, voter, alarm_bit, voters_of, clauses}
use Rattle.tuple.proofs.Clauses.{by_test, confirmed_as_lem}
use Rattle.tuple.proofs.Small.{alarm_small, masks_small}

silent : (v : VoteAnswer) → (alarm_bit v ≡ 0) ↔ (mark_of v ≡ 2 → ⊥)
silent (VoteAgreed w) = (λ e m. omega arith, λ h. refl)
silent (VoteHeld w u) = (λ e m. omega arith, λ h. refl)
silent (VoteAlarm w u) = (λ e m. omega arith, λ h. absurd (h refl))
silent (VoteRefused k) = (λ e m. omega arith, λ h. refl)

pub one_at : (v : VoteAnswer) → (alarm_bit v ≡ 1) ↔ (mark_of v ≡ 2)
one_at (VoteAgreed w) = (λ e. absurd (omega arith), λ e. absurd (omega arith))
one_at (VoteHeld w u) = (λ e. absurd (omega arith), λ e. absurd (omega arith))
one_at (VoteAlarm w u) = (λ e. refl, λ e. refl)
one_at (VoteRefused k) = (λ e. absurd (omega arith), λ e. absurd (omega arith))

module _ (s : Tuple) (a b : ℕ) where
  -- the mask that is shown is the voters', alarm or not
  pub mask_shown : shown_mask (clauses s a b) ≡ (voters_of s a b).mask
  unfolding clauses
  mask_shown = go (not (eqb (voters_of s a b).mask 0)) refl where
    go : (p : Bool) → not (eqb (voters_of s a b).mask 0) ≡ p → shown_mask (by_test s (voters_of s a b) p) ≡ (voters_of s a b).mask
    go true e = refl
    go false e = (confirmed_as_lem (confirm.clauses s.confirm (voters_of s a b).word).answer).no_mask ∙ sym (eqb-true (voters_of s a b).mask 0 (not-false (eqb (voters_of s a b).mask 0) e))

  -- an alarm is shown exactly when the mask is not zero
  pub mark_exactly : (shown_mark (clauses s a b) ≡ 2) ↔ (shown_mask (clauses s a b) ≡ 0 → ⊥)
  unfolding clauses
  mark_exactly = go (not (eqb (voters_of s a b).mask 0)) refl where
    go : (p : Bool) → not (eqb (voters_of s a b).mask 0) ≡ p → let t = by_test s (voters_of s a b) p in (shown_mark t ≡ 2) ↔ (shown_mask t ≡ 0 → ⊥)
    go true e = (λ m. eqb-false (voters_of s a b).mask 0 (not-true (eqb (voters_of s a b).mask 0) e), λ h. refl)
    go false e =
        let same = confirmed_as_lem (confirm.clauses s.confirm (voters_of s a b).word).answer in
        (λ m. absurd (omega (arith, m, same.mark, confirm_marks s.confirm (voters_of s a b).word)), λ h. absurd (h same.no_mask))

  abbrev vote_of_lem : ℕ → VoteAnswer
  vote_of_lem i = (vote.clauses (voter s i) (bit i a) (bit i b) false).answer

  bits_small : (i : ℕ) → alarm_bit (vote_of_lem i) < 2
  bits_small i = alarm_small (vote_of_lem i)

  pub mask_bit : (i : ℕ) → i < width s → bit i (shown_mask (clauses s a b)) ≡ alarm_bit (vote_of_lem i)
  mask_bit i l = rw mask_shown (word_bit (λ k. alarm_bit (vote_of_lem k)) bits_small (width s) i l)

  pub mask_zero : (shown_mask (clauses s a b) ≡ 0) ↔ ((i : ℕ) → i < width s → mark_of (vote_of_lem i) ≡ 2 → ⊥)
  mask_zero =
      let zero_bits = word_zero (λ k. alarm_bit (vote_of_lem k)) bits_small (width s) in
      rw mask_shown (
        λ e i l. (silent (vote_of_lem i)).0 (zero_bits.0 e i l),
        λ h. zero_bits.1 (λ i l. (silent (vote_of_lem i)).1 (h i l)),
      )

  pub mask_inside : outside (width s) (shown_mask (clauses s a b)) ≡ false
  mask_inside = rw mask_shown (lt_inside (width s) (voters_of s a b).mask (masks_small (vote_need s) s.agreed s.counts a b (width s)))
