-- Runs of any length: each voter steps as a plain vote of its own signal, no voted word is outside the width, and without alarms
-- the tuple vote is the confirmation of the voted words.
use mathlib.Core.Path.{◌≡◌, refl, sym, ap, ◌∙◌}
use mathlib.Core.List.{List, [], ◌∷◌, map}
use mathlib.Core.Logic.{◌↔◌}
use mathlib.Core.Bool.{false}
use Prim.Native.Nat.{ℕ, zero, suc, ◌≤◌, ◌<◌}
use native.Mathlib.Omega.{arith}
use lib.ListN.{length, get_or, length-map}
use borrow.Author.Tests.{eq-eqb, ne_eqb}
use Rattle.rules.specs.Bits.{bit}
use Rattle.rules.specs.Limits.{outside}
use Rattle.trace.specs.Trace.{trace}
use Rattle.trace.proofs.Steps.{at_each, follows}
use Rattle.confirm.specs.Confirm as confirm
use Rattle.confirm.specs.Run as confirm_run
use Rattle.confirm.specs.Answers.{ConfirmStep}
use Rattle.vote.specs.Alarms.{Disagreeing}
use Rattle.vote.specs.Run as vote_run
use Rattle.vote.specs.Answers.{VoteStep}
use Rattle.vote.proofs.Alarms.{alarm_exactly}
use Rattle.tuple.specs.declared.Tuple.{Tuple}
use Rattle.tuple.specs.declared.TupleAnswer.{TupleAnswer}
use Rattle.tuple.specs.declared.TupleStep.{TupleStep}
use Rattle.tuple.specs.Run.{leaves, stepped, steps, shown_word, shown_mask, shown_second}
use Rattle.tuple.specs.Second.{signal_of}
use Rattle.tuple.specs.Tuple.{width, fresh, voter, alarm_bit, second_bit, voters_of, confirmed_as, confirms, clauses}
use Rattle.tuple.proofs.Clauses.{same_sizes, voters_left}
use Rattle.tuple.proofs.Masks.{one_at, mask_shown, mask_bit}
use Rattle.tuple.proofs.PerSignal.{voter_fresh, per_signal}
use Rattle.tuple.proofs.Seconds.{second_bit_lem}
use Rattle.tuple.proofs.Sound.{voted_inside}

-- whatever a step shows of voter i alone, a run shows of the plain vote's run on signal i
module _ (s : Tuple) (i : ℕ) (l : i < width s) (xs : List (ℕ × ℕ)) where
  followed :
      {A : Type 0} (shown : TupleStep → A) (shown' : VoteStep → A)
      → ((t : Tuple) (x : ℕ × ℕ) → i < width t → shown (stepped t x) ≡ shown' (vote_run.plain (voter t i) (signal_of i x)))
      → map shown (steps s xs) ≡ map shown' (vote_run.steps (voter s i) (map (signal_of i) xs))
  followed shown shown' shows =
      follows stepped leaves vote_run.plain vote_run.leaves (λ (t : Tuple). voter t i) (signal_of i) (λ (t : Tuple). width t ≡ width s) shown shown'
      (λ t x g. per_signal t x.0 x.1 i (rw g l)) (λ t x g. shows t x (rw g l)) (λ t x g. (same_sizes t x.0 x.1).0 ∙ g) s xs refl

  pub per_signal_run : map (λ (t : TupleStep). voter t.state i) (steps s xs) ≡ map vote_run.leaves (vote_run.steps (voter s i) (map (signal_of i) xs))
  per_signal_run = followed (λ (t : TupleStep). voter t.state i) vote_run.leaves (λ t x h. per_signal t x.0 x.1 i h)

  pub mask_run : map (λ (t : TupleStep). bit i (shown_mask t)) (steps s xs) ≡ map (λ (t : VoteStep). alarm_bit t.answer) (vote_run.steps (voter s i) (map (signal_of i) xs))
  mask_run = followed (λ (t : TupleStep). bit i (shown_mask t)) (λ (t : VoteStep). alarm_bit t.answer) (λ t x h. mask_bit t x.0 x.1 i h)

  pub second_run : map (λ (t : TupleStep). bit i (shown_second t)) (steps s xs) ≡ map (λ (t : VoteStep). second_bit t.answer) (vote_run.steps (voter s i) (map (signal_of i) xs))
  second_run = followed (λ (t : TupleStep). bit i (shown_second t)) (λ (t : VoteStep). second_bit t.answer) (λ t x h. second_bit_lem t x.0 x.1 i h)

-- from any state, whatever the samples: the voters put together no word outside the width. It is what a step leaves as agreed
pub voted_run :
    (s : Tuple) (xs : List (ℕ × ℕ)) (k : ℕ) → k < length xs
    → outside (width s) (get_or (map (λ (t : TupleStep). t.state.agreed) (steps s xs)) k 0) ≡ false
voted_run s xs =
    at_each stepped leaves (0, 0) (λ (t : TupleStep). t.state.agreed) 0 (λ k (t : Tuple). width t ≡ width s) (λ k w. outside (width s) w ≡ false) xs
    (λ k t l e. let x = get_or xs k (0, 0) in ((same_sizes t x.0 x.1).0 ∙ e, rw ((voters_left t x.0 x.1).0, ← e) (voted_inside t x.0 x.1))) s refl

-- from a fresh state, bit i of a mask is a one exactly when signal i disagrees at this and the N−1 samples before it, N the voters'
one_where : (ts : List VoteStep) (k : ℕ) → (get_or (map (λ (t : VoteStep). alarm_bit t.answer) ts) k 0 ≡ 1) ↔ (get_or (map vote_run.shown_mark ts) k 255 ≡ 2)
one_where [] k = (λ e. absurd (omega arith), λ e. absurd (omega arith))
one_where (t ∷ ts) zero = one_at t.answer
one_where (t ∷ ts) (suc k) = one_where ts k

pub mask_exactly :
    (n votes need word : ℕ) → 1 ≤ votes → (i : ℕ) → i < n → (xs : List (ℕ × ℕ)) (k : ℕ) → k < length xs
    → (get_or (map (λ (t : TupleStep). bit i (shown_mask t)) (steps (fresh n votes need word) xs)) k 0 ≡ 1) ↔ Disagreeing votes (map (signal_of i) xs) k
mask_exactly n votes need word some i l xs k h =
    let one = one_where (vote_run.steps (voter (fresh n votes need word) i) (map (signal_of i) xs)) k in
    let alarms = alarm_exactly 1 votes (bit i word) some (map (signal_of i) xs) k (rw (length-map xs (signal_of i)) h) in
    rw (mask_run (fresh n votes need word) i l xs) (λ e. alarms.0 (rw (voter_fresh n votes need word i) at (one.0 e)), λ d. one.1 (rw (voter_fresh n votes need word i) (alarms.1 d)))

-- a sample without an alarm: the voted word has taken a step of confirmation
pub quiet : (s : Tuple) (a b : ℕ) → shown_mask (clauses s a b) ≡ 0 → clauses s a b ≡ confirms s (voters_of s a b) (confirm.clauses s.confirm (voters_of s a b).word)
unfolding clauses
quiet s a b e = rw (eq-eqb (voters_of s a b).mask 0 (sym (mask_shown s a b) ∙ e))

-- a sample with one: the previous output is shown, and confirmation takes no step
pub loud : (s : Tuple) (a b : ℕ) → (shown_mask (clauses s a b) ≡ 0 → ⊥) → (shown_word (clauses s a b) ≡ s.confirm.output) × ((clauses s a b).state.confirm ≡ s.confirm)
unfolding clauses
loud s a b h = let other = ne_eqb (voters_of s a b).mask 0 (λ e. h (mask_shown s a b ∙ e)) in (rw other, rw other)

-- a run without one: the answers are the confirmation's, of the voted words one after the other
pub quiet_run :
    (s : Tuple) (xs : List (ℕ × ℕ)) → ((i : ℕ) → i < length xs → get_or (map shown_mask (steps s xs)) i 0 ≡ 0)
    → map (λ (t : TupleStep). t.answer) (steps s xs)
    ≡ map (λ (t : ConfirmStep). confirmed_as t.answer) (confirm_run.steps s.confirm (map (λ (t : TupleStep). t.state.agreed) (steps s xs)))
unfolding trace
quiet_run s [] silent = refl
quiet_run s (x ∷ xs) silent =
    let left = (stepped s x).state in
    let q = quiet s x.0 x.1 (silent 0 (omega arith)) in
    let word : left.agreed ≡ (voters_of s x.0 x.1).word = (voters_left s x.0 x.1).0 in
    let answered : (stepped s x).answer ≡ confirmed_as (confirm.clauses s.confirm left.agreed).answer = ap (λ (t : TupleStep). t.answer) q ∙ rw word in
    let went : left.confirm ≡ (confirm.clauses s.confirm left.agreed).state = ap (λ (t : TupleStep). t.state.confirm) q ∙ rw word in
    rw (← answered, ← went) (ap (λ (l : List TupleAnswer). (stepped s x).answer ∷ l) (quiet_run left xs (λ i h. silent (suc i) (omega arith))))
