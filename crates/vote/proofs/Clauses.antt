-- What the clauses of a vote never do: an alarm does not latch, a reset is never an alarm, and on hold and alarm the word that
-- is shown, and stays, is the last agreed one. The width and N stay.
use mathlib.Core.Path.{◌≡◌, refl}
use mathlib.Core.Bool.{Bool, true, false}
use Prim.Native.Nat.{ℕ, ◌+◌, ◌-◌, ◌≤◌}
use native.Mathlib.Omega.{arith}
use lib.Dec.{ltb, eqb}
use borrow.Author.Tests.{eq-eqb}
use Rattle.std.specs.Prelude.{if◌then◌else◌}
use Rattle.vote.specs.declared.Vote.{Vote}
use Rattle.vote.specs.Answers.{VoteStep}
use Rattle.vote.specs.Run.{shown_word, shown_mark}
use Rattle.vote.specs.Vote.{fresh, agreed, still, held, alarm, clauses}

-- the clauses, of any three tests
abbrev pub by_tests : Vote → ℕ → ℕ → Bool → Bool → Bool → VoteStep
by_tests s a b equal reset waiting =
    if equal then agreed s a else
    if reset then held s 0 (still s.word a b) else
    if waiting then held s (s.count + 1) (still s.word a b) else
    alarm s (still s.word a b)

module _ (s : Vote) where
  -- what holds of each clause holds of the step
  pub each_clause :
      (P : VoteStep → Type 0) (a b : ℕ) (reset : Bool) → let u = still s.word a b in
      P (agreed s a) → P (held s 0 u) → P (held s (s.count + 1) u) → P (alarm s u) → P (clauses s a b reset)
  unfolding clauses
  each_clause P a b reset u v w x = go (eqb a b) reset (ltb s.count (s.need - 1)) where
    go : (p q r : Bool) → P (by_tests s a b p q r)
    go true q r = u
    go false true r = v
    go false false true = w
    go false false false = x

  -- whatever came before, equal words agree
  pub agrees : (a : ℕ) (reset : Bool) → clauses s a a reset ≡ agreed s a
  unfolding clauses
  agrees a reset = rw (eq-eqb a a refl)

  pub reset_silent : (a b : ℕ) → shown_mark (clauses s a b true) ≡ 2 → ⊥
  unfolding clauses
  reset_silent a b = go (eqb a b) (ltb s.count (s.need - 1)) where
    go : (p r : Bool) → shown_mark (by_tests s a b p true r) ≡ 2 → ⊥
    go true r e = omega arith
    go false r e = omega arith

  -- and leaves a fresh state
  pub reset_fresh : (a b : ℕ) → (clauses s a b true).state ≡ fresh s.n s.need (clauses s a b true).state.word
  unfolding clauses
  reset_fresh a b = go (eqb a b) (ltb s.count (s.need - 1)) where
    go : (p r : Bool) → let t = by_tests s a b p true r in t.state ≡ fresh s.n s.need t.state.word
    go true r = refl
    go false r = refl

  pub last_agreed_lem : (a b : ℕ) (reset : Bool) → (shown_mark (clauses s a b reset) ≡ 0 → ⊥) → (shown_word (clauses s a b reset) ≡ s.word) × ((clauses s a b reset).state.word ≡ s.word)
  last_agreed_lem a b reset =
      each_clause (λ (t : VoteStep). (shown_mark t ≡ 0 → ⊥) → (shown_word t ≡ s.word) × (t.state.word ≡ s.word)) a b reset
      (λ h. absurd (h refl)) (λ h. (refl, refl)) (λ h. (refl, refl)) (λ h. (refl, refl))

  -- the word that is shown is the one that stays
  pub shown_stays : (a b : ℕ) (reset : Bool) → shown_word (clauses s a b reset) ≡ (clauses s a b reset).state.word
  shown_stays a b reset = each_clause (λ (t : VoteStep). shown_word t ≡ t.state.word) a b reset refl refl refl refl

  pub marks_few : (a b : ℕ) (reset : Bool) → shown_mark (clauses s a b reset) ≤ 2
  marks_few a b reset = each_clause (λ (t : VoteStep). shown_mark t ≤ 2) a b reset (omega arith) (omega arith) (omega arith) (omega arith)

  pub same_sizes : (a b : ℕ) (reset : Bool) → ((clauses s a b reset).state.n ≡ s.n) × ((clauses s a b reset).state.need ≡ s.need)
  same_sizes a b reset =
      each_clause (λ (t : VoteStep). (t.state.n ≡ s.n) × (t.state.need ≡ s.need)) a b reset (refl, refl) (refl, refl) (refl, refl) (refl, refl)
