-- What a state of confirmation says of a watch's inputs, and what a property of states says of the words that are shown.
use mathlib.Core.Path.{◌≡◌, refl, sym, ◌∙◌}
use mathlib.Core.Logic.{◌≢◌, dite}
use mathlib.Core.Bool.{Bool, true, false, not}
use Prim.Native.Nat.{ℕ, zero, suc, ◌+◌, ◌-◌, ◌≤◌, ◌<◌}
use native.Mathlib.Omega.{arith}
use native.Mathlib.Decide.{ℕ_discrete}
use lib.ListN.{get_or}
use lib.Dec.{ltb, eqb}
use borrow.Author.Tests.{eqb-true, eqb-false, ltb-true, ltb-false, not-true, not-false}
use Rattle.trace.proofs.Steps.{at_each}
use Rattle.confirm.specs.declared.Confirm.{Confirm}
use Rattle.confirm.specs.Confirm.{held, confirmed, clauses}
use Rattle.confirm.specs.Run.{leaves, shown_word}
use Rattle.confirm.proofs.Clauses.{by_tests, shown_stays}
use Rattle.plant.specs.Plant.{Watch, fresh_of, There, outputs}

-- The initial word counts as a sample before the first: input 0 is the initial word, input k + 1 is sample k.
abbrev pub input : Watch → ℕ → ℕ
input w zero = w.initial
input w (suc k) = get_or w.samples k 0

-- a state after input k: the last inputs are alike, `count` of them before input k
pub record Tracks (w : Watch) (s : Confirm) (k : ℕ) : Type 0 where
  pub same_need : s.need ≡ w.need
  pub last_input : s.input ≡ input w k
  pub waits : suc s.count ≤ w.need
  pub counted : s.count ≤ k
  pub alike : (j : ℕ) → j ≤ k → k ≤ j + s.count → input w j ≡ input w k

module _ (w : Watch) (some : 1 ≤ w.need) where
  pub tracks_fresh : Tracks w (fresh_of w) 0
  tracks_fresh = record {
    same_need = refl;
    last_input = refl;
    waits = omega arith;
    counted = omega arith;
    alike = λ j jk h. (let e : j ≡ 0 = omega arith in rw e);
  }

  module _ (s : Confirm) (k : ℕ) (tr : Tracks w s k) where
    abbrev next : ℕ
    next = input w (suc k)

    -- the next input by the three clauses, each with what it knows
    pub by_clause :
        (Q : Confirm → Type 0)
        → (next ≢ input w k → Q (held s next 0).state)
        → (next ≡ input w k → s.count < w.need - 1 → Q (held s next (s.count + 1)).state)
        → (next ≡ input w k → w.need - 1 ≤ s.count → Q (confirmed s next).state)
        → Q (clauses s next).state
    unfolding clauses
    by_clause Q changed counting confirming = go (not (eqb next s.input)) (ltb s.count (s.need - 1)) refl refl where
      go : (p r : Bool) → not (eqb next s.input) ≡ p → ltb s.count (s.need - 1) ≡ r → Q (by_tests s next p r).state
      go true r a b = changed (λ e. eqb-false next s.input (not-true _ a) (e ∙ sym tr.last_input))
      go false true a b = counting (eqb-true next s.input (not-false _ a) ∙ tr.last_input) (rw tr.same_need at (ltb-true s.count (s.need - 1) b))
      go false false a b = confirming (eqb-true next s.input (not-false _ a) ∙ tr.last_input) (rw tr.same_need at (ltb-false s.count (s.need - 1) b))

    -- a run of alike inputs goes on
    pub alike_on : next ≡ input w k → (j : ℕ) → j ≤ suc k → k ≤ j + s.count → input w j ≡ next
    alike_on e j jk m = dite (ℕ_discrete j (suc k)) (λ q. rw q) (λ d. tr.alike j (omega arith) m ∙ sym e)

    pub tracks_next : Tracks w (clauses s next).state (suc k)
    tracks_next =
        by_clause (λ z. Tracks w z (suc k))
        (λ d. record {
          same_need = tr.same_need;
          last_input = refl;
          waits = omega arith;
          counted = omega arith;
          alike = λ j jk m. (let e : j ≡ suc k = omega arith in rw e);
        })
        (λ e m. record {
          same_need = tr.same_need;
          last_input = refl;
          waits = omega arith;
          counted = omega (arith, tr.counted);
          alike = λ j jk h. alike_on e j jk (omega arith);
        })
        (λ e m. record {
          same_need = tr.same_need;
          last_input = refl;
          waits = tr.waits;
          counted = omega (arith, tr.counted);
          alike = λ j jk h. alike_on e j jk (omega arith);
        })

-- A property of the states after each input, and what it says of the output: so of the words that are shown.
pub along :
    (w : Watch) (P : Confirm → ℕ → Type 0) (Q : ℕ → ℕ → Type 0)
    → ((s : Confirm) (k : ℕ) → There w k → P s k → P (clauses s (input w (suc k))).state (suc k))
    → ((s : Confirm) (k : ℕ) → There w k → P s (suc k) → Q k s.output)
    → P (fresh_of w) 0 → (k : ℕ) → There w k → Q k (get_or (outputs w) k 0)
along w P Q step says =
    at_each clauses leaves 0 shown_word 0 (λ k s. P s k) Q w.samples
    (λ k s l p. let q = step s k l p in (q, rw (shown_stays s (input w (suc k))) (says _ k l q))) (fresh_of w)
