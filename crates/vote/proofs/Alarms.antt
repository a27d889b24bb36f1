-- When the plain vote alarms: from a fresh state with N at least 1, at a sample exactly when it and the N−1 samples before it exist and all
-- disagree. The count is the length of the row of disagreements so far, at most N−1.
use mathlib.Core.Path.{◌≡◌, refl, sym, ap, ◌∙◌}
use mathlib.Core.Logic.{◌↔◌}
use mathlib.Core.List.{List, [], ◌∷◌, map}
use mathlib.Core.Bool.{Bool, true, false, not}
use Prim.Native.Nat.{ℕ, zero, suc, ◌-◌, ◌≤◌, ◌<◌}
use native.Mathlib.Omega.{arith}
use lib.Dec.{ltb}
use lib.ListN.{length, get_or}
use borrow.Author.Tests.{not-true}
use Rattle.trace.proofs.Rows.{tests, Counting, row_shown}
use Rattle.vote.specs.declared.Vote.{Vote}
use Rattle.vote.specs.Alarms.{equal, Disagreeing}
use Rattle.vote.specs.Run.{plain, leaves, steps, shown_mark}
use Rattle.vote.specs.Vote.{fresh, clauses}
use Rattle.vote.proofs.Clauses.{by_tests}

abbrev disagrees : Vote → ℕ × ℕ → Bool
disagrees s x = not (equal x)

disagreed : (s : Vote) (xs : List (ℕ × ℕ)) (j : ℕ) → j < length xs → get_or (tests plain leaves disagrees s xs) j false ≡ not (equal (get_or xs j (0, 0)))
unfolding tests
disagreed s [] j h = absurd (let z : j < 0 = h in omega arith)
disagreed s (x ∷ xs) zero h = refl
disagreed s (x ∷ xs) (suc j) h =
    let z : suc j < suc (length xs) = h in
    disagreed (leaves (plain s x)) xs j (omega arith)

-- a sample that disagrees is counted; alarm is 2, agreed is 0
counting : (s : Vote) (x : ℕ × ℕ) → let t = plain s x in
    Counting 2 0 s.need s.count (disagrees s x) (ltb s.count (s.need - 1)) t.state.need t.state.count (shown_mark t)
unfolding clauses
counting s x = go (equal x) (ltb s.count (s.need - 1)) where
  go : (p r : Bool) → let t = by_tests s x.0 x.1 p false r in Counting 2 0 s.need s.count (not p) r t.state.need t.state.count (shown_mark t)
  go true r = record { stays = refl; counted = refl; marked = refl }
  go false true = record { stays = refl; counted = refl; marked = refl }
  go false false = record { stays = refl; counted = refl; marked = refl }

-- the theorem, of every trace from a fresh state; N 0 is refused by every call
pub alarm_exactly :
    (n need word : ℕ) → 1 ≤ need → (xs : List (ℕ × ℕ)) (i : ℕ) → i < length xs
    → (get_or (map shown_mark (steps (fresh n need word) xs)) i 255 ≡ 2) ↔ Disagreeing need xs i
alarm_exactly n need word some xs i h =
    let s = fresh n need word in
    let rows =
    row_shown need some 2 0 (λ e. omega arith) (λ e. omega arith) plain leaves disagrees (λ s. s.need) (λ s. s.count) shown_mark counting
    0 s xs i (record { needs = refl; counted = omega arith }) h in
    let at = disagreed s xs in (
      λ e. let f = rows.0 e in record { exist = omega (arith, f.exist); apart = λ j l m. not-true _ (sym (at j (omega arith)) ∙ f.met j l m) },
      λ g. rows.1 (record { exist = omega (arith, g.exist); met = λ j l m. at j (omega arith) ∙ ap not (g.apart j l m) }),
    )
