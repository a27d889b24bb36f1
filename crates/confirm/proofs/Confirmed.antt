-- When a word is confirmed: from a fresh state with N at least 1, at a sample exactly when N samples in a row, it among them, each show what stood
-- before them. The count is the length of that row, at most N−1.
use mathlib.Core.Path.{◌≡◌, refl, sym, ◌∙◌}
use mathlib.Core.Logic.{◌↔◌}
use mathlib.Core.List.{List, [], ◌∷◌, map}
use mathlib.Core.Bool.{Bool, true, false, not}
use Prim.Native.Nat.{ℕ, zero, suc, ◌-◌, ◌≤◌, ◌<◌}
use native.Mathlib.Omega.{arith}
use lib.Dec.{ltb, eqb}
use lib.ListN.{length, get_or}
use borrow.Author.Tests.{eqb-true, eq-eqb}
use Rattle.trace.proofs.Rows.{tests, Counting, row_shown}
use Rattle.confirm.specs.declared.Confirm.{Confirm}
use Rattle.confirm.specs.Answers.{ConfirmStep}
use Rattle.confirm.specs.Confirm.{fresh, clauses}
use Rattle.confirm.specs.Run.{leaves, steps, shown_mark}
use Rattle.confirm.specs.Standing.{Standing}
use Rattle.confirm.proofs.Clauses.{by_tests, each_clause}

abbrev stands : Confirm → ℕ → Bool
stands s x = eqb x s.input

-- the input is stored
stored : (s : Confirm) (x : ℕ) → (clauses s x).state.input ≡ x
stored s x = each_clause s (λ (t : ConfirmStep). t.state.input ≡ x) x refl refl refl

stood : (s : Confirm) (xs : List ℕ) (j : ℕ) → j < length xs → get_or (tests clauses leaves stands s xs) j false ≡ eqb (get_or xs j 0) (get_or (s.input ∷ xs) j 0)
unfolding tests
stood s [] j h = absurd (let z : j < 0 = h in omega arith)
stood s (x ∷ xs) zero h = refl
stood s (x ∷ xs) (suc j) h =
    let z : suc j < suc (length xs) = h in
    stood (clauses s x).state xs j (omega arith) ∙ rw (stored s x)

-- a sample that stands is counted; confirmed is 0, held is 1
counting : (s : Confirm) (x : ℕ) → let t = clauses s x in
    Counting 0 1 s.need s.count (stands s x) (ltb s.count (s.need - 1)) t.state.need t.state.count (shown_mark t)
unfolding clauses
counting s x = go (stands s x) (ltb s.count (s.need - 1)) where
  go : (p r : Bool) → let t = by_tests s x (not p) r in Counting 0 1 s.need s.count p r t.state.need t.state.count (shown_mark t)
  go false r = record { stays = refl; counted = refl; marked = refl }
  go true true = record { stays = refl; counted = refl; marked = refl }
  go true false = record { stays = refl; counted = refl; marked = refl }

-- the theorem, of every trace from a fresh state; N 0 is refused by every call
pub confirmed_exactly :
    (n need word : ℕ) → 1 ≤ need → (xs : List ℕ) (i : ℕ) → i < length xs
    → (get_or (map shown_mark (steps (fresh n need word) xs)) i 255 ≡ 0) ↔ Standing need word xs i
confirmed_exactly n need word some xs i h =
    let s = fresh n need word in
    let rows =
    row_shown need some 0 1 (λ e. omega arith) (λ e. omega arith) clauses leaves stands (λ s. s.need) (λ s. s.count) shown_mark counting
    0 s xs i (record { needs = refl; counted = omega arith }) h in
    let at = stood s xs in (
      λ e. let f = rows.0 e in record { exist = omega (arith, f.exist); same = λ j l m. eqb-true _ _ (sym (at j (omega arith)) ∙ f.met j l m) },
      λ g. rows.1 (record { exist = omega (arith, g.exist); met = λ j l m. at j (omega arith) ∙ eq-eqb _ _ (g.same j l m) }),
    )
