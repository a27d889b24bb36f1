-- Rows: how many samples in a row have met a test, up to sample i. A voter that counts them up to N-1 shows the mark of a full row exactly
-- when sample i and the N-1 before it exist and all meet the test.
use mathlib.Core.Path.{◌≡◌, refl, sym}
use mathlib.Core.Logic.{◌↔◌, dite}
use mathlib.Core.List.{List, [], ◌∷◌, map}
use mathlib.Core.Bool.{Bool, true, false, true≢false}
use Prim.Native.Nat.{ℕ, zero, suc, ◌+◌, ◌-◌, ◌≤◌, ◌<◌, min}
use native.Mathlib.Decide.{dec_lt}
use native.Mathlib.Omega.{arith}
use lib.Dec.{ltb}
use lib.ListN.{length, get_or}
use borrow.Author.Tests.{ltb-true, ltb-false}
use Rattle.std.specs.Prelude.{if◌then◌else◌}
use Rattle.trace.specs.Trace.{trace}

-- the row that goes on after a sample
abbrev pub on : ℕ → Bool → ℕ
on d met = if met then suc d else 0

-- a run's tests, each in the state that the step before left
unfoldable pub tests : {S X T : Type 0} → (S → X → T) → (T → S) → (S → X → Bool) → S → List X → List Bool
tests step leaves test s [] = []
tests step leaves test s (x ∷ xs) = test s x ∷ tests step leaves test (leaves (step s x)) xs

-- the count of a voter, and the mark that it shows: a sample that does not meet the test starts again, one that does is counted below N-1, held,
-- and from there on it has the mark of a full row
abbrev count_after : ℕ → Bool → Bool → ℕ
count_after count met waiting = if met then (if waiting then count + 1 else count) else 0

abbrev mark_after : ℕ → ℕ → Bool → Bool → ℕ
mark_after mark other met waiting = if met then (if waiting then 1 else mark) else other

-- a step counts so; N stays
pub record Counting (mark other need count : ℕ) (met waiting : Bool) (need' count' shown : ℕ) : Type 0 where
  pub stays : need' ≡ need
  pub counted : count' ≡ count_after count met waiting
  pub marked : shown ≡ mark_after mark other met waiting

module _ (need : ℕ) (some : 1 ≤ need) where
  -- the N samples up to i meet the test, those before the trace counted
  pub record Full (d : ℕ) (ms : List Bool) (i : ℕ) : Type 0 where
    pub exist : need ≤ d + (i + 1)
    pub met : (j : ℕ) → j ≤ i → i < j + need → get_or ms j false ≡ true

  -- of the first sample, and of a later one, given its row in the rest
  row_first : (d : ℕ) (m : Bool) (ms : List Bool) → (need ≤ on d m) ↔ Full d (m ∷ ms) 0
  row_first d true ms = (λ k. record { exist = omega arith; met = first }, λ f. omega (arith, f.exist)) where
    first : (j : ℕ) → j ≤ 0 → 0 < j + need → get_or (true ∷ ms) j false ≡ true
    first zero l m = refl
    first (suc j) l m = absurd (omega arith)
  row_first d false ms = (λ k. absurd (omega arith), λ f. absurd (true≢false (sym (f.met 0 (omega arith) (omega arith)))))

  row_later : (d : ℕ) (m : Bool) (ms : List Bool) (i : ℕ) {R : Type 0} → R ↔ Full (on d m) ms i → R ↔ Full d (m ∷ ms) (suc i)
  row_later d true ms i later = (
    λ k. let l = later.0 k in record { exist = omega (arith, l.exist); met = joined l },
    λ f. later.1 (record { exist = omega (arith, f.exist); met = λ j l m. f.met (suc j) (omega arith) (omega arith) }),
  ) where
    joined : Full (suc d) ms i → (j : ℕ) → j ≤ suc i → suc i < j + need → get_or (true ∷ ms) j false ≡ true
    joined l zero le m = refl
    joined l (suc j) le m = l.met j (omega arith) (omega arith)
  row_later d false ms i later = (
    λ k. let l = later.0 k in record { exist = omega (arith, l.exist); met = passed l },
    λ f. later.1 (record { exist = short f; met = λ j l m. f.met (suc j) (omega arith) (omega arith) }),
  ) where
    -- the row began after this sample, so this one is not among the N
    passed : Full 0 ms i → (j : ℕ) → j ≤ suc i → suc i < j + need → get_or (false ∷ ms) j false ≡ true
    passed l zero le m = absurd (omega (arith, l.exist))
    passed l (suc j) le m = l.met j (omega arith) (omega arith)

    short : Full d (false ∷ ms) (suc i) → need ≤ 0 + (i + 1)
    short f = dite (dec_lt (i + 1) need) (λ m. absurd (true≢false (sym (f.met 0 (omega arith) (omega arith))))) (λ m. omega arith)

  -- a state in which d samples in a row have met the test
  pub record Counts (d need' count : ℕ) : Type 0 where
    pub needs : need' ≡ need
    pub counted : count ≡ min d (need - 1)

  counts_on : (d : ℕ) (met : Bool) {n c : ℕ} → Counts d n c → Counts (on d met) n (count_after c met (ltb c (n - 1)))
  counts_on d false k = record { needs = k.needs; counted = omega arith }
  counts_on d true {n} {c} k = go (ltb c (n - 1)) refl where
    go : (r : Bool) → ltb c (n - 1) ≡ r → Counts (suc d) n (if r then c + 1 else c)
    go true q = record { needs = k.needs; counted = omega (arith, k.needs, k.counted, ltb-true c (n - 1) q) }
    go false q = record { needs = k.needs; counted = omega (arith, k.needs, k.counted, ltb-false c (n - 1) q) }

  module _ (mark other : ℕ) (not_held : 1 ≡ mark → ⊥) (not_other : other ≡ mark → ⊥) where
    marked_full : (d : ℕ) (met : Bool) {n c : ℕ} → Counts d n c → (mark_after mark other met (ltb c (n - 1)) ≡ mark) ↔ (need ≤ on d met)
    marked_full d false k = (λ e. absurd (not_other e), λ h. absurd (omega arith))
    marked_full d true {n} {c} k = go (ltb c (n - 1)) refl where
      go : (r : Bool) → ltb c (n - 1) ≡ r → ((if r then 1 else mark) ≡ mark) ↔ (need ≤ suc d)
      go true q = (λ e. absurd (not_held e), λ h. absurd (omega (arith, k.needs, k.counted, ltb-true c (n - 1) q)))
      go false q = (λ e. omega (arith, k.needs, k.counted, ltb-false c (n - 1) q), λ h. refl)

    -- a voter, the test of a sample in a state, its N and its count, and what it shows
    module _
        {S X T : Type 0} (step : S → X → T) (leaves : T → S) (test : S → X → Bool) (need_of count_of : S → ℕ) (shown : T → ℕ)
        (counting : (s : S) (x : X) → let t = step s x in
        Counting mark other (need_of s) (count_of s) (test s x) (ltb (count_of s) (need_of s - 1)) (need_of (leaves t)) (count_of (leaves t)) (shown t))
      where
        pub row_shown :
            (d : ℕ) (s : S) (xs : List X) (i : ℕ) → Counts d (need_of s) (count_of s) → i < length xs
            → (get_or (map shown (trace step leaves s xs)) i 255 ≡ mark) ↔ Full d (tests step leaves test s xs) i
        unfolding trace tests
        row_shown d s [] i k h = absurd (omega arith)
        row_shown d s (x ∷ xs) zero k h =
            let now = marked_full d (test s x) k in
            let row = row_first d (test s x) (tests step leaves test (leaves (step s x)) xs) in
            rw (counting s x).marked (λ e. row.0 (now.0 e), λ f. now.1 (row.1 f))
        row_shown d s (x ∷ xs) (suc i) k h =
            let next : Counts (on d (test s x)) (need_of (leaves (step s x))) (count_of (leaves (step s x))) =
            rw ((counting s x).stays, (counting s x).counted) (counts_on d (test s x) k) in
            row_later d (test s x) (tests step leaves test (leaves (step s x)) xs) i
            (row_shown (on d (test s x)) (leaves (step s x)) xs i next (omega arith))
