-- A call's refusals as a table of rows, each a number and its test; the first row whose test is true gives the number.
use Rattle.rules.specs.Choose.{choose◌then◌else◌}
use Rattle.rules.specs.declared.refusal.Refusal.{Refusal}
use Rattle.rules.specs.Refusal.{refusal_of, is_refusal}
use Rattle.std.specs.Prelude.{ℕ, ◌<◌, ◌≤◌, ◌≡◌, ◌⊎◌, Bool, true, false, ◌&&◌, ◌||◌, ltb, eqb, if◌then◌else◌}
use mathlib.Core.List.{List, [], ◌∷◌, Memᴰ}

infix 70 ◌when◌
pub data Row : Type 0 where
  ◌when◌ : ℕ → Bool → Row

-- 0 is no refusal
unfoldable pub first : List Row → ℕ
first [] = 0
first (k when b ∷ rows) = if b then k else first rows

-- a call's answer: its refusal if there is one, its work if not
abbrev pub answer : {A : Type 0} → ℕ → (Refusal → A) → A → A
answer number refuse work = if eqb number 0 then work else refuse (refusal_of number)

-- no row has the number 0
unfoldable pub numbered : List Row → Bool
numbered [] = true
numbered (k when b ∷ rows) = ltb 0 k && numbered rows

-- the number of each row is a refusal's
unfoldable pub known : List Row → Bool
known [] = true
known (k when b ∷ rows) = is_refusal k && known rows

-- the numbers rise, each above low: then the first that applies is the lowest
unfoldable pub rising : ℕ → List Row → Bool
rising low [] = true
rising low (k when b ∷ rows) = ltb low k && rising k rows

-- some row has the number k
abbrev pub has : ℕ → List Row → Bool
has k [] = false
has k (j when b ∷ rows) = eqb j k || has k rows

infixr 2 ◌and◌
abbrev pub ◌and◌ : Type 0 → Type 0 → Type 0
P and Q = P × Q

-- "given exactly when": the test of k's row is true and every test before it is false; where k has a second row, that one
-- may give it too; 0 is given when every test is false
abbrev pub Given : ℕ → List Row → Type 0
Given k [] = k ≡ 0
Given k (j when b ∷ rows) =
    choose eqb j k then (choose has k rows then (b ≡ true) ⊎ Given k rows else (b ≡ true)) else
    (b ≡ false and Given k rows)

-- "where several apply, the lowest number is given": of the rows whose tests are true
abbrev pub LowestOf : List Row → Type 0
LowestOf rows = (j : ℕ) → Memᴰ (j when true) rows → (0 < first rows) × (first rows ≤ j)

-- one row more below a table: what is refused already stays
abbrev pub or_else : ℕ → ℕ → Bool → ℕ
or_else refusal number bad = if eqb refusal 0 then (if bad then number else 0) else refusal
