-- What a limit's test says where it is false: the range that is left.
use mathlib.Core.Path.{◌≡◌}
use mathlib.Core.Bool.{false, ◌||◌}
use Prim.Native.Nat.{ℕ, ◌≤◌}
use native.Mathlib.Omega.{arith}
use lib.Dec.{ltb, eqb}
use borrow.Author.Tests.{eqb-true, eqb-false, ltb-false, not-false}
use Rattle.rules.specs.Limits.{bad_count, bad_width, differ}
use Rattle.rules.proofs.Tables.{or_each}

-- 0 or above m is refused, so 1 to m is left
range : (m k : ℕ) → eqb k 0 || ltb m k ≡ false → (1 ≤ k) × (k ≤ m)
range m k e =
    let p = or_each (eqb-false k 0) (ltb-false m k) e in
    let some : k ≡ 0 → ⊥ = p.0 in
    (omega arith, p.1)

pub count_range : (need : ℕ) → bad_count need ≡ false → (1 ≤ need) × (need ≤ 1000)
count_range = range 1000

pub width_range : (n : ℕ) → bad_width n ≡ false → (1 ≤ n) × (n ≤ 32)
width_range = range 32

-- lengths that do not differ are the same
pub same : (a b : ℕ) → differ a b ≡ false → a ≡ b
same a b e = eqb-true a b (not-false _ e)
