-- The confirmation's count is the least c with c·Tm > D, the votes' the least with (c-1)·Tm ≥ D; they differ by at most one, and are
-- equal exactly when Tm divides D. A count that serves votes serves confirmation. Where nothing is refused, every product fits by far.
use mathlib.Core.Path.{◌≡◌, refl}
use mathlib.Core.Logic.{◌↔◌}
use Prim.Native.Nat.{ℕ, suc, ◌+◌, ◌-◌, ◌*◌, ◌/◌, ◌<◌, ◌≤◌, ◌∣◌}
use native.Mathlib.Nat.{div-lt_iff_lt-mul, div-mul-le_self, suc-mul, mul-le-mul, dvd-mul_left, div-mul_cancel}
use native.Mathlib.Omega.{arith}
use borrow.Author.Tests.{eqb-false, ltb-false}
use Rattle.rules.specs.Table.{first, numbered}
use Rattle.rules.proofs.Ranges.{width_range}
use Rattle.rules.proofs.Tables.{exactly, or_each}
use Rattle.sizing.specs.Sizing.{count_of, votes_of, size_rows}

-- the confirmation's: it is enough, and one less is not
pub enough : (tm d : ℕ) → 1 ≤ tm → d < count_of tm d * tm
enough tm d h = (div-lt_iff_lt-mul h).0 (omega arith)

pub least : (tm d need : ℕ) → 1 ≤ tm → d < need * tm → count_of tm d ≤ need
least tm d need h e = let q : d / tm < need = (div-lt_iff_lt-mul h).1 e in omega arith

-- the votes': the same, of counts from 1 on
module _ (tm d : ℕ) (gap : 1 ≤ tm) where
  one_less : (c : ℕ) → 1 ≤ c → c * tm ≡ (c - 1) * tm + tm
  one_less c some = let e : suc (c - 1) ≡ c = omega arith in rw e at (suc-mul (c - 1) tm)

  pub votes_enough : d ≤ (votes_of tm d - 1) * tm
  votes_enough =
      let l : d + (tm - 1) < votes_of tm d * tm = (div-lt_iff_lt-mul gap).0 (omega arith) in
      omega (arith, one_less (votes_of tm d) (omega arith))

  pub votes_least : (c : ℕ) → 1 ≤ c → d ≤ (c - 1) * tm → votes_of tm d ≤ c
  votes_least c some e = let q : (d + (tm - 1)) / tm < c = (div-lt_iff_lt-mul gap).1 (omega (arith, one_less c some)) in omega arith

  -- what serves votes serves confirmation too, as a recording's one N has to
  pub serves_both : (c : ℕ) → 1 ≤ c → d ≤ (c - 1) * tm → d < c * tm
  serves_both c some e = omega (arith, one_less c some)

  -- the two side by side; `lower` is the quotient, rounded down
  lower : count_of tm d - 1 ≡ d / tm
  lower = omega arith

  pub one_apart : (count_of tm d ≤ votes_of tm d) × (votes_of tm d ≤ count_of tm d + 1)
  one_apart = (
    least tm d (votes_of tm d) gap (serves_both (votes_of tm d) (omega arith) votes_enough),
    votes_least (count_of tm d + 1) (omega arith) (let e : count_of tm d + 1 - 1 ≡ count_of tm d = omega arith in rw e (omega (arith, enough tm d gap))),
  )

  pub equal_exactly : (votes_of tm d ≡ count_of tm d) ↔ (tm ∣ d)
  equal_exactly = (
    λ e. let whole : d / tm * tm ≡ d = omega (arith, rw (e, lower) at votes_enough, div-mul-le_self d tm) in rw whole at (dvd-mul_left tm (d / tm)),
    λ divides. omega (arith, one_apart, votes_least (count_of tm d) (omega arith) (rw (lower, div-mul_cancel tm divides) (omega arith))),
  )

-- what is known where nothing is refused
pub record Sized (n tm tM d : ℕ) : Type 0 where
  pub width : n ≤ 32
  pub gap : 1 ≤ tm
  pub ordered : tm ≤ tM
  pub greatest : tM ≤ 1000000
  pub delay : d ≤ 10000000
  pub count : count_of tm d ≤ 1000
  pub votes : votes_of tm d ≤ 1000

pub ranges : (n tm tM d : ℕ) → first (size_rows n tm tM d) ≡ 0 → Sized n tm tM d
unfolding numbered
ranges n tm tM d e =
    let p = (exactly (size_rows n tm tM d) refl 0).0 e in
    let q = or_each (or_each (or_each (eqb-false tm 0) (ltb-false tM tm)) (ltb-false 1000000 tM)) (ltb-false 10000000 d) p.1.0 in
    let counts = or_each (ltb-false 1000 (count_of tm d)) (ltb-false 1000 (votes_of tm d)) p.1.1.0 in
    let some : tm ≡ 0 → ⊥ = q.0.0.0 in
    record {
      width = (width_range n p.0).1;
      gap = omega arith;
      ordered = q.0.0.1;
      greatest = q.0.1;
      delay = q.1;
      count = counts.0;
      votes = counts.1;
    }

-- the products of a sizing
pub record Room (n need tM : ℕ) : Type 0 where
  pub samples : n * need ≤ 32000
  pub age : n * need * tM ≤ 32000000000
  pub quiet : (n * need + 1) * tM ≤ 32001000000

pub room : (n need tM : ℕ) → n ≤ 32 → need ≤ 1000 → tM ≤ 1000000 → Room n need tM
room n need tM w k g =
    let s : n * need ≤ 32000 = mul-le-mul w k in
    let s1 : n * need + 1 ≤ 32001 = omega arith in
    record { samples = s; age = mul-le-mul s g; quiet = mul-le-mul s1 g }
