-- The one test of a reserve step: it is the table's, and decides between the clauses and a refusal.
use mathlib.Core.Path.{◌≡◌, refl}
use mathlib.Core.Bool.{Bool, true, false, ◌||◌}
use Prim.Native.Nat.{ℕ, ◌-◌}
use lib.Bits.{bit_or}
use lib.Dec.{ltb, eqb}
use Rattle.rules.specs.Limits.{bad_count, outside}
use Rattle.rules.specs.Refusal.{refusal_of}
use Rattle.rules.specs.Table.{first}
use Rattle.rules.specs.Refusals.{step_rows, counted, admits}
use Rattle.rules.proofs.OneTest.{admits_exactly, by_one_test}
use Rattle.rules.proofs.Width.{outside_or}
use Rattle.reserve.specs.declared.Reserve.{Reserve}
use Rattle.reserve.specs.Reserve.{clauses, rows_of, not_taken, step_of}

-- the words of the four units in one
abbrev pub union : ℕ → ℕ → ℕ → ℕ → ℕ
union a b c d = bit_or (bit_or a b) (bit_or c d)

pub union_outside : (n a b c d : ℕ) → outside n (union a b c d) ≡ outside n a || outside n b || (outside n c || outside n d)
union_outside n a b c d = rw (outside_or n (bit_or a b) (bit_or c d), outside_or n a b, outside_or n c d)

module _ (s : Reserve) (a b c d : ℕ) where
  abbrev pub admitted : Bool
  admitted = let v = s.vote in admits (counted v.need v.count) v.n (bit_or (union a b c d) v.word)

  pub one_test : admitted ≡ eqb (first (rows_of s a b c d)) 0
  one_test =
      let v = s.vote in
      admits_exactly (bad_count v.need) (ltb (v.need - 1) v.count) v.n (union a b c d) v.word refl (union_outside v.n a b c d) refl

  pub ways : let v = s.vote in
      (admitted ≡ true → clauses s a b c d ≡ step_of s a b c d)
      × (admitted ≡ false → not_taken s (refusal_of (first (step_rows (bad_count v.need) v.n (outside v.n (union a b c d)) true))) ≡ step_of s a b c d)
  unfolding step_of
  ways =
      let v = s.vote in
      by_one_test (bad_count v.need) (ltb (v.need - 1) v.count) v.n (union a b c d) v.word refl (union_outside v.n a b c d) refl
      (not_taken s) (clauses s a b c d)
