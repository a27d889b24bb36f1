-- What an accepted shape says: every test before the samples is false, so the columns lie in the bytes and every slice has room.
use mathlib.Core.Path.{◌≡◌, refl, sym, ◌∙◌}
use mathlib.Core.Logic.{◌⊎◌, inl, inr, ⊎_elim}
use mathlib.Core.List.{List}
use mathlib.Core.Bool.{Bool, true, false, not, ◌&&◌, true≢false}
use Prim.Native.Nat.{ℕ, ◌+◌, ◌≤◌}
use native.Mathlib.Omega.{arith}
use lib.Dec.{eqb}
use lib.ListN.{length}
use borrow.Author.Tests.{eqb-true, ltb-false}
use Rattle.rules.specs.Limits.{bad_count, bad_width, too_long, outside}
use Rattle.rules.specs.Signals.{some_below}
use Rattle.rules.specs.Table.{first, numbered}
use Rattle.rules.proofs.Ranges.{same}
use Rattle.rules.proofs.Tables.{exactly, or_neither, upper, lower, or_each}
use Rattle.recording.specs.Recording.{header_of, column_at, bad_units, bad_head, bad_offset, bad_layout, head_rows, layout_rows, shape_rows, Laid}

pub one_two_four : (units : ℕ) → bad_units units ≡ false → (units ≡ 1) ⊎ ((units ≡ 2) ⊎ (units ≡ 4))
one_two_four units = go (eqb units 1) (eqb units 2) (eqb units 4) refl refl refl where
  go :
      (a b c : Bool) → eqb units 1 ≡ a → eqb units 2 ≡ b → eqb units 4 ≡ c → not a && not b && not c ≡ false
      → (units ≡ 1) ⊎ ((units ≡ 2) ⊎ (units ≡ 4))
  go true b c p q r e = inl (eqb-true units 1 p)
  go false true c p q r e = inr (inl (eqb-true units 2 q))
  go false false true p q r e = inr (inr (eqb-true units 4 r))
  go false false false p q r e = absurd (true≢false e)

few_units : (units : ℕ) → bad_units units ≡ false → units ≤ 4
few_units units e = ⊎_elim (λ p. omega arith) (⊎_elim (λ p. omega arith) (λ p. omega arith)) (one_two_four units e)

-- the first rows: there are 44 bytes, few units, and few samples
pub record Headed (s : List ℕ) : Type 0 where
  pub long : 44 ≤ length s
  pub units_known : bad_units (header_of s).units ≡ false
  pub units_few : (header_of s).units ≤ 4
  pub few : (header_of s).samples ≤ 2048

read_head : (s : List ℕ) → bad_head s ≡ false → too_long (header_of s).samples ≡ false → Headed s
read_head s e f =
    let p = or_each (or_each (ltb-false (length s) 44) (λ e. e)) (λ e. e) e in
    record { long = p.0.0; units_known = p.1; units_few = few_units (header_of s).units p.1; few = ltb-false 2048 (header_of s).samples f }

pub headed : (lent : Bool) (s : List ℕ) → first (head_rows lent s) ≡ 0 → Headed s
unfolding numbered
headed lent s e = let g = (exactly (head_rows lent s) refl 0).0 e in read_head s g.1.0 g.1.1.0

-- all rows before the samples
pub record Shaped (lent : Bool) (s : List ℕ) : Type 0 where
  pub full : lent ≡ false
  pub head : Headed s
  pub laid : Laid s (header_of s)
  pub counted : bad_count (header_of s).need ≡ false
  pub wide : bad_width (header_of s).n ≡ false
  pub word_in : outside (header_of s).n (header_of s).word ≡ false

ended : (s : List ℕ) → bad_layout s (header_of s) ≡ false → length s ≡ column_at (header_of s).samples ((header_of s).units + 1)
ended s e = same _ _ (or_neither (some_below 5 (bad_offset s (header_of s))) _ e).1

pub shaped : (lent : Bool) (s : List ℕ) → first (shape_rows lent s) ≡ 0 → Shaped lent s
unfolding numbered
shaped lent s e =
    let g = (exactly (shape_rows lent s) refl 0).0 e in
    let head = read_head s g.1.0 g.1.1.0 in
    record {
      full = g.0;
      head = head;
      laid = record { few = head.few; units_few = head.units_few; ends = ended s g.1.1.1.0 };
      counted = g.1.1.1.1.0;
      wide = g.1.1.1.1.1.0;
      word_in = g.1.1.1.1.1.1.0;
    }

-- the rows of the head decide, or those of the layout do
module _ (lent : Bool) (s : List ℕ) where
  pub head_decides : {r : ℕ} → r ≡ first (head_rows lent s) → (r ≡ 0 → ⊥) → r ≡ first (shape_rows lent s)
  unfolding numbered
  head_decides e h = e ∙ sym (upper (head_rows lent s) (layout_rows s (header_of s)) refl (λ z. h (e ∙ z)))

  pub layout_decides : first (head_rows lent s) ≡ 0 → first (shape_rows lent s) ≡ first (layout_rows s (header_of s))
  unfolding numbered
  layout_decides = lower (head_rows lent s) (layout_rows s (header_of s)) refl
