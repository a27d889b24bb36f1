-- Input beyond the longest recording, 41,004 bytes, is refused by what its first bytes say, or else by its length: so whoever reads
-- a byte more than that, and no further, gets the answer that the whole input would get.
use mathlib.Core.Path.{◌≡◌, refl, sym, ap, ◌∙◌}
use mathlib.Core.List.{List}
use mathlib.Core.Bool.{Bool, true, false, or-true}
use Prim.Native.Nat.{ℕ, ◌+◌, ◌≤◌, ◌<◌}
use native.Mathlib.Omega.{arith}
use lib.Dec.{eqb}
use lib.ListN.{length, take}
use lib.Seq.{get_or-take, length-take-le}
use borrow.Author.Tests.{eqb-true, eqb-false, ne_eqb, le-ltb}
use Rattle.std.specs.Prelude.{if◌then◌else◌}
use Rattle.rules.specs.Signals.{some_below}
use Rattle.rules.specs.Refusal.{refusal_of}
use Rattle.rules.specs.Table.{first}
use Rattle.rules.proofs.Tables.{told_some}
use Rattle.trace.specs.Answers.{at_once}
use Rattle.recording.specs.Recording.{field, header_of, column_at, bad_offset, head_rows, shape_rows, refused_at, read_of}
use Rattle.recording.proofs.Answers.{refused_early}
use Rattle.recording.proofs.Columns.{bounded}
use Rattle.recording.proofs.Shapes.{headed, head_decides, layout_decides}

-- the header's rows see the first bytes alone
same_field : (s : List ℕ) (c at : ℕ) → at + 4 ≤ c → field (take c s) at ≡ field s at
same_field s c at h =
    rw (get_or-take c s at 0 (omega arith), get_or-take c s (at + 1) 0 (omega arith), get_or-take c s (at + 2) 0 (omega arith), get_or-take c s (at + 3) 0 (omega arith))

same_head : (lent : Bool) (s : List ℕ) (c : ℕ) → 44 ≤ c → c ≤ length s → first (head_rows lent (take c s)) ≡ first (head_rows lent s)
unfolding some_below
same_head lent s c h l =
    rw (
      length-take-le c s l,
      le-ltb c 44 h,
      le-ltb (length s) 44 (omega arith),
      get_or-take c s 0 0 (omega arith),
      get_or-take c s 1 0 (omega arith),
      get_or-take c s 2 0 (omega arith),
      get_or-take c s 3 0 (omega arith),
      same_field s c 4 (omega arith),
      same_field s c 8 (omega arith),
    )

-- what is longer than every recording has another length than its header says
too_long_lem : (lent : Bool) (s : List ℕ) → 41004 < length s → first (head_rows lent s) ≡ 0 → first (shape_rows lent s) ≡ 12
unfolding first
too_long_lem lent s l e =
    let h = headed lent s e in
    let most = bounded (header_of s).samples ((header_of s).units + 1) h.few (omega (arith, h.units_few)) in
    let other = ne_eqb (length s) (column_at (header_of s).samples ((header_of s).units + 1)) (λ q. omega arith) in
    layout_decides lent s e ∙ rw (other, or-true (some_below 5 (bad_offset s (header_of s))))

number : (lent : Bool) (s : List ℕ) → 41004 < length s → first (shape_rows lent s) ≡ (if eqb (first (head_rows lent s)) 0 then 12 else first (head_rows lent s))
number lent s l = go (eqb (first (head_rows lent s)) 0) refl where
  go : (b : Bool) → eqb (first (head_rows lent s)) 0 ≡ b → first (shape_rows lent s) ≡ (if b then 12 else first (head_rows lent s))
  go true e = too_long_lem lent s l (eqb-true _ _ e)
  go false e = sym (head_decides lent s refl (eqb-false _ _ e))

-- so it is refused, at sample 0
pub long_refused : (lent : Bool) (s : List ℕ) → 41004 < length s → refused_at (at_once (refusal_of (first (shape_rows lent s)))) ≡ read_of lent s
long_refused lent s l = refused_early lent s (told_some some) where
  some : first (shape_rows lent s) ≡ 0 → ⊥
  some e = go (eqb (first (head_rows lent s)) 0) refl (sym (number lent s l) ∙ e) where
    go : (b : Bool) → eqb (first (head_rows lent s)) 0 ≡ b → (if b then 12 else first (head_rows lent s)) ≡ 0 → ⊥
    go true q z = omega arith
    go false q z = eqb-false _ _ q z

pub cut : (lent : Bool) (s : List ℕ) (c : ℕ) → 41004 < c → c ≤ length s → read_of lent (take c s) ≡ read_of lent s
cut lent s c m l =
    let long : 41004 < length (take c s) = rw (length-take-le c s l) m in
    let same : first (shape_rows lent (take c s)) ≡ first (shape_rows lent s) = number lent (take c s) long ∙ rw (same_head lent s c (omega arith) l) (sym (number lent s (omega arith))) in
    sym (long_refused lent (take c s) long) ∙ ap (λ (r : ℕ). refused_at (at_once (refusal_of r))) same ∙ long_refused lent s (omega arith)
