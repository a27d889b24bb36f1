-- `recording::samples::Recording::column_outside` meets its contract: the OR of all is outside exactly when one of them is.
use mathlib.Core.Path.{◌≡◌, sym, ◌∙◌}
use mathlib.Core.Bool.{◌||◌, or-false, or_assoc}
use mathlib.Core.List.{List, [], ◌∷◌}
use Prim.Native.Nat.{ℕ}
use native.Mathlib.Omega.{arith}
use Rattle.std.proofs.Common.{rules, bit_or}
use Rattle.std.specs.List.{fold, list_any}
use Rattle.std.proofs.lemmas.Iterator.{YieldsList-from_range}
use Rattle.std.proofs.lemmas.Iterator.Consumers.{fold_from_yields_List}
use Rattle.rules.specs.Limits.{outside}
use Rattle.rules.proofs.Width.{outside_or, zero_inside}
use Rattle.recording.specs.Recording.{sample_at}
use Rattle.recording.proofs.Below.{any_of_numbers}
use Rattle.recording.proofs.samples.Recording.column_outside.Goals as goal

union_outside :
    (n : ℕ) (f : ℕ → ℕ) (union : ℕ) (is : List ℕ)
    → outside n (fold (λ u i. bit_or u (f i)) union is) ≡ outside n union || list_any (λ i. outside n (f i)) is
union_outside n f union [] = sym (or-false _)
union_outside n f union (i ∷ is) = union_outside n f (bit_or union (f i)) is ∙ rw (outside_or, or_assoc)

pub returns : goal.returns
returns c =
    let s = c.args.self.now in
    let n = s.header.samples in
    let column : ℕ → ℕ = sample_at s.bytes.now n c.args.k in
    let union = fold_from_yields_List _ (λ u i. bit_or u (column i)) 0 c.fold-union.result c.fold-union.ensures.ran (YieldsList-from_range 0 n n (cc) (omega arith)) (λ a x b q k. search rules) in
    c.outside.ensures ∙ rw (union, union_outside s.header.n column 0, zero_inside s.header.n) (any_of_numbers (λ i. outside s.header.n (column i)) n)
