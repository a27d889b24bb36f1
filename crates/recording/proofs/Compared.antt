-- Bytes, and lengths, that are compared all at once: not all are the same exactly where one of them differs.
use mathlib.Core.Path.{◌≡◌, refl}
use mathlib.Core.Bool.{Bool, true, false, not, ◌&&◌, ◌||◌, or-true, or-false, or_assoc}
use mathlib.Core.List.{List, [], ◌∷◌}
use Prim.Native.Nat.{ℕ}
use lib.ListN.{length}
use lib.Pointwise.{pointwise}
use Rattle.std.specs.Prelude.{nat_eq}
use Rattle.std.specs.Cmp.{nat_eq_equiv}
use Rattle.std.specs.List.{starts_with}
use Rattle.rules.specs.Signals.{some_below}
use Rattle.recording.specs.Recording.{tag, mislent, bad_tag}

not-and : (p q : Bool) → not (p && q) ≡ not p || not q
not-and true q = refl
not-and false q = refl

pub tag_compared : (s : List ℕ) → not (starts_with nat_eq s tag) ≡ bad_tag s
unfolding some_below
tag_compared [] = refl
tag_compared (a ∷ []) = simp (nat_eq_equiv.symm a 0x51, not-and, or-true)
tag_compared (a ∷ b ∷ []) = simp (nat_eq_equiv.symm a 0x51, nat_eq_equiv.symm b 0x53, not-and, or-true)
tag_compared (a ∷ b ∷ c ∷ []) = simp (nat_eq_equiv.symm a 0x51, nat_eq_equiv.symm b 0x53, nat_eq_equiv.symm c 0x52, not-and, or-true)
tag_compared (a ∷ b ∷ c ∷ d ∷ rest) =
    simp (nat_eq_equiv.symm a 0x51, nat_eq_equiv.symm b 0x53, nat_eq_equiv.symm c 0x52, nat_eq_equiv.symm d 0x31, not-and, or-false, or_assoc)

pub lengths_compared :
    (times one two three four : List ℕ)
    → not (pointwise nat_eq (length times ∷ length one ∷ length two ∷ length three ∷ length four ∷ []) (2048 ∷ 2048 ∷ 2048 ∷ 2048 ∷ 2048 ∷ []))
    ≡ mislent times one two three four
lengths_compared times one two three four = simp (not-and, or-false, or_assoc)
