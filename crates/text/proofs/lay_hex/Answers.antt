-- `text::lay_hex` meets its contract: zeros and then the last digits are the eight of a small word.
use mathlib.Core.Path.{◌≡◌, ap, ◌∙◌}
use mathlib.Core.List.{List, [], ◌++◌, append-nil}
use Prim.Native.Nat.{ℕ, ◌+◌, ◌/◌, ◌<◌}
use native.Mathlib.Omega.{arith}
use lib.ListN.{length, take, drop, replicate, length-replicate, length-drop, drop_of_length-le}
use lib.Seq.{length-take-le, take_at, drop_at}
use borrow.Rule.Slice.PartMut.{put_mid}
use Rattle.text.specs.Text.{glyph, digits, hex8}
use Rattle.text.proofs.lay_hex.Goals as goal

short : (w : ℕ) → w < 16 → replicate 7 48 ++ digits 16 1 w ≡ hex8 w
unfolding glyph digits
short w h = let none : w / 16 ≡ 0 = omega arith in rw none

half : (w : ℕ) → w < 65536 → replicate 4 48 ++ digits 16 4 w ≡ hex8 w
unfolding glyph digits
half w h = let none : w / 16 / 16 / 16 / 16 ≡ 0 = omega arith in rw none

-- the first k places were filled, and then the m others
in_two : (k m z : ℕ) (place zeros rest whole : List ℕ) → length place ≡ k + m → zeros ≡ replicate (length (take k place)) z
    → (length (take m (drop k (zeros ++ drop k place))) ≡ m → replicate k z ++ rest ≡ whole)
    → put_mid k m (zeros ++ drop k place) rest ≡ whole
in_two k m z place zeros rest whole e r h =
    let filled : zeros ≡ replicate k z = rw (length-take-le k place (omega arith)) at r in
    let long : length zeros ≡ k = ap length filled ∙ length-replicate k z in
    let back = drop_at zeros (drop k place) k long in
    let others : length (drop k place) ≡ m = omega (arith, length-drop k place) in
    let none : drop m (drop k place) ≡ [] = drop_of_length-le (drop k place) {i = m} (omega arith) in
    rw (take_at zeros (drop k place) k long, back, none, append-nil, filled) (h (rw back (length-take-le m (drop k place) (omega arith))))

pub returns-then-w-lt16 : goal.returns-then-w-lt16
returns-then-w-lt16 c =
    in_two 7 1 48 c.args.place.now _ _ _ c.requires (c.fill.ensures.after (λ y e. e))
    (λ e. rw (rw e at c.lay_digits.ensures) (short c.args.w c.if-w-lt16.true))

pub returns-then-w-lt65536 : goal.returns-then-w-lt65536
returns-then-w-lt65536 c =
    in_two 4 4 48 c.args.place.now _ _ _ c.requires (c.fill-then-w-lt65536.ensures.after (λ y e. e))
    (λ e. rw (rw e at c.lay_digits-then-w-lt65536.ensures) (half c.args.w c.if-w-lt65536.true))
