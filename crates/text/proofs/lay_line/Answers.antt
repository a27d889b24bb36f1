-- `text::lay_line` meets its contract: one after the other, the pieces are the line.
use mathlib.Core.Path.{◌≡◌, ◌∙◌}
use mathlib.Core.List.{List, [], ◌∷◌, ◌++◌, append_assoc}
use Prim.Native.Nat.{ℕ}
use native.Mathlib.Omega.{arith}
use lib.ListN.{length, set, length-append}
use borrow.Rule.Slice.PartMut.{put_mid}
use Rattle.text.specs.Text.{bytes, places, hex8, line}
use Rattle.text.proofs.Laws.{and_then, stored, filled, laid_whole}
use Rattle.text.proofs.Digits.{hex_length}
use Rattle.text.proofs.lay_line.Goals as goal

-- what follows the number's digits
rest_of : ℕ → ℕ → ℕ → List ℕ
rest_of word letter last = bytes " " ++ hex8 word ++ bytes " " ++ (letter ∷ []) ++ bytes " " ++ hex8 last ++ bytes "\n"

rest_length : (word letter last : ℕ) → length (rest_of word letter last) ≡ 21
unfolding bytes rest_of
rest_length word letter last = simp (length-append, hex_length)

laid_rest : (old : List ℕ) (word letter last : ℕ) → length old ≡ 21
    → set (put_mid 12 8 (set (set (set (put_mid 1 8 (set old 0 32) (hex8 word)) 9 32) 10 letter) 11 32) (hex8 last)) 20 10 ≡ rest_of word letter last
unfolding bytes rest_of
laid_rest old word letter last e =
    let one = and_then (stored {old = old} {at = 0} 32) (filled {at = 1} {k = 8} (hex_length word)) in
    let three = and_then (and_then (and_then one (stored {at = 9} 32)) (stored {at = 10} letter)) (stored {at = 11} 32) in
    let pieces = and_then (and_then three (filled {at = 12} {k = 8} (hex_length last))) (stored {at = 20} 10) in
    let long = rest_length word letter last in
    (pieces (omega arith)).buffer ∙ laid_whole old (rest_of word letter last) (omega arith)

pub returns : goal.returns
unfolding line bytes rest_of
returns c =
    let a = c.args in
    let split = c.split_at_mut-digits.ensures in
    let k : length c.split_at_mut-digits.result.0.now ≡ places a.number = omega arith in
    let rest = laid_rest c.split_at_mut-digits.result.1.now a.word a.letter a.last (omega arith) in
    rw (c.lay_decimal.ensures, k, c.lay_hex.ensures, c.lay_hex-2.ensures, rest) (simp append_assoc)
