-- Laws of text in a buffer: what is laid after another text, or in front of it; the two ways a call places a text; and THE law
-- of pieces, `and_then`.
use mathlib.Core.Path.{◌≡◌, refl, sym, ap, ◌∙◌}
use mathlib.Core.List.{List, [], ◌∷◌, ◌++◌, append_assoc, append-nil}
use mathlib.Core.Bool.{Bool, true, false}
use Prim.Native.Nat.{ℕ, ◌+◌, ◌-◌, ◌<◌, ◌≤◌}
use native.Mathlib.Nat.{add_assoc, add-zero, zero-add}
use native.Mathlib.Numerals.{add-one}
use native.Mathlib.Omega.{arith}
use lib.Dec.{leb}
use lib.ListN.{length, take, drop, set, length-set, length-append, length-drop, take-append-drop, drop_of_length-le}
use lib.Seq.{length-take-le, take_at, drop_at, drop-drop, set_split}
use borrow.Author.Tests.{le-leb}
use borrow.Rule.Slice.PartMut.{mid_of, mid_len, put_mid}
use Rattle.text.specs.Put.{laid, fits, Placed, Writes}

-- no text leaves the buffer as it was
pub laid_nothing : (old : List ℕ) (at : ℕ) → laid old at [] ≡ old
unfolding laid
laid_nothing old at = simp (add-zero, append-nil, take-append-drop)

-- a byte that is stored is laid
pub laid_byte : (old : List ℕ) (at b : ℕ) → at < length old → set old at b ≡ laid old at (b ∷ [])
unfolding laid
laid_byte old at b h = rw (set_split old at b h, append_assoc, add-one)

module _ (old : List ℕ) (at : ℕ) (s : List ℕ) (h : at + length s ≤ length old) where
  head_length : length (take at old ++ s) ≡ at + length s
  head_length =
      let k : at ≤ length old = omega arith in
      length-append (take at old) s ∙ ap (λ (n : ℕ). n + length s) (length-take-le at old k)

  pub laid_length : length (laid old at s) ≡ length old
  unfolding laid
  laid_length = omega (arith, head_length, length-append (take at old ++ s) (drop (at + length s) old), length-drop (at + length s) old)

  -- a text and then another, from where the first ended, are the two in a row
  pub laid_after : (t : List ℕ) → laid (laid old at s) (at + length s) t ≡ laid old at (s ++ t)
  unfolding laid
  laid_after t =
      rw (
        take_at (take at old ++ s) (drop (at + length s) old) (at + length s) head_length,
        ← drop-drop (length t) (at + length s) (take at old ++ s ++ drop (at + length s) old),
        drop_at (take at old ++ s) (drop (at + length s) old) (at + length s) head_length,
        drop-drop,
        append_assoc (take at old) s t,
        length-append,
        add_assoc,
      )

-- a part of the buffer that was written is laid
laid_part : (old : List ℕ) (at k : ℕ) (text : List ℕ) → length text ≡ k → put_mid at k old text ≡ laid old at text
unfolding laid
laid_part old at k text e = rw (← e, drop-drop, append_assoc)

-- a part of the buffer has as many places as its range says
pub part_length : (old : List ℕ) (at k : ℕ) → at + k ≤ length old → length (mid_of at (at + k - at) old) ≡ k
part_length old at k h =
    let e : at + k - at ≡ k = omega arith in
    mid_len at (at + k) old h ∙ e

-- a text as long as the buffer is all that is left of it
pub laid_whole : (old text : List ℕ) → length text ≡ length old → laid old 0 text ≡ text
unfolding laid
laid_whole old text e = let none = drop_of_length-le old {i = length text} (omega arith) in rw (zero-add, none, append-nil)

module _ {old : List ℕ} {at : ℕ} {text : List ℕ} where
  -- a call places a text, by its test of the room: the part of the buffer that is the text's was written, or nothing happened
  pub placed : (k : ℕ) {room : Bool} {new : List ℕ} → length text ≡ k → room ≡ leb (at + k) (length old) → room ≡ true → new ≡ text
      → Placed old at text (at + k) (put_mid at (at + k - at) old new)
  placed k e r t w =
      let fit : fits old at text ≡ true = rw e (sym r ∙ t) in
      let same : length text ≡ at + k - at = omega arith in
      record { next = rw (fit, e); buffer = rw (fit, w, laid_part old at (at + k - at) text same) }

  pub kept : (k : ℕ) {room : Bool} → length text ≡ k → room ≡ leb (at + k) (length old) → room ≡ false → Placed old at text at old
  kept k e r f =
      let fit : fits old at text ≡ false = rw e (sym r ∙ f) in
      record { next = rw fit; buffer = rw fit }

  -- where there is room, it was written
  pub written : {r : ℕ} {new : List ℕ} → Placed old at text r new → Writes old at text r new
  written p h =
      let e = rw (le-leb _ _ h) at p.next in
      record { next = e; room = omega arith; buffer = rw (le-leb _ _ h) at p.buffer }

-- a byte that was stored, and a part that was written, were written if there was room
pub stored : {old : List ℕ} {at : ℕ} (b : ℕ) → Writes old at (b ∷ []) (at + 1) (set old at b)
stored {old} {at} b h = record { next = refl; room = omega (arith, length-set old at b); buffer = laid_byte old at b (omega arith) }

pub filled : {old : List ℕ} {at k : ℕ} {text : List ℕ} → length text ≡ k → Writes old at text (at + k) (put_mid at k old text)
filled {old} {at} {k} {text} e h = record { next = ap (λ (n : ℕ). at + n) (sym e); room = omega arith; buffer = laid_part old at k text e }

-- THE LAW OF PIECES: one text, and another from the place that the first call answered, are the two in a row
pub and_then : {old : List ℕ} {at : ℕ} {s : List ℕ} {r : ℕ} {mid t : List ℕ} {r' : ℕ} {new : List ℕ}
    → Writes old at s r mid → Writes mid r t r' new → Writes old at (s ++ t) r' new
and_then {old} {at} {s} {r} {mid} {t} {r'} {new} u v h =
    let l = length-append s t in
    let k : at + length s ≤ length old = omega arith in
    let p = u k in
    let same : length mid ≡ length old = ap length p.buffer ∙ laid_length old at s k in
    let q = v (omega arith) in
    record { next = omega arith; room = omega arith; buffer = q.buffer ∙ rw (p.buffer, p.next) (laid_after old at s k t) }

pub nothing : {old : List ℕ} {at : ℕ} → Writes old at [] at old
nothing {old} {at} h = record { next = sym (add-zero at); room = omega arith; buffer = sym (laid_nothing old at) }
