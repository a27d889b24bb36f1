-- A listing has one line for each sample and one before them; a refused recording has one line.
use mathlib.Core.Path.{◌≡◌, refl, sym, ◌∙◌}
use mathlib.Core.Bool.{Bool, true, false}
use mathlib.Core.List.{List, [], ◌∷◌, ◌++◌}
use Prim.Native.Nat.{ℕ, zero, suc, ◌+◌, ◌/◌, ◌%◌, ◌<◌}
use native.Mathlib.Nat.{zero-add}
use native.Mathlib.Omega.{arith}
use lib.Dec.{ltb, eqb}
use lib.ListN.{length, get_or}
use borrow.Author.Tests.{ne_eqb}
use Rattle.std.specs.Prelude.{if◌then◌else◌}
use Rattle.rules.specs.Refusal.{number}
use Rattle.std.specs.Prelude.{Err}
use Rattle.trace.specs.declared.Refused.{Refused}
use Rattle.trace.specs.Answers.{done}
use Rattle.recording.specs.Recording.{header_of, read_of}
use Rattle.text.specs.Text.{bytes, glyph, digits, line}
use Rattle.listing.specs.declared.Kind.{Kind}
use Rattle.listing.specs.declared.Kind.TheVariants.{Confirm, Pair, Reserve}
use Rattle.listing.specs.Lines.{occurrences, newlines}
use Rattle.listing.specs.Listing.{name, heading, letter, joined, line_at, listing_of, refused_text, text_of}
use Rattle.listing.proofs.Texts.{accepted_shown, refused_text_lem}

pub occurrences_append : (c : ℕ) (s t : List ℕ) → occurrences c (s ++ t) ≡ occurrences c s + occurrences c t
unfolding occurrences
occurrences_append c [] t = sym (zero-add (occurrences c t))
occurrences_append c (x ∷ s) t = rw (occurrences_append c s t) (omega arith)

-- every digit's code is 48 or more
glyph_high : (d c : ℕ) → c < 48 → eqb (glyph d) c ≡ false
unfolding glyph
glyph_high d c l = ne_eqb _ c (go (ltb d 10)) where
  go : (b : Bool) → (if b then 48 + d else 87 + d) ≡ c → ⊥
  go true e = omega arith
  go false e = omega arith

-- so a number has no space and no newline in it
pub digits_free : (c : ℕ) → c < 48 → (base k n : ℕ) → occurrences c (digits base k n) ≡ 0
unfolding digits occurrences
digits_free c l base zero n = refl
digits_free c l base (suc k) n =
    occurrences_append c (digits base k (n / base)) (glyph (n % base) ∷ [])
    ∙ rw (digits_free c l base k (n / base), glyph_high (n % base) c l)

-- and no letter is one
letter_plain : (kind : Kind) (mark : ℕ) → eqb (letter kind mark) 10 ≡ false
letter_plain kind mark = go kind (eqb mark 0) (eqb mark 1) where
  go : (kind : Kind) (p q : Bool) → eqb (if p then letter kind 0 else if q then letter kind 1 else letter kind 2) 10 ≡ false
  go Confirm true q = refl
  go Pair true q = refl
  go Reserve true q = refl
  go kind false true = refl
  go kind false false = refl

line_one : (number word last : ℕ) (kind : Kind) (mark : ℕ) → newlines (line number word (letter kind mark) last) ≡ 1
unfolding line bytes occurrences
line_one number word last kind mark =
    simp (occurrences_append, digits_free 10 (omega arith), letter_plain kind mark)

name_plain : (kind : Kind) → newlines (bytes (name kind)) ≡ 0
unfolding bytes occurrences
name_plain Confirm = refl
name_plain Pair = refl
name_plain Reserve = refl

heading_one : (kind : Kind) (samples n need : ℕ) → newlines (heading kind samples n need) ≡ 1
unfolding heading bytes occurrences
heading_one kind samples n need = simp (occurrences_append, digits_free 10 (omega arith), name_plain kind)

pub refused_one_line : (number sample : ℕ) → newlines (refused_text number sample) ≡ 1
unfolding refused_text bytes occurrences
refused_one_line number sample = simp (occurrences_append, digits_free 10 (omega arith))

module _ (kind : Kind) (words marks lasts : List ℕ) where
  one_each : (k : ℕ) → newlines (joined k (line_at kind words marks lasts)) ≡ k
  unfolding joined occurrences
  one_each zero = refl
  one_each (suc k) =
      occurrences_append 10 (joined k (line_at kind words marks lasts)) (line_at kind words marks lasts k)
      ∙ rw (one_each k, line_one k (get_or words k 0) (get_or lasts k 0) kind (get_or marks k 0)) (omega arith)

pub lines_counted : (kind : Kind) (n need : ℕ) (words marks lasts : List ℕ) → newlines (listing_of kind n need words marks lasts) ≡ length words + 1
unfolding listing_of
lines_counted kind n need words marks lasts =
    occurrences_append 10 (heading kind (length words) n need) (joined (length words) (line_at kind words marks lasts))
    ∙ rw (heading_one kind (length words) n need, one_each kind words marks lasts (length words)) (omega arith)

-- over whole recordings: one line where it is refused, and one more than it has samples where it is accepted
module _ (s : List ℕ) where
  pub refused_lines : (r : Refused) → (read_of false s).answer ≡ Err r → newlines (text_of s) ≡ 1
  refused_lines r e = rw (refused_text_lem s r e) (refused_one_line (number r.refusal) r.sample)

  pub accepted_lines : (read_of false s).answer ≡ done → newlines (text_of s) ≡ (header_of s).samples + 1
  accepted_lines = accepted_shown s (λ (text : List ℕ). newlines text ≡ (header_of s).samples + 1) (λ kind words marks lasts l. rw (← l) (lines_counted kind _ _ words marks lasts))
