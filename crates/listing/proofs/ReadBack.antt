-- A listing reads back: no two listings of different answers are the same text.
use Prim.Native.Char.{code}
use mathlib.Core.Path.{◌≡◌, refl, sym, ap, ◌∙◌}
use mathlib.Core.List.{List, [], ◌∷◌, ◌++◌, append_assoc, append_cancel_left, tail-eq_of_cons-eq}
use mathlib.Core.Logic.{⊎_elim}
use Prim.Native.Nat.{ℕ, zero, suc, ◌^◌, ◌≤◌, ◌<◌}
use native.Mathlib.Nat.{eq-or-lt_of_le, le_of_suc-le-suc}
use native.Mathlib.Omega.{arith}
use lib.Dec.{eqb}
use lib.ListN.{length, get_or, take, drop, length-append}
use lib.Seq.{take_at, drop_at, ext_get_or}
use borrow.Author.Tests.{eq-eqb}
use Rattle.std.specs.Prelude.{if◌then◌else◌}
use Rattle.text.specs.Text.{bytes, places, decimal, hex8, line}
use Rattle.text.proofs.ReadBack.{decimal_inj, hex_inj}
use Rattle.text.proofs.Digits.{line_length}
use Rattle.listing.specs.declared.Kind.{Kind}
use Rattle.listing.specs.declared.Kind.TheVariants.{Confirm, Pair, Reserve}
use Rattle.listing.specs.Lines.{occurrences}
use Rattle.listing.specs.Listing.{name, heading, letter, joined, line_at, listing_of, refused_text}
use Rattle.listing.proofs.Lines.{digits_free}

-- two texts begin with pieces that end at their first c: the pieces are the same, and so is what follows
until : (c : ℕ) (s s' : List ℕ) {t t' : List ℕ} → occurrences c s ≡ 0 → occurrences c s' ≡ 0 → s ++ c ∷ t ≡ s' ++ c ∷ t' → (s ≡ s') × (t ≡ t')
unfolding occurrences
until c [] [] p q e = (refl, cc)
until c [] (y ∷ s') p q e = absurd (let z = rw (eq-eqb y c (cc)) at q in omega arith)
until c (x ∷ s) [] p q e = absurd (let z = rw (eq-eqb x c (cc)) at p in omega arith)
until c (x ∷ s) (y ∷ s') {t} {t'} p q e =
    let r = until c s s' {t = t} {t' = t'} (omega arith) (omega arith) (cc) in
    (cc, r.1)

-- digits end at a space or a newline
hex_until : (c : ℕ) → c < 48 → {v w : ℕ} {t t' : List ℕ} → v < 2 ^ 32 → w < 2 ^ 32 → hex8 v ++ c ∷ t ≡ hex8 w ++ c ∷ t' → (v ≡ w) × (t ≡ t')
hex_until c l {v} {w} h k e =
    let r = until c (hex8 v) (hex8 w) (digits_free c l 16 8 v) (digits_free c l 16 8 w) e in
    (hex_inj v w h k r.0, r.1)

decimal_until : (c : ℕ) → c < 48 → {n m : ℕ} {t t' : List ℕ} → n < 2 ^ 32 → m < 2 ^ 32 → decimal n ++ c ∷ t ≡ decimal m ++ c ∷ t' → (n ≡ m) × (t ≡ t')
decimal_until c l {n} {m} h k e =
    let r = until c (decimal n) (decimal m) (digits_free c l 10 (places n) n) (digits_free c l 10 (places m) m) e in
    (decimal_inj n m h k r.0, r.1)

pub line_inj :
    (k : ℕ) {word mark last word' mark' last' : ℕ} → word < 2 ^ 32 → word' < 2 ^ 32 → last < 2 ^ 32 → last' < 2 ^ 32
    → line k word mark last ≡ line k word' mark' last' → (word ≡ word') × (mark ≡ mark') × (last ≡ last')
unfolding line bytes
line_inj k h h' l l' e =
    let numbered = append_cancel_left (decimal k) _ _ (simp append_assoc at e) in
    let words = hex_until 32 (omega arith) h h' (tail-eq_of_cons-eq numbered) in
    let lasts = hex_until 10 (omega arith) {t = []} {t' = []} l l' (cc) in
    (words.0, cc, lasts.0)

-- what a letter stands for
abbrev unletter : ℕ → ℕ
unletter c = if eqb c (code "H") then 1 else if eqb c (code "!") then 2 else 0

letter_read : (kind : Kind) (mark : ℕ) → mark ≤ 2 → unletter (letter kind mark) ≡ mark
letter_read Confirm zero h = refl
letter_read Pair zero h = refl
letter_read Reserve zero h = refl
letter_read kind (suc zero) h = refl
letter_read kind (suc (suc zero)) h = refl
letter_read kind (suc (suc (suc m))) h = absurd (omega arith)

pub letter_inj : (kind : Kind) (mark mark' : ℕ) → mark ≤ 2 → mark' ≤ 2 → letter kind mark ≡ letter kind mark' → mark ≡ mark'
letter_inj kind mark mark' h h' e = sym (letter_read kind mark h) ∙ ap unletter e ∙ letter_read kind mark' h'

-- two texts end with pieces of one length: the pieces are the same, and so is what is before
apart : (s s' t t' : List ℕ) → length t ≡ length t' → s ++ t ≡ s' ++ t' → (s ≡ s') × (t ≡ t')
apart s s' t t' l e =
    let long : length s ≡ length s' = omega (arith, simp length-append at (ap length e)) in (
      sym (take_at s t (length s') long) ∙ ap (take (length s')) e ∙ take_at s' t' (length s') refl,
      sym (drop_at s t (length s') long) ∙ ap (drop (length s')) e ∙ drop_at s' t' (length s') refl,
    )

module _ (f g : ℕ → List ℕ) (alike : (i : ℕ) → length (f i) ≡ length (g i)) where
  joined_inj : (n : ℕ) → joined n f ≡ joined n g → (i : ℕ) → i < n → f i ≡ g i
  unfolding joined
  joined_inj zero e i l = absurd (omega (arith, l))
  joined_inj (suc n) e i l =
      let r = apart (joined n f) (joined n g) (f n) (g n) (alike n) e in
      ⊎_elim (λ q. rw q r.1) (λ q. joined_inj n r.0 i q) (eq-or-lt_of_le (le_of_suc-le-suc l))

-- the kind whose name begins with a letter
abbrev kind_of : ℕ → Kind
kind_of c = if eqb c (code "c") then Confirm else if eqb c (code "p") then Pair else Reserve

kind_read : (kind : Kind) → kind_of (get_or (bytes (name kind)) 0 0) ≡ kind
unfolding bytes
kind_read Confirm = refl
kind_read Pair = refl
kind_read Reserve = refl

kind_inj : (kind kind' : Kind) → bytes (name kind) ≡ bytes (name kind') → kind ≡ kind'
kind_inj kind kind' e = sym (kind_read kind) ∙ ap (λ (s : List ℕ). kind_of (get_or s 0 0)) e ∙ kind_read kind'

one_word : (kind : Kind) → occurrences 32 (bytes (name kind)) ≡ 0
unfolding bytes occurrences
one_word Confirm = refl
one_word Pair = refl
one_word Reserve = refl

-- the first line ends at the first newline, and reads back
pub heading_inj :
    (kind kind' : Kind) {samples n need samples' n' need' : ℕ} {t t' : List ℕ}
    → samples < 2 ^ 32 → samples' < 2 ^ 32 → n < 2 ^ 32 → n' < 2 ^ 32 → need < 2 ^ 32 → need' < 2 ^ 32
    → heading kind samples n need ++ t ≡ heading kind' samples' n' need' ++ t'
    → (kind ≡ kind') × (samples ≡ samples') × (n ≡ n') × (need ≡ need') × (t ≡ t')
unfolding heading bytes
heading_inj kind kind' a a' b b' c c' e =
    let named = until 32 (bytes (name kind)) (bytes (name kind')) (one_word kind) (one_word kind') (simp append_assoc at e) in
    let counted = decimal_until 32 (omega arith) a a' named.1 in
    let wide = decimal_until 32 (omega arith) b b' counted.1 in
    let needed = decimal_until 10 (omega arith) c c' wide.1 in
    (kind_inj kind kind' named.0, counted.0, wide.0, needed.0, needed.1)

-- what a listing tells: its first line, and a word, a mark and a last field for each sample
pub record Answers : Type 0 where
  pub kind : Kind
  pub n : ℕ
  pub need : ℕ
  pub words : List ℕ
  pub marks : List ℕ
  pub lasts : List ℕ

abbrev pub listed : Answers → List ℕ
listed a = listing_of a.kind a.n a.need a.words a.marks a.lasts

-- as a run gives it: numbers of 32 bits, and one of the three marks
pub record Listable (a : Answers) : Type 0 where
  pub n_in : a.n < 2 ^ 32
  pub need_in : a.need < 2 ^ 32
  pub samples_in : length a.words < 2 ^ 32
  pub marks_long : length a.marks ≡ length a.words
  pub lasts_long : length a.lasts ≡ length a.words
  pub words_in : (i : ℕ) → i < length a.words → get_or a.words i 0 < 2 ^ 32
  pub marks_in : (i : ℕ) → i < length a.words → get_or a.marks i 0 ≤ 2
  pub lasts_in : (i : ℕ) → i < length a.words → get_or a.lasts i 0 < 2 ^ 32

-- two tables tell the same of sample i
abbrev Alike : Answers → Answers → ℕ → Type 0
Alike a b i = (get_or a.words i 0 ≡ get_or b.words i 0) × (get_or a.marks i 0 ≡ get_or b.marks i 0) × (get_or a.lasts i 0 ≡ get_or b.lasts i 0)

-- THE LISTING READS BACK: it is the text of one table of answers only
pub listing_inj : (a b : Answers) → Listable a → Listable b → listed a ≡ listed b → a ≡ b
unfolding listing_of
listing_inj a b p q e =
    let head = heading_inj a.kind b.kind p.samples_in q.samples_in p.n_in q.n_in p.need_in q.need_in e in
    let here : ℕ → List ℕ = line_at a.kind a.words a.marks a.lasts in
    let there : ℕ → List ℕ = line_at a.kind b.words b.marks b.lasts in
    let lines : joined (length a.words) here ≡ joined (length a.words) there = head.4 ∙ rw (← head.0, ← head.1) in
    let each : (i : ℕ) → i < length a.words → Alike a b i =
    λ i l.
    let m : i < length b.words = rw head.1 at l in
    let same = joined_inj here there (λ j. line_length j _ _ _ ∙ sym (line_length j _ _ _)) (length a.words) lines i l in
    let r = line_inj i (p.words_in i l) (q.words_in i m) (p.lasts_in i l) (q.lasts_in i m) same in
    (r.0, letter_inj a.kind _ _ (p.marks_in i l) (q.marks_in i m) r.1, r.2)
    in
    let words = ext_get_or 0 a.words b.words head.1 (λ i l. (each i l).0) in
    let marks = ext_get_or 0 a.marks b.marks (cc) (λ i l. (each i (omega arith)).1) in
    let lasts = ext_get_or 0 a.lasts b.lasts (cc) (λ i l. (each i (omega arith)).2) in
    λ i. record { kind = head.0 i; n = head.2 i; need = head.3 i; words = words i; marks = marks i; lasts = lasts i }

-- a refusal's line reads back too
pub refused_inj :
    {number sample number' sample' : ℕ} → number < 2 ^ 32 → number' < 2 ^ 32 → sample < 2 ^ 32 → sample' < 2 ^ 32
    → refused_text number sample ≡ refused_text number' sample' → (number ≡ number') × (sample ≡ sample')
unfolding refused_text bytes
refused_inj h h' l l' e =
    let numbers = decimal_until 32 (omega arith) h h' (append_cancel_left (bytes "refused ") _ _ (simp append_assoc at e)) in
    let samples = decimal_until 10 (omega arith) l l' (append_cancel_left (bytes "at ") _ _ numbers.1) in
    (numbers.0, samples.0)

-- and it is no listing: the third letter of `refused` is that of no kind's name
pub refused_apart : (number sample : ℕ) (a : Answers) → refused_text number sample ≡ listed a → ⊥
unfolding refused_text listing_of heading bytes
refused_apart number sample a e = go a.kind (ap (λ (s : List ℕ). get_or s 2 0) e) where
  go : (kind : Kind) → code "f" ≡ get_or (listing_of kind a.n a.need a.words a.marks a.lasts) 2 0 → ⊥
  go Confirm e = omega arith
  go Pair e = omega arith
  go Reserve e = omega arith
