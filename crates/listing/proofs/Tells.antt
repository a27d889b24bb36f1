-- The text of a recording tells how it was read and what its run answered: recordings that differ in either have two texts.
use mathlib.Core.Path.{◌≡◌, refl, sym, ap, ◌∙◌, ap₂}
use mathlib.Core.Bool.{Bool, true, false}
use mathlib.Core.List.{List, zip}
use mathlib.Core.Logic.{⊎_elim}
use Prim.Native.Nat.{ℕ, ◌≤◌}
use native.Mathlib.Omega.{arith}
use lib.Dec.{eqb}
use borrow.Author.Tests.{ltb-false, eqb-true, eqb-false, eq-eqb, ne_eqb}
use Rattle.std.specs.Prelude.{if◌then◌else◌}
use Rattle.rules.specs.Limits.{bad_count, outside}
use Rattle.rules.specs.Table.{known}
use Rattle.rules.proofs.Readings.{Makes}
use Rattle.rules.proofs.Signals.{list_length}
use Rattle.rules.proofs.Tables.{own_number, all_up_to, first_most, number_tells}
use Rattle.trace.specs.Answers.{run_number, run_sample, not_run}
use Rattle.trace.specs.Samples.{first_where, outside_four}
use Rattle.trace.specs.Answers.{RunResult}
use Rattle.rules.specs.Refusal.{number}
use Rattle.std.specs.Prelude.{Ok, Err}
use Rattle.rules.specs.Refusal.{refusal_of}
use Rattle.trace.specs.declared.Refused.{Refused}
use Rattle.trace.specs.Answers.{done, refused}
use Rattle.trace.proofs.Samples.{nowhere}
use Rattle.confirm.specs.Confirm as confirm
use Rattle.confirm.specs.Run as confirm_run
use Rattle.confirm.proofs.Stepwise as confirm_steps
use Rattle.tuple.specs.Tuple as tuple
use Rattle.tuple.specs.Run as tuple_run
use Rattle.tuple.proofs.OneCount.{same_count}
use Rattle.tuple.proofs.Sound as tuple_sound
use Rattle.vote.proofs.Stepwise as vote_steps
use Rattle.reserve.specs.Reserve as reserve
use Rattle.reserve.specs.Run as reserve_run
use Rattle.reserve.specs.declared.Reserve.{Reserve as ReserveState}
use Rattle.reserve.proofs.Stepwise as reserve_steps
use Rattle.recording.specs.Recording.{header_of, outside_at, numbers, rows_of, read_of}
use Rattle.recording.specs.declared.Header.{Header}
use Rattle.recording.proofs.Answers.{read_exactly, read_six, read_others}
use Rattle.recording.proofs.Shapes.{one_two_four}
use Rattle.recording.proofs.Taken.{Accepted, taken}
use Rattle.listing.specs.declared.Kind.TheVariants.{Confirm, Pair, Reserve}
use Rattle.listing.specs.Listing.{pair_steps, units_text, unit, text_of}
use Rattle.listing.specs.Runnable.{Column, Runnable}
use Rattle.listing.proofs.Accepts.{four_in}
use Rattle.listing.proofs.Columns.{runnable, column}
use Rattle.listing.proofs.ReadBack.{Answers, Listable, listed, listing_inj, refused_inj, refused_apart}
use Rattle.listing.proofs.Shown.{two_long, four_long}
use Rattle.listing.proofs.Steps.{table, confirm_tells, tuple_tells, reserve_tells, run_listable}
use Rattle.listing.proofs.Texts.{accepted_text, refused_text_lem}

-- what the listing of a recording's units tells: of one unit its confirmation, of two the tuple vote, of four the reserve vote
abbrev pub confirm_table : Header → List ℕ → Answers
confirm_table h one =
    table h Confirm confirm_run.shown_word confirm_run.shown_mark confirm_run.shown_count (confirm_run.steps (confirm.fresh h.n h.need h.word) one)

abbrev pub pair_table : Header → List ℕ → List ℕ → Answers
pair_table h one two =
    table h Pair tuple_run.shown_word tuple_run.shown_mark tuple_run.shown_mask (pair_steps h.n h.need h.word one two)

abbrev pub reserve_table : Header → List ℕ → List ℕ → List ℕ → List ℕ → Answers
reserve_table h one two three four =
    table h Reserve reserve_run.shown_word reserve_run.shown_mark reserve_run.shown_pair (reserve_run.steps (reserve.fresh h.n h.need h.word) (reserve_run.samples_of one two three four))

abbrev pub units_table : Header → List ℕ → List ℕ → List ℕ → List ℕ → Answers
units_table h one two three four =
    if eqb h.units 1 then confirm_table h one else
    if eqb h.units 2 then pair_table h one two else
    reserve_table h one two three four

units_listed : (h : Header) (one two three four : List ℕ) → units_text h one two three four ≡ listed (units_table h one two three four)
units_listed h one two three four = go (eqb h.units 1) (eqb h.units 2) where
  go :
      (p q : Bool)
      → (if p then listed (confirm_table h one) else if q then listed (pair_table h one two) else listed (reserve_table h one two three four))
      ≡ listed (if p then confirm_table h one else if q then pair_table h one two else reserve_table h one two three four)
  go true q = refl
  go false true = refl
  go false false = refl

-- the table of a recording
abbrev pub table_of : List ℕ → Answers
table_of s = let h = header_of s in units_table h (unit s h 1) (unit s h 2) (unit s h 3) (unit s h 4)

module _ (s : List ℕ) (done : (read_of false s).answer ≡ done) where
  abbrev h : Header
  h = header_of s

  ok : Accepted false s
  ok = taken false s done

  run : Runnable h
  run = runnable s ok

  made : Makes (bad_count h.need) h.n h.word
  made = record { counted = run.counted; wide = run.wide; word_in = run.word_in }

  one_listable : (x : Column h (unit s h 1)) → Listable (confirm_table h (unit s h 1))
  one_listable x =
      run_listable confirm.clauses confirm_run.leaves (confirm_steps.Sound h.n) (λ (w : ℕ). outside h.n w ≡ false) (confirm_steps.sound_next h.n) 0
      h run Confirm confirm_run.shown_word confirm_run.shown_mark confirm_run.shown_count (confirm_tells h.n)
      (confirm.fresh h.n h.need h.word) (unit s h 1) (confirm_steps.fresh_sound h.n h.need h.word made) (nowhere (outside h.n) (unit s h 1) 0 x.inside) x.whole

  two_listable : (x : Column h (unit s h 1)) (y : Column h (unit s h 2)) → Listable (pair_table h (unit s h 1) (unit s h 2))
  two_listable x y =
      run_listable tuple_run.stepped tuple_run.leaves (tuple_sound.Sound h.n) (λ (w : ℕ × ℕ). Unit {0}) (λ t w g f. tuple_sound.sound_next h.n t g w.0 w.1) (0, 0)
      h run Pair tuple_run.shown_word tuple_run.shown_mark tuple_run.shown_mask (λ t w g f. tuple_tells h.n t w.0 w.1 g)
      (tuple.fresh h.n h.need h.need h.word) (zip (unit s h 1) (unit s h 2)) (tuple_sound.fresh_sound h.n h.need h.need h.word (rw (same_count h.need) made)) (λ i l. tt) (two_long (unit s h 1) (unit s h 2) x.whole y.whole)

  four_listable :
      (units : (Column h (unit s h 1)) × (Column h (unit s h 2)) × (Column h (unit s h 3)) × (Column h (unit s h 4)))
      → Listable (reserve_table h (unit s h 1) (unit s h 2) (unit s h 3) (unit s h 4))
  four_listable units =
      let xs = reserve_run.samples_of (unit s h 1) (unit s h 2) (unit s h 3) (unit s h 4) in
      run_listable reserve_run.stepped reserve_run.leaves (λ (t : ReserveState). vote_steps.Sound h.n t.vote) (λ (w : reserve_run.Sample). outside_four h.n w ≡ false) (reserve_steps.sound_next h.n) ((0, 0), (0, 0))
      h run Reserve reserve_run.shown_word reserve_run.shown_mark reserve_run.shown_pair (reserve_tells h.n)
      (reserve.fresh h.n h.need h.word) xs
      (vote_steps.fresh_sound h.n h.need h.word made)
      (nowhere (outside_four h.n) xs ((0, 0), (0, 0)) (four_in h run units))
      (four_long (unit s h 1) (unit s h 2) (unit s h 3) (unit s h 4) units.0.whole units.1.whole units.2.whole units.3.whole)

  pub table_listable : Listable (table_of s)
  table_listable = ⊎_elim by_one (⊎_elim by_two by_four) (one_two_four h.units ok.shape.head.units_known) where
    by_one : h.units ≡ 1 → Listable (table_of s)
    by_one e = rw (eq-eqb h.units 1 e) (one_listable (column s ok 0 (omega arith)))

    by_two : h.units ≡ 2 → Listable (table_of s)
    by_two e = rw (ne_eqb h.units 1 (λ q. omega arith), eq-eqb h.units 2 e) (two_listable (column s ok 0 (omega arith)) (column s ok 1 (omega arith)))

    by_four : h.units ≡ 4 → Listable (table_of s)
    by_four e =
        rw (ne_eqb h.units 1 (λ q. omega arith), ne_eqb h.units 2 (λ q. omega arith))
        (four_listable (column s ok 0 (omega arith), column s ok 1 (omega arith), column s ok 2 (omega arith), column s ok 3 (omega arith)))

  pub text_listed : text_of s ≡ listed (table_of s)
  text_listed = accepted_text s ok done ∙ units_listed h (unit s h 1) (unit s h 2) (unit s h 3) (unit s h 4)

-- THE TEXT TELLS THE ANSWERS: accepted recordings of one text have one table
pub same_answers : (s s' : List ℕ) → (read_of false s).answer ≡ done → (read_of false s').answer ≡ done → text_of s ≡ text_of s' → table_of s ≡ table_of s'
same_answers s s' d d' e = listing_inj (table_of s) (table_of s') (table_listable s d) (table_listable s' d') (sym (text_listed s d) ∙ e ∙ text_listed s' d')

-- and no refused recording has the text of an accepted one
never_both : (s s' : List ℕ) (r : Refused) → (read_of false s).answer ≡ done → (read_of false s').answer ≡ Err r → text_of s ≡ text_of s' → ⊥
never_both s s' r d f e = refused_apart (number r.refusal) r.sample (table_of s) (sym (refused_text_lem s' r f) ∙ sym e ∙ text_listed s d)

-- so a refusal's number is 12 at the most; and its sample, where 6 is given, is one of few
module _ (s : List ℕ) (r : Refused) (refused : (read_of false s).answer ≡ Err r) where
  number_most : number r.refusal ≤ 12
  unfolding read_of all_up_to known refusal_of
  number_most =
      let own = own_number run_number (rows_of false s) (not_run (first_where (outside_at s (header_of s)) (numbers (header_of s)))) done refl (λ r. refl) refl in
      omega (arith, own, ap run_number refused, first_most 12 (rows_of false s) refl)

  sample_most : r.sample ≤ 2048
  sample_most = go (eqb (number r.refusal) 6) refl where
    go : (b : Bool) → eqb (number r.refusal) 6 ≡ b → r.sample ≤ 2048
    go true e =
        let six = ap run_number refused ∙ eqb-true (number r.refusal) 6 e in
        let few = ltb-false 2048 (header_of s).samples ((read_exactly false s 6).0 six).1.1.0 in
        omega (arith, (read_six false s six).there, list_length (λ i. i) (header_of s).samples, ap run_sample refused)
    go false e = omega (arith, read_others false s (λ six. eqb-false (number r.refusal) 6 e (sym (ap run_number refused) ∙ six)), ap run_sample refused)

-- refused recordings of one text are refused with one number, at one sample
same_refusal :
    (s s' : List ℕ) (r r' : Refused) → (read_of false s).answer ≡ Err r → (read_of false s').answer ≡ Err r'
    → text_of s ≡ text_of s' → (number r.refusal ≡ number r'.refusal) × (r.sample ≡ r'.sample)
same_refusal s s' r r' f f' e =
    refused_inj
    (omega (arith, number_most s r f)) (omega (arith, number_most s' r' f'))
    (omega (arith, sample_most s r f)) (omega (arith, sample_most s' r' f'))
    (sym (refused_text_lem s r f) ∙ e ∙ refused_text_lem s' r' f')

-- THE TEXT TELLS THE READING: recordings of one text are both accepted, or both refused with one number at one sample
pub same_reading : (s s' : List ℕ) → text_of s ≡ text_of s' → (read_of false s).answer ≡ (read_of false s').answer
same_reading s s' e = go (read_of false s).answer (read_of false s').answer refl refl where
  go : (a a' : RunResult) → (read_of false s).answer ≡ a → (read_of false s').answer ≡ a' → a ≡ a'
  go (Ok x) (Ok x') d d' = refl
  go (Ok x) (Err r) d f = absurd (never_both s s' r d f e)
  go (Err r) (Ok x) f d = absurd (never_both s' s r d f (sym e))
  go (Err r) (Err r') f f' =
      let q = same_refusal s s' r r' f f' e in
      let refusal : r.refusal ≡ r'.refusal = number_tells r.refusal r'.refusal q.0 in
      ap₂ refused refusal q.1
