-- An accepted recording: every test is false, so every sample is inside the width. A refused one shows a header of zeros, which
-- fills no place.
use mathlib.Core.Path.{◌≡◌, refl, sym, ap, ◌∙◌}
use mathlib.Core.List.{List, ◌++◌}
use mathlib.Core.Bool.{Bool, true, false}
use Prim.Native.Nat.{ℕ}
use lib.Dec.{eqb}
use lib.ListN.{length, drop}
use Rattle.std.specs.Prelude.{if◌then◌else◌, Err}
use Rattle.rules.specs.Signals.{as_list}
use Rattle.rules.specs.Refusal.{refusal_of}
use Rattle.rules.specs.Table.{first, numbered, known}
use Rattle.rules.proofs.Ranges.{same}
use Rattle.rules.proofs.Signals.{places_none}
use Rattle.rules.proofs.Tables.{exactly, or_each}
use Rattle.trace.specs.Answers.{done, run_number, not_run}
use Rattle.trace.specs.Samples.{somewhere}
use Rattle.trace.specs.declared.Refused.{Refused}
use Rattle.recording.specs.declared.RecordingRead.{RecordingRead}
use Rattle.recording.specs.Recording.{header_of, sample_at, present, mislent, outside_at, numbers, shape_rows, rows_of, zeros, read_of, slice_after, Read}
use Rattle.recording.proofs.Answers.{read_exactly}
use Rattle.recording.proofs.Shapes.{Shaped, shaped}

pub record Accepted (lent : Bool) (s : List ℕ) : Type 0 where
  pub shape : Shaped lent s
  pub samples_in : somewhere (outside_at s (header_of s)) (numbers (header_of s)) ≡ false
  pub shown : (read_of lent s).header ≡ header_of s

module _ (lent : Bool) (s : List ℕ) where
  pub taken : (read_of lent s).answer ≡ done → Accepted lent s
  unfolding read_of numbered known refusal_of
  taken e =
      let g = (read_exactly lent s 0).0 (ap run_number e) in
      let early = (exactly (shape_rows lent s) refl 0).1 (g.0, (g.1.0, (g.1.1.0, (g.1.1.1.0, (g.1.1.1.1.0, (g.1.1.1.1.1.0, (g.1.1.1.1.1.1.0, refl))))))) in
      let none : first (rows_of lent s) ≡ 0 = (exactly (rows_of lent s) refl 0).1 g in
      record { shape = shaped lent s early; samples_in = g.1.1.1.1.1.1.1.0; shown = rw none }

  pub refused_zeros : (refused : Refused) → (read_of lent s).answer ≡ Err refused → (read_of lent s).header ≡ zeros
  unfolding read_of
  refused_zeros refused = go (eqb (first (rows_of lent s)) 0) _ where
    go :
        (b : Bool) (k : ℕ) → (if b then done else not_run k (refusal_of (first (rows_of lent s)))) ≡ Err refused
        → (if b then header_of s else zeros) ≡ zeros
    go true k e = absurd (cc)
    go false k e = refl

-- a header of zeros fills no place
pub untouched : (s : List ℕ) (k : ℕ) (lent : List ℕ) → slice_after s zeros k lent ≡ lent
untouched s k lent = go (present 0 k) where
  go : (b : Bool) → ◌≡◌ {A = List ℕ} (as_list (if b then 0 else 0) (sample_at s 0 k) ++ drop (if b then 0 else 0) lent) lent
  go true = sym (places_none _ lent)
  go false = sym (places_none _ lent)

-- where 4 is not given, each slice has 2,048 places
pub full :
    (times one two three four : List ℕ) → mislent times one two three four ≡ false
    → ((((length times ≡ 2048) × (length one ≡ 2048)) × (length two ≡ 2048)) × (length three ≡ 2048)) × (length four ≡ 2048)
full times one two three four = or_each (or_each (or_each (or_each (same _ _) (same _ _)) (same _ _)) (same _ _)) (same _ _)

-- so a refused recording is read by leaving every slice as it came
pub refused_read :
    (s times one two three four : List ℕ) (r : RecordingRead) (refused : Refused)
    → r ≡ read_of (mislent times one two three four) s
    → r.answer ≡ Err refused
    → Read s times one two three four r times one two three four
refused_read s times one two three four r refused e is =
    let shown = ap (λ (r : RecordingRead). r.answer) (sym e) ∙ is in
    let none : r.header ≡ zeros = rw e (refused_zeros (mislent times one two three four) s refused shown) in
    record {
      answered = e;
      times_after = rw none (sym (untouched s 0 times));
      one_after = rw none (sym (untouched s 1 one));
      two_after = rw none (sym (untouched s 2 two));
      three_after = rw none (sym (untouched s 3 three));
      four_after = rw none (sym (untouched s 4 four));
    }
