-- The reader's answer, as code finds it, and when each number is given: exactly when the recording's own order says so.
use mathlib.Core.Path.{◌≡◌, refl, sym, ap, ◌∙◌}
use mathlib.Core.Logic.{◌↔◌}
use mathlib.Core.List.{List}
use mathlib.Core.Bool.{Bool, true, false}
use Prim.Native.Nat.{ℕ}
use Rattle.std.specs.Prelude.{Some, None, Ok, Err, if◌then◌else◌}
use Rattle.std.proofs.lemmas.Option.{cond_some, none-some}
use Rattle.rules.specs.declared.refusal.Refusal.{Refusal}
use Rattle.rules.specs.declared.refusal.Refusal.TheVariants.{Sample}
use Rattle.rules.specs.Refusal.{refusal_of, told}
use Rattle.rules.specs.Table.{first, Given, numbered, known, or_else}
use Rattle.rules.proofs.Tables.{told_err, refuses, exactly_when, upper}
use Rattle.trace.specs.Answers.{done, at_once, run_number, run_sample, not_run}
use Rattle.trace.specs.Samples.{first_where, somewhere, Smallest}
use Rattle.trace.proofs.Runs.{early_row_refuses, samples_number, sample_told}
use Rattle.recording.specs.Recording.{header_of, outside_at, first_outside, numbers, shape_rows, rows_of, zeros, refused_at, read_as, read_of}

cond_none : (b : Bool) (k : ℕ) → (if b then Some k else None) ≡ None → b ≡ false
cond_none true k e = absurd (none-some k (sym e))
cond_none false k e = refl

module _ (lent : Bool) (s : List ℕ) where
  pub refused_early : {refusal : Refusal} → told (first (shape_rows lent s)) ≡ Err refusal → refused_at (at_once refusal) ≡ read_of lent s
  unfolding read_of numbered known refusal_of
  refused_early {refusal} e =
      let number : first (rows_of lent s) ≡ first (shape_rows lent s) = upper (shape_rows lent s) _ refl (told_err e).0 in
      cc (
        refuses (λ (r : Refusal). zeros) (header_of s) _ (ap told number ∙ e),
        early_row_refuses (shape_rows lent s) refl refl (outside_at s (header_of s)) (numbers (header_of s)) e,
      )

  module _ (e : first (shape_rows lent s) ≡ 0) where
    decided : first (rows_of lent s) ≡ or_else 0 6 (somewhere (outside_at s (header_of s)) (numbers (header_of s)))
    unfolding numbered
    decided = samples_number (shape_rows lent s) refl (outside_at s (header_of s)) (numbers (header_of s)) e

    pub sample_refused : {k : ℕ} → first_outside s (header_of s) ≡ Some k → refused_at (record { refusal = Sample; sample = k }) ≡ read_of lent s
    unfolding read_of refusal_of
    sample_refused {k} f = let there = cond_some _ _ k f in rw (decided, there.0, there.1)

    pub accepted : first_outside s (header_of s) ≡ None → read_as (Ok (header_of s)) ≡ read_of lent s
    unfolding read_of
    accepted f = rw (decided, cond_none _ _ f)

  pub read_exactly : (k : ℕ) → (run_number (read_of lent s).answer ≡ k) ↔ Given k (rows_of lent s)
  unfolding read_of known refusal_of
  read_exactly = exactly_when run_number (rows_of lent s) (not_run (first_where (outside_at s (header_of s)) (numbers (header_of s)))) done refl (λ r. refl) refl

  -- 6 comes with the smallest sample outside the width, and any other number with sample 0
  pub read_six : run_number (read_of lent s).answer ≡ 6 → Smallest (outside_at s (header_of s)) (numbers (header_of s)) (run_sample (read_of lent s).answer)
  unfolding read_of known refusal_of
  read_six = (sample_told (shape_rows lent s) refl refl (outside_at s (header_of s)) (numbers (header_of s))).0

  pub read_others : (run_number (read_of lent s).answer ≡ 6 → ⊥) → run_sample (read_of lent s).answer ≡ 0
  unfolding read_of known refusal_of
  read_others = (sample_told (shape_rows lent s) refl refl (outside_at s (header_of s)) (numbers (header_of s))).1
