-- A sizing that is not refused: its numbers are the definition's, and its counts do what they are for.
use mathlib.Core.Path.{◌≡◌, refl, sym, ap, ◌∙◌}
use mathlib.Core.Bool.{false}
use Prim.Native.Nat.{ℕ, ◌-◌, ◌*◌, ◌≤◌, ◌<◌}
use native.Mathlib.Omega.{arith}
use borrow.Author.Tests.{ne_eqb, le-ltb}
use Rattle.rules.specs.Limits.{bad_count}
use Rattle.std.specs.Prelude.{None}
use Rattle.rules.specs.Refusal.{refusal_of, number_in}
use Rattle.rules.specs.Table.{first, known}
use Rattle.rules.proofs.Tables.{own_number}
use Rattle.sizing.specs.declared.Sizing.{Sizing}
use Rattle.sizing.specs.Sizing.{size_rows, not_sized, sized, sizing_of}
use Rattle.sizing.proofs.Counts.{enough, votes_enough, Sized, ranges}

-- N·Tm > D for confirmation, (V-1)·Tm ≥ D for votes, and every voter takes both: none refuses them with 1
pub record Serves (tm d : ℕ) (z : Sizing) : Type 0 where
  pub for_confirmation : d < z.need * tm
  pub for_votes : d ≤ (z.votes - 1) * tm
  pub count_taken : bad_count z.need ≡ false
  pub votes_taken : bad_count z.votes ≡ false

count_fits : (c : ℕ) → 1 ≤ c → c ≤ 1000 → bad_count c ≡ false
count_fits c some few = rw (ne_eqb c 0 (λ e. omega arith)) (le-ltb 1000 c few)

module _ (n tm tM d : ℕ) (taken : (sizing_of n tm tM d).refusal ≡ None) where
  none_refused : first (size_rows n tm tM d) ≡ 0
  unfolding sizing_of known refusal_of
  none_refused =
      sym (own_number (λ (z : Sizing). number_in z.refusal) (size_rows n tm tM d) not_sized (sized n tm tM d) refl (λ r. refl) refl) ∙ ap number_in taken

  its_ranges : Sized n tm tM d
  its_ranges = ranges n tm tM d none_refused

  pub its_numbers : sizing_of n tm tM d ≡ sized n tm tM d
  unfolding sizing_of
  its_numbers = rw none_refused

  pub serves : Serves tm d (sizing_of n tm tM d)
  serves =
      let r = its_ranges in
      rw its_numbers (record {
        for_confirmation = enough tm d r.gap;
        for_votes = votes_enough tm d r.gap;
        count_taken = count_fits _ (omega arith) r.count;
        votes_taken = count_fits _ (omega arith) r.votes;
      })
