-- The table of a step, where it gives no number: what is known then, and that the step is the clauses.
use mathlib.Core.Path.{◌≡◌, sym}
use mathlib.Core.Logic.{◌↔◌}
use mathlib.Core.Bool.{◌||◌}
use Prim.Native.Nat.{ℕ, ◌≤◌}
use Rattle.rules.specs.Limits.{outside}
use Rattle.rules.specs.Table.{first}
use Rattle.rules.proofs.Ranges.{width_range}
use Rattle.rules.proofs.Readings.{Steps, step_0}
use Rattle.rules.proofs.Tables.{works}
use Rattle.tuple.specs.declared.Tuple.{Tuple}
use Rattle.tuple.specs.Tuple.{width, miscounted, bad_state, clauses, rows_of, not_taken, step_of}

module _ (s : Tuple) (a b : ℕ) where
  -- it gives none exactly when each of its tests is false
  pub none_given : (first (rows_of s a b) ≡ 0) ↔ Steps (miscounted s) (width s) (outside (width s) a || outside (width s) b) (bad_state s)
  none_given = step_0 (miscounted s) (width s) (outside (width s) a || outside (width s) b) (bad_state s)

  module _ (e : first (rows_of s a b) ≡ 0) where
    pub wide : width s ≤ 32
    wide = (width_range (width s) (none_given.0 e).wide).1

    pub taken : step_of s a b ≡ clauses s a b
    unfolding step_of
    taken = sym (works (not_taken s) (clauses s a b) _ e)
