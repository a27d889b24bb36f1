-- `tuple::signals::step_voters` meets its contract: a word has no signal above the last place, and any voter may wait.
use mathlib.Core.Path.{sym}
use mathlib.Core.Bool.{false≢true}
use native.Mathlib.Omega.{arith}
use Rattle.tuple.proofs.signals.step_voters.Goals as goal

pub step_sample-requires : goal.step_sample-requires
step_sample-requires c = record {
  n_bound = omega arith;
  resting = record { above = λ k l m. absurd (omega (arith, l, m)); rest = λ e. absurd (false≢true (sym e)) };
}
