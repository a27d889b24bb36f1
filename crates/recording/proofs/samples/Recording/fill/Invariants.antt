-- `recording::samples::Recording::fill` meets its contract. The invariant: the places below i hold the column.
use mathlib.Core.Path.{◌≡◌}
use mathlib.Core.List.{◌++◌}
use lib.ListN.{drop}
use Rattle.rules.specs.Signals.{as_list}
use Rattle.recording.specs.Recording.{sample_at}
use Rattle.recording.proofs.samples.Recording.fill.Given as goal

abbrev pub invariant-loop-i : goal.invariant-loop-i
invariant-loop-i l = l.out ≡ as_list l.i (sample_at l.self.bytes.now l.self.header.samples l.k) ++ drop l.i l.initial.out
