-- `tuple::signals::places_above` meets its contract. The invariant: the places below i are told.
use mathlib.Core.Path.{◌≡◌}
use Rattle.rules.specs.Signals.{as_word}
use Rattle.tuple.proofs.TwoWords.{beyond}
use Rattle.tuple.proofs.signals.places_above.Given as goal

abbrev pub invariant-loop-i : goal.invariant-loop-i
invariant-loop-i l = l.places ≡ as_word l.i (beyond l.limit l.counts)
