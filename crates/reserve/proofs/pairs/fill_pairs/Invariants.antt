-- `reserve::pairs::fill_pairs` meets its contract. The invariant: the places below i are told, and pair is the next.
use Rattle.trace.proofs.Fill.{Filled}
use Rattle.reserve.specs.Pairs.{told, told_pair, next_pair}
use Rattle.reserve.proofs.pairs.fill_pairs.Given as goal

abbrev pub invariant-loop-i : goal.invariant-loop-i
invariant-loop-i l = Filled told next_pair told_pair 1 l.marks l.pairs l.i l.pair
