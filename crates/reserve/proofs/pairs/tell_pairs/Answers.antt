-- `reserve::pairs::tell_pairs` meets its contract: the pairs are filled in where the lengths are the same.
use borrow.Author.Tests.{eq-eqb, ne_eqb}
use Rattle.reserve.specs.Pairs.{pairs_in}
use Rattle.reserve.proofs.pairs.tell_pairs.Goals as goal

pub returns-then-marks-pairs : goal.returns-then-marks-pairs
unfolding pairs_in
returns-then-marks-pairs c = rw (eq-eqb _ _ c.if-marks-pairs.true) c.fill_pairs.ensures

pub returns-else-marks-pairs : goal.returns-else-marks-pairs
unfolding pairs_in
returns-else-marks-pairs c = rw (ne_eqb _ _ c.if-marks-pairs.false)
