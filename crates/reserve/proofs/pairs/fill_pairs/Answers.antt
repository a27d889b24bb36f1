-- `reserve::pairs::fill_pairs` meets its contract. The invariant: the places below i are told, and pair is the next.
use mathlib.Core.Path.{refl, sym}
use lib.ListN.{get_or}
use Rattle.trace.proofs.Fill.{turn, filled}
use Rattle.reserve.specs.Pairs.{told, told_pair, next_pair}
use Rattle.reserve.proofs.pairs.fill_pairs.Goals as goal

pub loop-i-init : goal.loop-i-init
loop-i-init c = (sym c.requires, refl)

pub loop-i-preserved : goal.loop-i-preserved
loop-i-preserved c =
    let l = c.loop-i in
    let t = told l.pair (get_or c.args.marks.now l.i 0) in
    rw c.next_pair-pair.ensures (turn told next_pair told_pair 1 _ _ _ l.pair 0 t _ refl refl c.loop-i-test.true l.invariant)

pub returns : goal.returns
returns c = filled told next_pair told_pair 1 _ _ _ _ c.loop-i-test.false c.loop-i.invariant
