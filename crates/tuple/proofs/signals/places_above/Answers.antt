-- `tuple::signals::places_above` meets its contract. The invariant: the places below i are told.
use mathlib.Core.Path.{◌≡◌, ap₂, ◌∙◌}
use native.Mathlib.Omega.{arith}
use lib.Dec.{ltb}
use lib.ListN.{get_or}
use lib.Bits.{bit_or}
use Rattle.rules.proofs.Signals.{word_none}
use Rattle.tuple.proofs.Ones.{one_placed, in_front}
use Rattle.tuple.proofs.TwoWords.{beyond, beyond_small}
use Rattle.tuple.proofs.signals.places_above.Goals as goal

pub loop-i-init : goal.loop-i-init
loop-i-init c = word_none _

pub loop-i-preserved : goal.loop-i-preserved
loop-i-preserved c =
    let i = c.loop-i.i in
    let f = beyond c.args.limit c.args.counts.now in
    ap₂ bit_or c.loop-i.invariant (rw c.from.ensures (one_placed (ltb c.args.limit (get_or c.args.counts.now i 0)) i c.loop-i-test.true)) ∙ in_front f (beyond_small _ _) i

pub returns : goal.returns
returns c = let e : c.loop-i.i ≡ 32 = omega arith in c.loop-i.invariant ∙ rw e
