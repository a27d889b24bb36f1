-- `rules::admits` meets its contract: the shift tells whether the words are inside.
use Prim.Native.Nat.{◌^◌}
use native.Mathlib.Omega.{arith}
use mathlib.Core.Path.{sym, ◌∙◌}
use lib.Dec.{ltb}
use Rattle.rules.specs.Limits.{outside}
use Rattle.rules.proofs.Ranges.{width_range}
use Rattle.rules.proofs.OneTest.{no_width, with_width}
use Rattle.rules.proofs.Width.{shifted_out}
use Rattle.rules.proofs.admits.Goals as goal

pub returns-then-bad_width : goal.returns-then-bad_width
returns-then-bad_width c =
    let a = c.args in
    rw (← c.bad_width.ensures, c.if-bad_width.true) (no_width a.counts (outside a.n a.words))

pub overflow_shr-above : goal.overflow_shr-above
overflow_shr-above c = omega (arith, (width_range c.args.n (sym c.bad_width.ensures ∙ c.if-bad_width.false)).1)

pub returns : goal.returns
returns c =
    let a = c.args in
    rw (c.from.ensures, ← c.bad_width.ensures, c.if-bad_width.false, shifted_out a.n a.words) (with_width a.counts (ltb a.words (2 ^ a.n)))
