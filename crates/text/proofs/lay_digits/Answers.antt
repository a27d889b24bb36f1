-- `text::lay_digits` meets its contract.
use mathlib.Core.Path.{◌≡◌}
use native.Mathlib.Omega.{arith}
use Rattle.text.specs.Text.{digits}
use Rattle.text.proofs.Digits.{store_digit}
use Rattle.text.proofs.lay_digits.Goals as goal

pub loop-i-preserved : goal.loop-i-preserved
loop-i-preserved g c =
    let l = c.loop-i in
    store_digit g.row.BASE l.i l.rest c.glyph.result l.place _ (omega arith) (omega arith) c.glyph.ensures l.invariant

pub returns : goal.returns
unfolding digits
returns g c =
    let none : c.loop-i.i ≡ 0 = omega arith in
    rw none at c.loop-i.invariant
