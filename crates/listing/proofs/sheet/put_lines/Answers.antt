-- `sheet::put_lines` meets its contract: no line, and one more.
use mathlib.Core.Path.{refl}
use Rattle.listing.specs.Listing.{line_at}
use Rattle.listing.proofs.Joined.{joined_none, joined_more}
use Rattle.listing.proofs.Pages.{also}
use Rattle.listing.proofs.sheet.put_lines.Goals as goal

pub loop-i-init : goal.loop-i-init
loop-i-init c = record { same = refl; wrote = joined_none _ }

pub loop-i-preserved : goal.loop-i-preserved
loop-i-preserved c =
    let a = c.args in
    rw (joined_more (line_at a.kind a.words.now a.marks.now a.lasts.now) c.loop-i.i, ← c.letter.ensures) (also c.loop-i.invariant c.line.ensures)
