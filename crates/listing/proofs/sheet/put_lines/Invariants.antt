-- `sheet::put_lines` meets its contract. The invariant: the lines below i are written.
use Rattle.listing.specs.Listing.{joined, line_at}
use Rattle.listing.specs.Runnable.{Adds}
use Rattle.listing.proofs.sheet.put_lines.Given as goal

abbrev pub invariant-loop-i : goal.invariant-loop-i
invariant-loop-i l = Adds l.initial.page l.page (joined l.i (line_at l.kind l.words l.marks l.lasts))
