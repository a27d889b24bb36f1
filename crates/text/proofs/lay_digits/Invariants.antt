-- `text::lay_digits` meets its contract. The invariant: the first i digits, those of what is left, and what was written give the whole.
use mathlib.Core.Path.{◌≡◌}
use mathlib.Core.List.{◌++◌}
use lib.ListN.{length, drop}
use Rattle.text.specs.Text.{digits}
use Rattle.text.proofs.lay_digits.Given as goal

abbrev pub invariant-loop-i : goal.invariant-loop-i
invariant-loop-i g l = digits g.row.BASE l.i l.rest ++ drop l.i l.place ≡ digits g.row.BASE (length l.initial.place) l.initial.rest
