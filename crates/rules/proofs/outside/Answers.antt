-- `rules::outside` meets its contract: a width of 32 or more holds every word, and the shift loses exactly the bits below n.
use mathlib.Core.Path.{sym}
use Rattle.rules.proofs.Width.{every_word_lem, shifted_out}
use Rattle.rules.proofs.outside.Goals as goal

pub returns-then-n-ge-WIDTH : goal.returns-then-n-ge-WIDTH
returns-then-n-ge-WIDTH c = sym (every_word_lem _ _ c.if-n-ge-WIDTH.true c.ranges.w.fits)

pub returns-else-n-ge-WIDTH : goal.returns-else-n-ge-WIDTH
returns-else-n-ge-WIDTH c = simp (shifted_out c.args.n c.args.w)
