-- `tuple::bad_counts` meets its contract.
use mathlib.Core.Bool.{◌||◌}
use mathlib.Core.Path.{ap₂}
use Rattle.tuple.proofs.bad_counts.Goals as goal

pub returns : goal.returns
returns c = ap₂ ◌||◌ c.bad_count.ensures c.bad_count-2.ensures
