-- `Sizing::sized` meets its contract: where nothing is refused the numbers fit by far.
use Prim.Native.Nat.{◌≤◌}
use native.Mathlib.Omega.{arith}
use Rattle.sizing.proofs.Counts.{Sized, ranges, Room, room}
use Rattle.sizing.proofs.Sizing.sized.Goals as goal
use Rattle.sizing.proofs.Sizing.sized.Goals.{After-count_of-need}

module _ (c : After-count_of-need) where
  known : let a = c.args in Sized a.n a.least_gap a.greatest_gap a.delay
  known = ranges _ _ _ _ c.requires

  record Fits : Type 0 where
    products : Room c.from-width.result c.count_of-need.result c.from-gap.result
    need : c.count_of-need.result ≤ 1000
    late : c.from-late.result ≤ 10000000

  fits : Fits
  fits =
      let k = known in
      let n : c.from-width.result ≤ 32 = omega (arith, k.width, c.from-width.ensures) in
      let need : c.count_of-need.result ≤ 1000 = omega (arith, k.count, c.count_of-need.ensures) in
      let gap : c.from-gap.result ≤ 1000000 = omega (arith, k.greatest, c.from-gap.ensures) in
      record { products = room _ _ _ n need gap; need = need; late = omega (arith, k.delay, c.from-late.ensures) }

pub overflow_mul-samples : goal.overflow_mul-samples
overflow_mul-samples c = omega (arith, fits c.before)

pub overflow_mul-age : goal.overflow_mul-age
overflow_mul-age c = omega (arith, fits c.before)

pub overflow_add-age : goal.overflow_add-age
overflow_add-age c = omega (arith, fits c.before)

pub overflow_add-quiet : goal.overflow_add-quiet
overflow_add-quiet c = omega (arith, fits c.before)

pub overflow_mul-quiet : goal.overflow_mul-quiet
overflow_mul-quiet c = omega (arith, fits c.before)

pub overflow_add-quiet-2 : goal.overflow_add-quiet-2
overflow_add-quiet-2 c = omega (arith, fits c.before)

pub overflow_cast-need : goal.overflow_cast-need
overflow_cast-need c = omega (arith, fits c.before)

pub overflow_cast-votes : goal.overflow_cast-votes
overflow_cast-votes c = omega (arith, known c.before, c.votes_of-votes.ensures)
