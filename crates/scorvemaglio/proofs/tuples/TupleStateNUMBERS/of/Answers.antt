-- `of`, of a tuple, meets its contract: what is copied is all that stands behind the first numbers.
use mathlib.Core.Path.{◌≡◌}
use native.Mathlib.Omega.{arith}
use borrow.Author.Rules.{rules}
use lib.ListN.{length, drop}
use Rattle.std.proofs.lemmas.List.{length-drop, take_all}
use Rattle.scorvemaglio.specs.States.{counts_at, tuple_length}
use Rattle.scorvemaglio.proofs.tuples.TupleStateNUMBERS.of.Goals as goal

pub returns : goal.returns
returns c =
    let numbers = c.args.s.now in
    let long : length numbers ≡ tuple_length = search rules in
    rw (c.copy_from_slice.ensures.after, take_all 32 (drop counts_at numbers) (omega (arith, length-drop counts_at numbers, long)))
