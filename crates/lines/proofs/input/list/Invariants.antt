-- `input::list` stays within the slice.
use Rattle.std.proofs.Common.{◌≤◌, length}
use Rattle.lines.proofs.input.list.Given as goal

abbrev pub invariant-loop : goal.invariant-loop
invariant-loop g l = l.at ≤ length l.into
