-- `vote::columns::take_steps` meets its contract. The invariant: the samples before i have been taken from the start.
use mathlib.Core.List.{zip}
use mathlib.Core.Bool.{false}
use Rattle.vote.specs.Parts.{lent, Taken}
use Rattle.vote.proofs.columns.take_steps.Given as goal

abbrev pub invariant-loop-i : goal.invariant-loop-i
invariant-loop-i l = Taken l.once l.initial.state (zip l.a l.b) (lent l.initial.words l.initial.marks l.initial.which) l.i l.state false (lent l.words l.marks l.which)
