-- The invariant: each slice is written before i, and the samples from i on give the rest.
use Rattle.trace.proofs.Fill.{Filled, Goes}
use Rattle.confirm.specs.Confirm.{clauses}
use Rattle.confirm.specs.Run.{leaves, shown_word, shown_mark, shown_count}
use Rattle.confirm.proofs.blocks.take_steps.Given as goal

abbrev pub invariant-loop-i : goal.invariant-loop-i
invariant-loop-i l = Filled clauses leaves shown_word l.initial.state l.samples l.words l.i l.state
    × Filled clauses leaves shown_mark l.initial.state l.samples l.marks l.i l.state
    × Filled clauses leaves shown_count l.initial.state l.samples l.counts l.i l.state
    × Goes clauses leaves l.initial.state l.samples l.i l.state
