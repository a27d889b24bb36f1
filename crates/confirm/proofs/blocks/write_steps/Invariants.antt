-- The invariant: each slice is written for the blocks before this one, and the samples from it on give the rest.
use Prim.Native.Nat.{◌*◌}
use Rattle.trace.proofs.Fill.{Filled}
use Rattle.confirm.specs.Confirm.{clauses}
use Rattle.confirm.specs.Run.{leaves, shown_word, shown_mark, shown_count}
use Rattle.confirm.proofs.blocks.write_steps.Given as goal

abbrev pub invariant-loop-block : goal.invariant-loop-block
invariant-loop-block l = Filled clauses leaves shown_word l.initial.state l.samples l.words (8 * l.block) l.state
    × Filled clauses leaves shown_mark l.initial.state l.samples l.marks (8 * l.block) l.state
    × Filled clauses leaves shown_count l.initial.state l.samples l.counts (8 * l.block) l.state
