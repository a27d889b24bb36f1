-- `confirm::blocks::write_steps` meets its contract: each block is many turns at once, and so is what is left of one.
use mathlib.Core.Path.{◌≡◌, refl, sym}
use Prim.Native.Nat.{◌+◌, ◌-◌, ◌*◌, ◌/◌, ◌≤◌}
use native.Mathlib.Omega.{arith}
use lib.ListN.{length}
use Rattle.trace.proofs.Columns.{parts_alike, rests_alike}
use Rattle.trace.proofs.Fill.{part_turn, part_filled}
use Rattle.confirm.specs.Confirm.{clauses}
use Rattle.confirm.specs.Run.{leaves, shown_word, shown_mark, shown_count}
use Rattle.confirm.proofs.blocks.write_steps.Goals as goal

pub loop-block-init : goal.loop-block-init
loop-block-init c = let long = c.requires in ((sym long.0, refl), (sym long.1, refl), (sym long.2, refl))

pub write_block-state-requires : goal.write_block-state-requires
write_block-state-requires c =
    let l = c.loop-block in
    let from = 8 * l.block in
    let part = parts_alike from (from + 8 - from) c.args.samples.now in
    (part l.words (sym l.invariant.0.0), part l.marks (sym l.invariant.1.0), part l.counts (sym l.invariant.2.0))

pub loop-block-preserved : goal.loop-block-preserved
loop-block-preserved c =
    let wrote = c.write_block-state.ensures in
    let l = c.loop-block in
    let from = 8 * l.block in
    let next : 8 * (l.block + 1) ≡ from + 8 = omega arith in
    let inside : from + 8 ≤ length c.args.samples.now = omega arith in
    rw (next, wrote.value) (
      part_turn clauses leaves shown_word _ _ _ from _ _ _ wrote.wrote.words_shown (omega arith) inside l.invariant.0,
      part_turn clauses leaves shown_mark _ _ _ from _ _ _ wrote.wrote.marks_shown (omega arith) inside l.invariant.1,
      part_turn clauses leaves shown_count _ _ _ from _ _ _ wrote.wrote.counts_shown (omega arith) inside l.invariant.2,
    )

pub take_steps-requires : goal.take_steps-requires
take_steps-requires c =
    let l = c.loop-block in
    let samples = c.args.samples.now in
    let rest = rests_alike (8 * (length samples / 8)) samples in
    (rest l.words (sym l.invariant.0.0), rest l.marks (sym l.invariant.1.0), rest l.counts (sym l.invariant.2.0))

pub returns : goal.returns
returns c =
    let wrote = c.take_steps.ensures.wrote in
    let l = c.loop-block in
    let samples = c.args.samples.now in
    let last : l.block ≡ length samples / 8 = omega arith in
    let inv = rw last at l.invariant in
    let inside : 8 * (length samples / 8) ≤ length samples = omega arith in
    record {
      words_shown = part_filled clauses leaves shown_word _ _ _ _ _ _ wrote.words_shown inside inv.0;
      marks_shown = part_filled clauses leaves shown_mark _ _ _ _ _ _ wrote.marks_shown inside inv.1;
      counts_shown = part_filled clauses leaves shown_count _ _ _ _ _ _ wrote.counts_shown inside inv.2;
    }
