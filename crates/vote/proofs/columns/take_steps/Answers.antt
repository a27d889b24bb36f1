-- `vote::columns::take_steps` meets its contract. The invariant: the samples before i have been taken from the start.
use mathlib.Core.Path.{◌≡◌}
use native.Mathlib.Omega.{arith}
use lib.ListN.{length}
use Rattle.vote.proofs.Parts.{none_taken, all_taken, one_taken}
use Rattle.vote.proofs.columns.take_steps.Goals as goal

pub loop-i-init : goal.loop-i-init
loop-i-init c =
    let x = c.args in
    none_taken x.once x.start x.a.now x.b.now c.requires.second_long _ c.requires

pub loop-i-preserved : goal.loop-i-preserved
loop-i-preserved c =
    let l = c.loop-i in
    let t = c.clauses-taken in
    one_taken _ _ _ _ c.requires.second_long _ _ _ _ t.result _ t.ensures c.store.ensures c.is_alarm-alarm.ensures c.if-over.false c.loop-i-test.true l.invariant

pub returns-then-over : goal.returns-then-over
returns-then-over c =
    let l = c.loop-i in
    let t = c.clauses-taken in
    one_taken _ _ _ _ c.requires.second_long _ _ _ _ t.result _ t.ensures c.store.ensures c.is_alarm-alarm.ensures c.if-over.true c.loop-i-test.true l.invariant

pub returns : goal.returns
returns c =
    let l = c.loop-i in
    let end : l.i ≡ length c.args.a.now = omega arith in
    rw end at (all_taken _ _ _ _ c.requires.second_long _ _ _ _ c.loop-i-test.false l.invariant)
