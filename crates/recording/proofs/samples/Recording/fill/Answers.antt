-- `recording::samples::Recording::fill` meets its contract. The invariant: the places below i hold the column.
use mathlib.Core.Path.{◌≡◌}
use native.Mathlib.Omega.{arith}
use borrow.Author.Tests.{lt-ltb, le-ltb}
use Rattle.rules.proofs.Signals.{places_none, places_more}
use Rattle.recording.specs.Recording.{sample_at}
use Rattle.recording.proofs.samples.Recording.fill.Goals as goal

pub returns-then-k-self : goal.returns-then-k-self
returns-then-k-self c = rw (lt-ltb _ _ c.if-k-self.true) (places_none _ _)

pub loop-i-init : goal.loop-i-init
loop-i-init c = places_none _ _

pub loop-i-preserved : goal.loop-i-preserved
loop-i-preserved c =
    let s = c.args.self.now in
    let more = places_more (sample_at s.bytes.now s.header.samples c.args.k) c.args.out.now c.loop-i.i (omega (arith, s.laid.few)) in
    rw (← more, ← c.loop-i.invariant, c.sample.ensures)

pub returns : goal.returns
returns c =
    let e : c.loop-i.i ≡ c.args.self.now.header.samples = omega arith in
    rw (le-ltb _ _ c.if-k-self.false, c.loop-i.invariant, e)
