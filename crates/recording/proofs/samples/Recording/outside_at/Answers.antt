-- `recording::samples::Recording::outside_at` meets its contract: the search asks of each unit that is present.
use mathlib.Core.Bool.{Bool}
use Prim.Native.Nat.{ℕ, ◌+◌}
use Rattle.std.proofs.Common.{rules}
use Rattle.rules.specs.Limits.{outside}
use Rattle.recording.specs.Recording.{sample_at}
use Rattle.recording.proofs.Below.{asked_below}
use Rattle.recording.proofs.samples.Recording.outside_at.Goals as goal

pub returns : goal.returns
returns c =
    let s = c.args.self.now in
    let test : ℕ → Bool = λ k. outside s.header.n (sample_at s.bytes.now s.header.samples (k + 1) c.args.i) in
    asked_below test s.header.units (cc) c.any.ensures.ran (λ x b q k. search rules)
