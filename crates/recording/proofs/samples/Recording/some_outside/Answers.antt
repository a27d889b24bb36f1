-- `recording::samples::Recording::some_outside` meets its contract: the search asks of each column that is present.
use Prim.Native.Nat.{◌+◌}
use Rattle.std.proofs.Common.{rules}
use Rattle.recording.specs.Recording.{column_outside}
use Rattle.recording.proofs.Below.{asked_below}
use Rattle.recording.proofs.samples.Recording.some_outside.Goals as goal

pub returns : goal.returns
returns c =
    let s = c.args.self.now in
    asked_below (λ k. column_outside s.bytes.now s.header (k + 1)) s.header.units (cc) c.any.ensures.ran (λ x b q k. search rules)
