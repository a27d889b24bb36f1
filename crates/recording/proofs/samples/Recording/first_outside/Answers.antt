-- `recording::samples::Recording::first_outside` meets its contract: where no column has a sample outside, no sample is; where one
-- has, the search passes the samples that are inside.
use mathlib.Core.Path.{◌≡◌, sym, ◌∙◌}
use mathlib.Core.Bool.{false}
use Prim.Native.Nat.{◌+◌}
use native.Mathlib.Omega.{arith}
use Rattle.std.proofs.Common.{rules}
use Rattle.std.proofs.lemmas.Iterator.{YieldsList-from_range}
use Rattle.std.proofs.lemmas.Iterator.Search.{find_from_yields_List}
use Rattle.rules.specs.Limits.{outside}
use Rattle.trace.proofs.Samples.{nowhere_below}
use Rattle.recording.specs.Recording.{sample_at, outside_at, numbers}
use Rattle.recording.proofs.Below.{first_below}
use Rattle.recording.proofs.samples.Recording.first_outside.Goals as goal

pub returns : goal.returns
returns c =
    let s = c.args.self.now in
    let n = s.header.samples in
    let test = outside_at s.bytes.now s.header in
    first_below test n c.find.result (find_from_yields_List test _ _ c.find.result c.find.ensures.ran (YieldsList-from_range 0 n n (cc) (omega arith)) (λ x b q k. search rules))

pub returns-then-not-some_outside : goal.returns-then-not-some_outside
returns-then-not-some_outside c =
    let s = c.args.self.now in
    let inside : c.some_outside.result ≡ false = search rules in
    let none = nowhere_below (λ k i. outside s.header.n (sample_at s.bytes.now s.header.samples (k + 1) i)) s.header.units (numbers s.header) 0 (sym c.some_outside.ensures ∙ inside) in
    rw none
