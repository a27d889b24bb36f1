-- The public call's own contract, as the source states it, is its definition applied to the inputs, and so determines the answer.
use Rattle.rules.specs.Promise.{Fixes}
use Rattle.rules.proofs.Promise.{fixes}
use Rattle.sizing.specs.Sizing.{sizing_of}
use Rattle.sizing.proofs.Sizing.of.Reads as of

pub of_unique : Fixes (of.Learnt tt) (λ z e. z) (λ a. sizing_of a.0 a.1.0 a.1.1.0 a.1.1.1.0)
of_unique = fixes (λ a z e p. p)
