-- `recording::bad_offsets` meets its contract: the search asks of each of the five offsets whether it is bad.
use Rattle.std.proofs.Common.{rules}
use Rattle.recording.specs.Recording.{bad_offset}
use Rattle.recording.proofs.Below.{asked_below}
use Rattle.recording.proofs.bad_offsets.Goals as goal

pub returns : goal.returns
returns c = asked_below (bad_offset c.args.bytes.now c.args.h) 5 (cc) c.any.ensures.ran (λ x b q k. search rules)
