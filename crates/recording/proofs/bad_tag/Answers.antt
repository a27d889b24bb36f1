-- `recording::bad_tag` meets its contract.
use Rattle.recording.proofs.Compared.{tag_compared}
use Rattle.recording.proofs.bad_tag.Goals as goal

pub returns : goal.returns
returns c = rw c.starts_with.ensures.value (tag_compared c.args.bytes.now)
