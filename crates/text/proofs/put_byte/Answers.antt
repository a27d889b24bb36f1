-- `text::put_byte` meets its contract: a byte is a text of one.
use Rattle.text.proofs.put_byte.Goals as goal

pub returns : goal.returns
returns c = c.put_text.ensures
