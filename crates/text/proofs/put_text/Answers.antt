-- `text::put_text` meets its contract.
use mathlib.Core.Path.{refl}
use Rattle.text.proofs.Laws.{placed, kept}
use Rattle.text.proofs.put_text.Goals as goal

pub returns-then-not-has_room : goal.returns-then-not-has_room
returns-then-not-has_room c = kept _ refl c.has_room.ensures c.if-not-has_room.true

pub returns : goal.returns
returns c = placed _ refl c.has_room.ensures c.if-not-has_room.false c.copy_from_slice.ensures.after
