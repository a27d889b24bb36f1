-- `text::put_hex` meets its contract.
use Rattle.text.proofs.Digits.{hex_length}
use Rattle.text.proofs.Laws.{placed, kept}
use Rattle.text.proofs.put_hex.Goals as goal

pub returns-then-not-has_room : goal.returns-then-not-has_room
returns-then-not-has_room c = kept 8 (hex_length c.args.w) c.has_room.ensures c.if-not-has_room.true

pub returns : goal.returns
returns c = placed 8 (hex_length c.args.w) c.has_room.ensures c.if-not-has_room.false c.lay_hex.ensures
