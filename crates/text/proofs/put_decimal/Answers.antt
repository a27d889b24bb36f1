-- `text::put_decimal` meets its contract.
use mathlib.Core.Path.{sym, ◌∙◌}
use borrow.Author.Tests.{leb-true}
use Rattle.text.proofs.Digits.{decimal_length}
use Rattle.text.proofs.Laws.{placed, kept, part_length}
use Rattle.text.proofs.put_decimal.Goals as goal

pub returns-then-not-has_room : goal.returns-then-not-has_room
returns-then-not-has_room c = kept _ (decimal_length c.args.n ∙ sym c.places-k.ensures) c.has_room.ensures c.if-not-has_room.true

pub returns : goal.returns
returns c =
    let k = c.places-k.ensures in
    let long = part_length c.args.out.now c.args.at _ (leb-true _ _ (sym c.has_room.ensures ∙ c.if-not-has_room.false)) in
    placed _ (decimal_length c.args.n ∙ sym k) c.has_room.ensures c.if-not-has_room.false (rw (long, k) at c.lay_decimal.ensures)
