-- `text::put_line` meets its contract.
use mathlib.Core.Path.{◌≡◌}
use Prim.Native.Nat.{ℕ, ◌+◌}
use native.Mathlib.Omega.{arith}
use lib.ListN.{length}
use Rattle.text.specs.Text.{places, line}
use Rattle.text.proofs.Digits.{places_most, line_length}
use Rattle.text.proofs.Laws.{placed, kept}
use Rattle.text.proofs.put_line.Goals as goal

long : (number word letter last : ℕ) {k : ℕ} → k ≡ places number → length (line number word letter last) ≡ k + 21
long number word letter last e = rw e (line_length number word letter last)

pub overflow_add-len : goal.overflow_add-len
overflow_add-len c = omega (arith, c.places-len.ensures, places_most c.args.number)

pub returns-then-not-has_room : goal.returns-then-not-has_room
returns-then-not-has_room c = kept _ (long _ _ _ _ c.places-len.ensures) c.has_room.ensures c.if-not-has_room.true

pub returns : goal.returns
returns c = placed _ (long _ _ _ _ c.places-len.ensures) c.has_room.ensures c.if-not-has_room.false c.lay_line.ensures
