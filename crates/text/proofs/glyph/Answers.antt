-- `text::glyph` meets its contract: the table has the sixteen glyphs in their order.
use mathlib.Core.Path.{◌≡◌, refl}
use Prim.Native.Nat.{ℕ, ◌<◌}
use native.Mathlib.Omega.{arith}
use lib.ListN.{get_or}
use borrow.Author.Tests.{lt-ltb}
use Rattle.rules.specs.Signals.{as_list}
use Rattle.rules.proofs.Signals.{list_at}
use Rattle.text.specs.Text.{bytes, glyph}
use Rattle.text.proofs.glyph.Goals as goal

in_order : bytes "0123456789abcdef" ≡ as_list 16 glyph
unfolding bytes as_list glyph
in_order = refl

looked_up : (d : ℕ) → d < 16 → get_or (bytes "0123456789abcdef") d 0 ≡ glyph d
looked_up d h = rw in_order (list_at glyph 16 d h)

pub returns-then-this-le10 : goal.returns-then-this-le10
unfolding glyph
returns-then-this-le10 g c = simp (lt-ltb c.args.d 10 (omega arith))

pub returns : goal.returns
unfolding bytes
returns g c = looked_up c.args.d (omega arith)
