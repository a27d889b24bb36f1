-- `sheet::put_refused` meets its contract: its pieces, one after the other, are the line.
use Rattle.std.proofs.lemmas.Grind.{common_steps}
use native.Mathlib.Omega.{arith}
use Rattle.text.specs.Text.{bytes}
use Rattle.listing.specs.Listing.{refused_text}
use Rattle.listing.proofs.Pages.{also, ended}
use Rattle.listing.proofs.sheet.put_refused.Goals as goal

pub returns : goal.returns
unfolding refused_text bytes
returns c =
    let four = also (also (also c.text.ensures c.decimal.ensures) c.text-2.ensures) c.decimal-2.ensures in
    let all = also four c.byte.ensures in
    ended all (grind (arith, common_steps))
