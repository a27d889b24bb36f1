-- `sheet::put_heading` meets its contract: its pieces, one after the other, are the first line.
use Rattle.text.specs.Text.{bytes}
use Rattle.listing.specs.Listing.{heading}
use Rattle.listing.proofs.Pages.{also}
use Rattle.listing.proofs.sheet.put_heading.Goals as goal

pub returns : goal.returns
unfolding heading bytes
returns c =
    let two = also c.put_name.ensures c.byte.ensures in
    let four = also (also two c.decimal.ensures) c.byte-2.ensures in
    let six = also (also four c.decimal-2.ensures) c.byte-3.ensures in
    also (also six c.decimal-3.ensures) c.byte-4.ensures
