-- `sheet::put_listing` meets its contract: the first line, and then the others.
use native.Mathlib.Omega.{arith}
use Rattle.std.proofs.lemmas.Grind.{common_steps}
use Rattle.listing.specs.Listing.{listing_of}
use Rattle.listing.proofs.Pages.{also, ended}
use Rattle.listing.proofs.sheet.put_listing.Goals as goal

pub returns : goal.returns
unfolding listing_of
returns c =
    let all = also c.put_heading.ensures c.put_lines.ensures in
    ended all (grind (arith, common_steps))
