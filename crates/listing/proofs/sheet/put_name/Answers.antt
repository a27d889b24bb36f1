-- `sheet::put_name` meets its contract, for each kind.
use Rattle.text.specs.Text.{bytes}
use Rattle.listing.proofs.sheet.put_name.Goals as goal

pub returns-in-Confirm : goal.returns-in-Confirm
unfolding bytes
returns-in-Confirm c = rw c.in-Confirm.is c.text.ensures

pub returns-in-Pair : goal.returns-in-Pair
unfolding bytes
returns-in-Pair c = rw c.in-Pair.is c.text-in-Pair.ensures

pub returns-in-Reserve : goal.returns-in-Reserve
unfolding bytes
returns-in-Reserve c = rw c.in-Reserve.is c.text-in-Reserve.ensures
