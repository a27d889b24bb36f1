-- `list_read` meets its contract: a refused recording's line, or the listing of its units.
use mathlib.Core.Path.{sym, ap, ◌∙◌}
use Rattle.listing.proofs.Reading.{answer_of_lem, ready, columns, text}
use Rattle.listing.proofs.Texts.{refused_text_lem, lists}
use Rattle.listing.proofs.list_read.Goals as goal

pub list_slices-requires-clause-runnable : goal.list_slices-requires-clause-runnable
list_slices-requires-clause-runnable c =
    ready _ _ _ _ _ _ _ _ _ _ _ _ c.read-read.ensures c.read-read.ensures.answered c.in-Ok.is

pub list_slices-requires-clause-units : goal.list_slices-requires-clause-units
list_slices-requires-clause-units c =
    columns _ _ _ _ _ _ _ _ _ _ _ _ c.read-read.ensures c.read-read.ensures.answered c.in-Ok.is

pub returns-in-Ok : goal.returns-in-Ok
returns-in-Ok c =
    let answered = c.read-read.ensures.answered in
    let done = c.in-Ok.is in
    lists c.args.bytes.now c.args.out.now _ c.requires.longest_in_bounds (ap answer_of_lem (sym answered) ∙ done)
    (rw (text _ _ _ _ _ _ _ _ _ _ _ _ c.read-read.ensures answered done) c.list_slices.ensures)

pub returns-in-Err : goal.returns-in-Err
returns-in-Err c =
    let e = ap answer_of_lem (sym c.read-read.ensures.answered) ∙ c.in-Err.is in
    lists c.args.bytes.now c.args.out.now _ c.requires.longest_in_bounds e (rw (refused_text_lem c.args.bytes.now _ e) (rw c.into.ensures at c.put_refused.ensures))
