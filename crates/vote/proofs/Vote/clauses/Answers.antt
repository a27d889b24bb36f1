-- `Vote::clauses` meets its contract: each way out rewrites by its tests.
use mathlib.Core.Path.{◌∙◌}
use borrow.Author.Tests.{eq-eqb, ne_eqb, lt-ltb, le-ltb}
use Rattle.vote.specs.Vote.{clauses}
use Rattle.vote.proofs.Vote.clauses.Goals as goal

pub returns-then-equal : goal.returns-then-equal
unfolding clauses
returns-then-equal c = c.agreed.ensures ∙ simp (eq-eqb _ _ c.if-equal.true)

pub returns-then-reset : goal.returns-then-reset
unfolding clauses
returns-then-reset c = c.held.ensures ∙ simp (c.still-which.ensures, ne_eqb _ _ c.if-equal.false, c.if-reset.true)

pub returns-then-waiting : goal.returns-then-waiting
unfolding clauses
returns-then-waiting c =
    let waiting = rw c.last.ensures at (lt-ltb _ _ c.if-waiting.true) in
    c.held-then-waiting.ensures ∙ simp (c.still-which.ensures, ne_eqb _ _ c.if-equal.false, c.if-reset.false, waiting)

pub returns : goal.returns
unfolding clauses
returns c =
    let over = rw c.last.ensures at (le-ltb _ _ c.if-waiting.false) in
    simp (c.still-which.ensures, ne_eqb _ _ c.if-equal.false, c.if-reset.false, over)
