-- `Confirm::clauses` meets its contract: each way out rewrites by the two tests.
use mathlib.Core.Path.{◌∙◌}
use Prim.Native.Nat.{◌-◌}
use native.Mathlib.Omega.{arith}
use borrow.Author.Tests.{eq-eqb, ne_eqb, lt-ltb, le-ltb}
use Rattle.confirm.specs.Confirm.{clauses}
use Rattle.confirm.proofs.Confirm.clauses.Goals as goal

pub returns-then-changed : goal.returns-then-changed
unfolding clauses
returns-then-changed c = c.held.ensures ∙ simp (ne_eqb _ _ c.if-changed.true)

pub returns-then-waiting : goal.returns-then-waiting
unfolding clauses
returns-then-waiting c =
    let more = lt-ltb c.args.self.count (c.args.self.need - 1) (omega arith) in
    c.held-then-waiting.ensures ∙ simp (eq-eqb _ _ c.if-changed.false, more)

pub returns : goal.returns
unfolding clauses
returns c =
    let enough = le-ltb c.args.self.count (c.args.self.need - 1) (omega arith) in
    c.confirmed.ensures ∙ simp (eq-eqb _ _ c.if-changed.false, enough)
