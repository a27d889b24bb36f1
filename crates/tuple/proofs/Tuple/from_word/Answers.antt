-- `Tuple::from_word` meets its contract: with a refusal the state of n 1, N 1 and word zero, without one the fresh state.
use mathlib.Core.Path.{sym, ◌∙◌}
use Rattle.rules.proofs.Tables.{told_ok, refuses, works}
use Rattle.tuple.specs.Tuple.{made, not_made, made_of}
use Rattle.tuple.proofs.Tuple.from_word.Goals as goal

pub returns-in-Ok : goal.returns-in-Ok
unfolding made_of
returns-in-Ok c =
    let a = c.args in
    let told = rw c.bad_counts.ensures at c.make_refusal.ensures in
    rw c.fresh.ensures (works not_made (made a.n a.votes a.need a.word) _ (told_ok (sym told ∙ c.in-Ok.is)))

pub returns-in-Err : goal.returns-in-Err
unfolding made_of
returns-in-Err c =
    let a = c.args in
    let told = rw c.bad_counts.ensures at c.make_refusal.ensures in
    rw c.fresh-in-Err.ensures (refuses not_made (made a.n a.votes a.need a.word) _ (sym told ∙ c.in-Err.is))
