-- `Sizing::of` meets its contract: with a refusal zeros, without one the definition's numbers.
use mathlib.Core.Path.{sym, ◌∙◌}
use Rattle.rules.proofs.Tables.{told_ok, refuses, works}
use Rattle.sizing.specs.Sizing.{not_sized, sizing_of}
use Rattle.sizing.proofs.Sizing.of.Goals as goal

pub sized-requires : goal.sized-requires
sized-requires c = told_ok (sym c.size_refusal.ensures ∙ c.in-Ok.is)

pub returns-in-Ok : goal.returns-in-Ok
unfolding sizing_of
returns-in-Ok c = c.sized.ensures ∙ works not_sized _ _ (told_ok (sym c.size_refusal.ensures ∙ c.in-Ok.is))

pub returns-in-Err : goal.returns-in-Err
unfolding sizing_of
returns-in-Err c =
    let zeros = c.default.ensures in
    simp (zeros.1.0, zeros.1.1.0, zeros.1.1.1.0, zeros.1.1.1.1)
    (refuses not_sized _ _ (sym c.size_refusal.ensures ∙ c.in-Err.is))
