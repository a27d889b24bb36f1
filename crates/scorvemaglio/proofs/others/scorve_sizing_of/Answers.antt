-- `scorve_sizing_of` meets its contract.
use mathlib.Core.Path.{refl}
use Rattle.rules.proofs.Tables.{never_zero}
use Rattle.scorvemaglio.proofs.Laws.{not_made_lem, made}
use Rattle.scorvemaglio.proofs.others.scorve_sizing_of.Goals as goal

pub returns-in-Some : goal.returns-in-Some
returns-in-Some c = rw (← c.of-sized.ensures, c.in-Some.is, c.into.ensures) (not_made_lem (never_zero c.in-Some.refusal))

pub returns : goal.returns
returns c = rw (c.from.ensures, c.from-2.ensures, ← c.of-sized.ensures, c.in_default.is) (made refl)
