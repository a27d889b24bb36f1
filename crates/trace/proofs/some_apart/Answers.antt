-- `trace::some_apart` meets its contract: the others are what follows the first.
use Rattle.std.proofs.Common.{length, rules, tests}
use Rattle.std.proofs.lemmas.Iterator.{YieldsList-from_slice}
use Rattle.std.proofs.lemmas.Iterator.Search.{any_from_yields_List}
use Rattle.rules.specs.Limits.{differ}
use Rattle.trace.proofs.some_apart.Goals as goal

pub returns : goal.returns
returns c =
    rw c.in-Some.ensures.cases.0
    (any_from_yields_List (λ d. differ (length c.in-Some.first.now.now) (length d.now)) _ _ _ c.any.ensures.ran (YieldsList-from_slice c.in-Some.others.now cc) (λ x b q k. search (rules, tests)))
