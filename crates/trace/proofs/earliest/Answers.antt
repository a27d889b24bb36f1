-- `trace::earliest` meets its contract: the smallest of the numbers that the columns have.
use Rattle.std.proofs.Common.{position, sym, ◌∙◌, rules, tests}
use Rattle.std.proofs.lemmas.Iterator.{YieldsList-from_slice}
use Rattle.std.proofs.lemmas.Iterator.Adapters.{option_map_id}
use Rattle.std.proofs.lemmas.Iterator.Consumers.{YieldsList-at, YieldsList-from_filter_map, min_from_yields_List}
use Rattle.rules.specs.Limits.{outside}
use Rattle.trace.proofs.earliest.Goals as goal

pub returns : goal.returns
returns c =
    let a = c.args in
    sym (option_map_id c.min.result)
    ∙ min_from_yields_List c.filter_map.result c.min.result c.min.ensures.ran
    (YieldsList-from_filter_map _ (λ d. position (outside a.n) d.now) (YieldsList-at c.filter_map.ensures.source (YieldsList-from_slice a.columns.now cc))
    c.filter_map.ensures.closure (λ x r q k. search (rules, tests)))
