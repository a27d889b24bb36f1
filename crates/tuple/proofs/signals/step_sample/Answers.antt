-- `tuple::signals::step_sample` meets its contract: none disagrees, and the counts are zero or set so, or each signal
-- looks at its bit.
use mathlib.Core.Path.{◌≡◌, ap, ◌∙◌}
use borrow.Author.Rules.{rules}
use lib.ListN.{length, replicate}
use lib.Pow.{pow_pos}
use Rattle.rules.proofs.Width.{lt_inside}
use Rattle.tuple.specs.declared.Voters.{Voters}
use Rattle.tuple.specs.Disagreement.{voters_by}
use Rattle.tuple.proofs.Agreeing.{agreeing}
use Rattle.tuple.proofs.signals.step_sample.Goals as goal
use Rattle.tuple.proofs.signals.step_sample.Goals.{Then-disagreeing-eq0}

-- no signal disagrees: of the units' word, here 0, nothing is asked
all_agree : (c : Then-disagreeing-eq0) → let s = c.args in
    ◌≡◌ {A = Voters} (record { word = 0; mask = 0; second = 0; counts = replicate 32 0 }) (voters_by s.n s.need 0 s.counts.now 0 s.disagreeing)
all_agree c =
    let p = c.requires in
    let s = c.args in
    let long : length s.counts.now ≡ 32 = search rules in
    rw c.if-disagreeing-eq0.true (agreeing s.n s.need 0 s.counts.now 0 p.n_bound long p.resting.above (lt_inside s.n 0 (pow_pos s.n)))

pub returns-then-waiting : goal.returns-then-waiting
returns-then-waiting c =
    let all = all_agree c.before.before in
    record { value = ap (λ (v : Voters). v.mask) all; counts_after = ap (λ (v : Voters). v.counts) all }

pub returns-else-waiting : goal.returns-else-waiting
returns-else-waiting c =
    let all = all_agree c.before in
    record { value = ap (λ (v : Voters). v.mask) all; counts_after = c.requires.resting.rest c.if-waiting.false ∙ ap (λ (v : Voters). v.counts) all }
