-- `Tuple::voters` meets its contract: the voters step with their own N, on a state and a sample that were tested.
use mathlib.Core.Path.{◌≡◌, ap, ◌∙◌}
use Prim.Native.Nat.{ℕ}
use native.Mathlib.Omega.{arith}
use borrow.Author.Rules.{rules}
use lib.ListN.{length}
use Rattle.rules.specs.Limits.{outside}
use Rattle.rules.proofs.Tables.{or_neither}
use Rattle.rules.proofs.Width.{lt_inside}
use Rattle.tuple.specs.Disagreement.{disagreement, voters_by}
use Rattle.tuple.specs.Tuple.{width, vote_need}
use Rattle.tuple.proofs.Agreeing.{all_places}
use Rattle.tuple.proofs.Disagreement.{disagreement_inside, look}
use Rattle.tuple.proofs.InParts.{together}
use Rattle.tuple.proofs.Rows.{none_given, wide}
use Rattle.tuple.proofs.Sound.{above_zero}
use Rattle.tuple.proofs.Stepwise.{sound}
use Rattle.tuple.proofs.Tuple.voters.Goals as goal

pub returns : goal.returns
returns c =
    let x = c.args in
    let s = x.self in
    let none = c.requires in
    let n = width s in
    let inside = or_neither (outside n x.a) (outside n x.b) ((none_given s x.a x.b).0 none).sample_in in
    let long : length s.counts ≡ 32 = search rules in
    let told = c.step_voters-mask.ensures in
    let fits = lt_inside 32 x.a (omega arith) in
    let among = lt_inside 32 c.disagreement-disagreeing.result (omega arith) in
    together 32 (vote_need s) s.agreed s.counts x.a c.disagreement-disagreeing.result
    (c.voted_word-word.ensures 32 (omega arith) fits among) told.value (c.second_word-second.ensures 32 among) told.counts_after
    ∙ ap (λ (d : ℕ). voters_by 32 (vote_need s) s.agreed s.counts x.a d) (c.disagreement-disagreeing.ensures n inside.0 inside.1)
    ∙ all_places n (vote_need s) s.agreed s.counts x.a (wide s x.a x.b none) long (above_zero n s (sound s x.a x.b none)) inside.0
    (disagreement n x.a x.b) (disagreement_inside n x.a x.b)
    ∙ look n (vote_need s) s.agreed s.counts x.a x.b
