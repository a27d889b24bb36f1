-- `tuple::steps::write_steps` meets its contract. The invariant: each slice is written before i, and the samples from
-- i on give the rest. The state is one that a step takes, and every count is zero where no signal disagreed at the
-- sample before.
use mathlib.Core.Path.{◌≡◌}
use mathlib.Core.List.{List}
use Prim.Native.Nat.{ℕ}
use lib.ListN.{length, replicate}
use Rattle.trace.proofs.FillPairs.{FilledPair}
use Rattle.tuple.specs.Run.{stepped, leaves, shown_word, shown_mask, shown_mark, shown_second}
use Rattle.tuple.specs.declared.Tuple.{Tuple}
use Rattle.tuple.specs.Tuple.{width, vote_need, changed}
use Rattle.tuple.proofs.Sound.{Sound}
use Rattle.tuple.proofs.steps.write_steps.Given as goal

-- of the state s before sample i, in which `disagreed` tells of the sample before it
pub record Going (start : Tuple) (a b words masks marks seconds : List ℕ) (s : Tuple) (disagreed i : ℕ) : Type 0 where
  pub second_long : length a ≡ length b
  pub counts_long : length s.counts ≡ 32
  pub sound : Sound (width start) s
  pub votes : vote_need s ≡ vote_need start
  pub rest : disagreed ≡ 0 → s.counts ≡ replicate 32 0
  pub in_words : FilledPair stepped leaves shown_word start a b words i s
  pub in_masks : FilledPair stepped leaves shown_mask start a b masks i s
  pub in_marks : FilledPair stepped leaves shown_mark start a b marks i s
  pub in_seconds : FilledPair stepped leaves shown_second start a b seconds i s

abbrev pub invariant-loop-i : goal.invariant-loop-i
invariant-loop-i l = Going l.start l.a l.b l.words l.masks l.marks l.seconds (changed l.start l.confirm l.agreed l.counts) l.disagreed l.i
