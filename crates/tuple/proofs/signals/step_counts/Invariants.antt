-- `tuple::signals::step_counts` meets its contract. The invariant: the signals below i have counted, from the counts
-- as they came.
use mathlib.Core.Path.{◌≡◌}
use mathlib.Core.List.{List, ◌++◌}
use Prim.Native.Nat.{ℕ}
use lib.ListN.{take, drop, get_or}
use Rattle.rules.specs.Bits.{bit}
use Rattle.rules.specs.Signals.{as_word, as_list}
use Rattle.tuple.specs.Disagreement.{count_by, alarm_by}
use Rattle.tuple.proofs.signals.step_counts.Given as goal

pub record Going (n need d : ℕ) (came counts : List ℕ) (mask i : ℕ) : Type 0 where
  pub alarmed : mask ≡ as_word i (λ k. alarm_by need (get_or came k 0) (bit k d))
  pub counted : counts ≡ as_list i (λ k. count_by need (get_or came k 0) (bit k d)) ++ drop i (take n came)

abbrev pub invariant-loop-i : goal.invariant-loop-i
invariant-loop-i l = Going l.n l.need l.disagreeing l.fn.counts l.count-items l.mask l.i
