-- `tuple::signals::step_counts` meets its contract. The invariant: the signals below i have counted, from the counts
-- as they came.
use mathlib.Core.Path.{◌≡◌, ap, ap₂, ◌∙◌}
use mathlib.Core.List.{List, ◌++◌}
use Prim.Native.Nat.{ℕ, ◌*◌, ◌%◌, ◌≤◌, ◌<◌, ◌^◌}
use native.Mathlib.Omega.{arith}
use lib.Bits.{bit_and, bit_or}
use lib.ListN.{length, get_or, set, take, drop}
use lib.Pow.{pow_pos}
use Rattle.std.proofs.lemmas.List.{append-nil, drop_all, get_or-take, length-take-le}
use Rattle.rules.specs.Bits.{bit}
use Rattle.rules.proofs.Signals.{bit_small, word_none, places_none, places_more, place_above}
use Rattle.tuple.specs.Disagreement.{count_by, alarm_by}
use Rattle.tuple.proofs.Ones.{common, one_at, in_front, count_placed, alarm_placed, alarm_by_small}
use Rattle.tuple.proofs.signals.step_counts.Goals as goal
use Rattle.tuple.proofs.signals.step_counts.Goals.{After-next_count}

-- the counts that step are those of the first n places
long : (n : ℕ) (counts : List ℕ) → n ≤ 32 → length counts ≡ 32 → length (take n counts) ≡ n
long n counts few all = length-take-le n counts (omega (arith, few, all))

pub loop-i-init : goal.loop-i-init
loop-i-init c = record { alarmed = word_none _; counted = places_none _ _ }

-- what the signal's voter does is the definition's, of the counts as they came
module _ (c : After-next_count) where
  abbrev i : ℕ
  i = c.loop-i.i

  abbrev need : ℕ
  need = c.args.need

  abbrev d : ℕ
  d = c.args.disagreeing

  abbrev came : List ℕ
  came = c.args.counts.now

  below : i < c.args.n
  below = omega (arith, c.loop-i-test.true, long c.args.n c.args.counts.now c.requires c.told-counts)

  at_place : bit_and d (1 * 2 ^ i % 4294967296) ≡ bit i d * 2 ^ i
  at_place = ap (bit_and d) (one_at i (omega (arith, below, c.requires))) ∙ common i d

  as_it_came : get_or c.loop-i.count-items i 0 ≡ get_or came i 0
  as_it_came =
      ap (λ (xs : List ℕ). get_or xs i 0) c.loop-i.invariant.counted
      ∙ place_above _ (take c.args.n came) i i (omega arith) ∙ get_or-take c.args.n came i 0 below

  alarm_told : c.alarm_at-mask.result ≡ alarm_by need (get_or came i 0) (bit i d) * 2 ^ i
  alarm_told = c.alarm_at-mask.ensures ∙ rw (at_place, as_it_came) (alarm_placed need (get_or came i 0) (bit i d) (2 ^ i))

  count_told : c.next_count.result ≡ count_by need (get_or came i 0) (bit i d)
  count_told = c.next_count.ensures ∙ rw (at_place, as_it_came) (count_placed need (get_or came i 0) (bit i d) (2 ^ i) (pow_pos i))

pub loop-i-preserved : goal.loop-i-preserved
loop-i-preserved c =
    let inv = c.loop-i.invariant in
    record {
      alarmed = ap₂ bit_or inv.alarmed (alarm_told c) ∙ in_front (λ k. alarm_by (need c) (get_or (came c) k 0) (bit k (d c))) (λ k. alarm_by_small (need c) (get_or (came c) k 0) (bit_small k (d c))) (i c);
      counted = ap₂ (λ (xs : List ℕ) (k : ℕ). set xs (i c) k) inv.counted (count_told c) ∙ places_more (λ k. count_by (need c) (get_or (came c) k 0) (bit k (d c))) (take c.args.n (came c)) (i c) c.loop-i-test.true;
    }

pub returns : goal.returns
returns c =
    let l = c.loop-i in
    let e : l.i ≡ c.args.n = omega (arith, c.loop-i-test.false, long c.args.n c.args.counts.now c.requires c.told-counts) in
    let none = drop_all c.args.n (take c.args.n c.args.counts.now) (omega (arith, long c.args.n c.args.counts.now c.requires c.told-counts)) in
    record {
      value = l.invariant.alarmed ∙ rw e;
      counts_after = ap (λ (xs : List ℕ). xs ++ drop c.args.n c.args.counts.now) (l.invariant.counted ∙ rw (e, none) (append-nil _));
    }
