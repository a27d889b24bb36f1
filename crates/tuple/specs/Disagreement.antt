-- T-03: the signals that disagree at a sample, as one word, and the voters as they look at it. The voters of `Tuple.antt`
-- are the same (`look`, `proofs/Disagreement.antt`), so this page changes no promise. N is the voters'.
use Rattle.std.specs.Prelude.{ℕ, ◌+◌, ◌-◌, List, ◌++◌, ltb, eqb, get_or, drop, if◌then◌else◌}
use Rattle.rules.specs.Bits.{bit}
use Rattle.rules.specs.Signals.{as_word, as_list}
use Rattle.tuple.specs.declared.Voters.{Voters}

-- a one at place i where signal i of the two words differs, for each i below n
abbrev pub disagreement : ℕ → ℕ → ℕ → ℕ
disagreement n a b = as_word n (λ i. if eqb (bit i a) (bit i b) then 0 else 1)

-- A signal looks at its own bit d of that word. Where it agrees (d is 0) it takes the units' bit, and its count is zero;
-- where it disagrees it keeps its agreed bit and goes on counting, up to N-1; once it is there, to disagree is to alarm
abbrev pub bit_by : ℕ → ℕ → ℕ → ℕ
bit_by units kept d = if eqb d 0 then units else kept

abbrev pub count_by : ℕ → ℕ → ℕ → ℕ
count_by need count d = if eqb d 0 then 0 else if ltb count (need - 1) then count + 1 else count

abbrev pub alarm_by : ℕ → ℕ → ℕ → ℕ
alarm_by need count d = if ltb count (need - 1) then 0 else d

-- where it disagrees, the second unit shows the agreed bit if the first, whose bit is looked at, does not (T-09)
abbrev pub second_by : ℕ → ℕ → ℕ → ℕ
second_by first kept d = if eqb d 0 then 0 else if eqb first kept then 0 else 1

-- all signals, by the first unit's word a and the word of disagreements d; places at n and above stay
abbrev pub voters_by : ℕ → ℕ → ℕ → List ℕ → ℕ → ℕ → Voters
voters_by n need agreed counts a d =
    record {
      word = as_word n (λ i. bit_by (bit i a) (bit i agreed) (bit i d));
      mask = as_word n (λ i. alarm_by need (get_or counts i 0) (bit i d));
      second = as_word n (λ i. second_by (bit i a) (bit i agreed) (bit i d));
      counts = as_list n (λ i. count_by need (get_or counts i 0) (bit i d)) ++ drop n counts;
    }
