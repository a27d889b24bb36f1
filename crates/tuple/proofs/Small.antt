-- What a signal's voter gives is a bit, so what is put together from them is a word inside the width. Fresh counts are zero.
use mathlib.Core.Path.{◌≡◌, refl}
use mathlib.Core.List.{List}
use mathlib.Core.Bool.{Bool, true, false}
use Prim.Native.Nat.{ℕ, zero, suc, ◌<◌, ◌^◌}
use lib.Dec.{lit<}
use lib.ListN.{get_or, replicate}
use Rattle.rules.specs.Bits.{bit}
use Rattle.std.specs.Prelude.{if◌then◌else◌}
use Rattle.rules.specs.Signals.{as_word}
use Rattle.rules.proofs.Signals.{bit_small, word_small}
use Rattle.vote.specs.declared.VoteAnswer.{VoteAnswer}
use Rattle.vote.specs.Answers.{VoteStep}
use Rattle.vote.specs.declared.VoteAnswer.TheVariants.{Agreed, Held, Alarm, Refused}
use Rattle.vote.specs.declared.Which.{Which}
use Rattle.vote.specs.declared.Which.TheVariants.{First, Second, Neither}
use Rattle.vote.proofs.Clauses.{each_clause}
use Rattle.tuple.specs.Tuple.{voter_of, signal_vote, alarm_bit, if_second, second_bit}

pub zeros : (k i : ℕ) → ◌≡◌ {A = ℕ} (get_or (replicate k 0) i 0) 0
zeros zero i = refl
zeros (suc k) zero = refl
zeros (suc k) (suc i) = zeros k i

-- a choice between bits is one
pub either_small : (p : Bool) {x y : ℕ} → x < 2 → y < 2 → (if p then x else y) < 2
either_small true l m = l
either_small false l m = m

pub alarm_small : (v : VoteAnswer) → alarm_bit v < 2
alarm_small (Agreed w) = lit< tt
alarm_small (Held w u) = lit< tt
alarm_small (Alarm w u) = lit< tt
alarm_small (Refused k) = lit< tt

if_small : (u : Which) → if_second u < 2
if_small First = lit< tt
if_small Second = lit< tt
if_small Neither = lit< tt

pub second_small : (v : VoteAnswer) → second_bit v < 2
second_small (Agreed w) = lit< tt
second_small (Held w u) = if_small u
second_small (Alarm w u) = if_small u
second_small (Refused k) = lit< tt

module _ (need agreed : ℕ) (counts : List ℕ) (a b : ℕ) where
  pub word_bit_small : (i : ℕ) → (signal_vote need agreed counts a b i).state.word < 2
  word_bit_small i =
      let kept = bit_small i agreed in
      each_clause (voter_of need agreed (get_or counts i 0) i) (λ (t : VoteStep). t.state.word < 2) (bit i a) (bit i b) false (bit_small i a) kept kept kept

  pub words_small : (n : ℕ) → as_word n (λ i. (signal_vote need agreed counts a b i).state.word) < 2 ^ n
  words_small = word_small (λ i. (signal_vote need agreed counts a b i).state.word) word_bit_small

  pub masks_small : (n : ℕ) → as_word n (λ i. alarm_bit (signal_vote need agreed counts a b i).answer) < 2 ^ n
  masks_small = word_small (λ i. alarm_bit (signal_vote need agreed counts a b i).answer) (λ i. alarm_small (signal_vote need agreed counts a b i).answer)

  pub seconds_small : (n : ℕ) → as_word n (λ i. second_bit (signal_vote need agreed counts a b i).answer) < 2 ^ n
  seconds_small = word_small (λ i. second_bit (signal_vote need agreed counts a b i).answer) (λ i. second_small (signal_vote need agreed counts a b i).answer)
