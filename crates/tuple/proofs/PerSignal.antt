-- Voter i of a tuple steps exactly as a plain vote of width 1 on bit i: so no signal's voter depends on another signal.
use mathlib.Core.Path.{◌≡◌, sym, ap, ◌∙◌}
use mathlib.Core.Bool.{false}
use mathlib.Core.List.{List}
use Prim.Native.Nat.{ℕ, ◌≤◌, ◌<◌}
use lib.ListN.{get_or}
use Rattle.rules.specs.Bits.{bit}
use Rattle.rules.specs.Limits.{outside}
use Rattle.rules.proofs.Signals.{word_bit, place_below}
use Rattle.rules.proofs.Width.{within, zero_inside}
use Rattle.vote.specs.Vote as vote
use Rattle.vote.specs.declared.Vote.{Vote}
use Rattle.vote.proofs.Clauses.{same_sizes as vote_sizes}
use Rattle.tuple.specs.declared.Tuple.{Tuple}
use Rattle.tuple.specs.Tuple.{width, vote_need, fresh, voter_of, voter, signal_vote, clauses}
use Rattle.tuple.proofs.Clauses.{same_sizes, voters_left}
use Rattle.tuple.proofs.Small.{word_bit_small, zeros}

same_vote :
    (v : Vote) {n need word count : ℕ} → n ≡ v.n → need ≡ v.need → word ≡ v.word → count ≡ v.count
    → ◌≡◌ {A = Vote} (record { n = n; need = need; word = word; count = count }) v
same_vote v p q r t = rw (p, q, r, t)

-- and it starts from its bit of the initial word
pub voter_fresh : (n votes need word i : ℕ) → voter (fresh n votes need word) i ≡ vote.fresh 1 votes (bit i word)
voter_fresh n votes need word i = ap (λ (count : ℕ). voter_of votes word count i) (zeros 32 i)

-- so the places for absent signals start as in a state made from zero, from any initial word inside the width
pub absent_as_zero : (n votes need word i : ℕ) → outside n word ≡ false → n ≤ i → voter (fresh n votes need word) i ≡ voter (fresh n votes need 0) i
absent_as_zero n votes need word i inside l =
    voter_fresh n votes need word i ∙ ap (vote.fresh 1 votes) ((within n word).0 inside i l ∙ sym ((within n 0).0 (zero_inside n) i l)) ∙ sym (voter_fresh n votes need 0 i)

module _ (s : Tuple) (a b : ℕ) where
  pub per_signal : (i : ℕ) → i < width s → voter (clauses s a b).state i ≡ (vote.clauses (voter s i) (bit i a) (bit i b) false).state
  per_signal i l =
      let left = voters_left s a b in
      let f = signal_vote (vote_need s) s.agreed s.counts a b in
      let word : bit i (clauses s a b).state.agreed ≡ (f i).state.word =
      ap (bit i) left.0 ∙ word_bit (λ k. (f k).state.word) (word_bit_small (vote_need s) s.agreed s.counts a b) (width s) i l in
      let count : get_or (clauses s a b).state.counts i 0 ≡ (f i).state.count =
      ap (λ (l : List ℕ). get_or l i 0) left.1 ∙ place_below (λ k. (f k).state.count) s.counts (width s) i l in
      let sizes = vote_sizes (voter s i) (bit i a) (bit i b) false in
      same_vote (f i).state (sym sizes.0) ((same_sizes s a b).1 ∙ sym sizes.1) word count
