-- A state that a step takes: voters put together no word outside the width, the clauses leave such a state again, and a fresh
-- state is one.
use mathlib.Core.Path.{◌≡◌, refl}
use mathlib.Core.Bool.{Bool, true, false}
use Prim.Native.Nat.{ℕ, ◌-◌, ◌≤◌, ◌<◌}
use native.Mathlib.Omega.{arith}
use lib.Dec.{ltb}
use lib.ListN.{get_or, replicate}
use borrow.Author.Tests.{le-ltb, lt-ltb, ltb-true, ltb-false}
use Rattle.rules.specs.Bits.{bit}
use Rattle.std.specs.Prelude.{if◌then◌else◌}
use Rattle.rules.specs.Limits.{bad_count, outside}
use Rattle.rules.proofs.Ranges.{width_range}
use Rattle.rules.proofs.Readings.{Makes}
use Rattle.rules.proofs.Signals.{bit_small, none_below, not_at, place_below, place_above}
use Rattle.rules.proofs.Tables.{or_neither}
use Rattle.rules.proofs.Width.{lt_inside}
use Rattle.confirm.proofs.Stepwise as confirm_steps
use Rattle.vote.proofs.Clauses.{same_sizes as vote_sizes}
use Rattle.vote.proofs.Stepwise as vote_steps
use Rattle.tuple.specs.declared.Tuple.{Tuple}
use Rattle.tuple.specs.declared.TupleStep.{TupleStep}
use Rattle.tuple.specs.Tuple.{width, vote_need, bad_counts, fresh, voter, signal_vote, voters_of, bad_place, bad_places, bad_state, clauses}
use Rattle.tuple.proofs.Clauses.{either_way}
use Rattle.tuple.proofs.Small.{words_small, zeros}

pub record Sound (n : ℕ) (s : Tuple) : Type 0 where
  pub confirm_sound : confirm_steps.Sound n s.confirm
  pub votes_counted : bad_count (vote_need s) ≡ false
  pub places : bad_places n (vote_need s) s.counts ≡ false
  pub agreed_in : outside n s.agreed ≡ false

-- number 7 is not given of it
pub not_bad : (n : ℕ) (s : Tuple) → Sound n s → bad_state s ≡ false
not_bad n s g = let c = g.confirm_sound in simp (c.width, g.places, g.agreed_in, le-ltb _ _ c.small, c.input_in, c.output_in)

-- voters put together a word inside the width, whatever they are fed with
pub voted_inside : (s : Tuple) (a b : ℕ) → outside (width s) (voters_of s a b).word ≡ false
voted_inside s a b = lt_inside (width s) (voters_of s a b).word (words_small (vote_need s) s.agreed s.counts a b (width s))

bit_inside : (i w : ℕ) → outside 1 (bit i w) ≡ false
bit_inside i w = lt_inside 1 (bit i w) (bit_small i w)

-- voter i is a sound state of a plain vote of width 1
module _ (n : ℕ) (s : Tuple) (g : Sound n s) where
  within_32 : n ≤ 32
  within_32 = (width_range n g.confirm_sound.wide).1

  old : (i : ℕ) → i < 32 → bad_place n (vote_need s) (get_or s.counts i 0) i ≡ false
  old = not_at (λ i. bad_place n (vote_need s) (get_or s.counts i 0) i) 32 g.places

  pub above_zero : (k : ℕ) → n ≤ k → k < 32 → get_or s.counts k 0 ≡ 0
  above_zero k l m = omega (arith, ltb-false 0 (get_or s.counts k 0) (rw (le-ltb k n l) at (old k m)))

  pub voter_sound : (i : ℕ) → i < n → vote_steps.Sound 1 (voter s i)
  voter_sound i l =
      let o : ltb (vote_need s - 1) (get_or s.counts i 0) ≡ false = rw (lt-ltb i n l) at (old i (omega (arith, within_32))) in
      record { width = refl; counted = g.votes_counted; wide = refl; small = ltb-false (vote_need s - 1) (get_or s.counts i 0) o; word_in = bit_inside i s.agreed }

  -- the places after a step: below n a vote has counted, at n and above nothing changed
  place_next : (a b i : ℕ) → i < 32 → (p : Bool) → ltb i n ≡ p → bad_place n (vote_need s) (get_or (voters_of s a b).counts i 0) i ≡ false
  place_next a b i l true e =
      let q = ltb-true i n e in
      let f = signal_vote (vote_need s) s.agreed s.counts a b in
      let next = vote_steps.sound_next 1 (voter s i) (bit i a) (bit i b) false (voter_sound i q) (rw (bit_inside i a, bit_inside i b)) in
      let need = (vote_sizes (voter s i) (bit i a) (bit i b) false).1 in
      rw (g.confirm_sound.width, place_below (λ k. (f k).state.count) s.counts n i q, e) (le-ltb _ _ (rw need at next.small))
  place_next a b i l false e =
      rw (g.confirm_sound.width, place_above (λ k. (signal_vote (vote_need s) s.agreed s.counts a b k).state.count) s.counts n i (ltb-false i n e)) (old i l)

  pub places_next : (a b : ℕ) → bad_places n (vote_need s) (voters_of s a b).counts ≡ false
  places_next a b = none_below (λ i. bad_place n (vote_need s) (get_or (voters_of s a b).counts i 0) i) 32 (λ i l. place_next a b i l (ltb i n) refl)

  word_next : (a b : ℕ) → outside n (voters_of s a b).word ≡ false
  word_next a b = rw (← g.confirm_sound.width) (voted_inside s a b)

  -- the clauses leave such a state again
  pub sound_next : (a b : ℕ) → Sound n (clauses s a b).state
  sound_next a b =
      either_way s a b (λ (t : TupleStep). Sound n t.state)
      (record { confirm_sound = g.confirm_sound; votes_counted = g.votes_counted; places = places_next a b; agreed_in = word_next a b })
      (record {
        confirm_sound = confirm_steps.sound_next n s.confirm (voters_of s a b).word g.confirm_sound (word_next a b);
        votes_counted = g.votes_counted;
        places = places_next a b;
        agreed_in = word_next a b;
      })

-- a fresh state is one
pub fresh_sound : (n votes need word : ℕ) → Makes (bad_counts votes need) n word → Sound n (fresh n votes need word)
fresh_sound n votes need word m =
    let counted = or_neither (bad_count votes) (bad_count need) m.counted in
    record {
      confirm_sound = confirm_steps.fresh_sound n need word (record { counted = counted.1; wide = m.wide; word_in = m.word_in });
      votes_counted = counted.0;
      places = none_below (λ i. bad_place n votes (get_or (replicate 32 0) i 0) i) 32 (λ i l. go i (ltb i n));
      agreed_in = m.word_in;
    }
  where
    go : (i : ℕ) (p : Bool) → (if p then ltb (votes - 1) (get_or (replicate 32 0) i 0) else ltb 0 (get_or (replicate 32 0) i 0)) ≡ false
    go i true = rw (zeros 32 i) (le-ltb (votes - 1) 0 (omega arith))
    go i false = rw (zeros 32 i) (le-ltb 0 0 (omega arith))
