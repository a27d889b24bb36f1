-- T-02: what each of the two counts decides. The voted words depend on neither, and the masks on the voters' alone; a greater one
-- only takes alarms away. In runs without an alarm the words and marks depend on the confirmation's alone.
use mathlib.Core.Path.{◌≡◌, refl, sym, ap, ◌∙◌}
use mathlib.Core.List.{List, [], ◌∷◌, map}
use mathlib.Core.Bool.{false}
use Prim.Native.Nat.{ℕ, zero, suc, ◌≤◌, ◌<◌}
use native.Mathlib.Omega.{arith}
use lib.ListN.{length, get_or}
use lib.Pow.{pow_pos}
use Rattle.rules.specs.Bits.{bit}
use Rattle.rules.specs.Limits.{outside}
use Rattle.rules.specs.Signals.{as_word}
use Rattle.rules.proofs.Signals.{bit_small}
use Rattle.rules.proofs.Width.{inside_lt, words_agree}
use Rattle.trace.proofs.Steps.{at_each, follows_at}
use Rattle.confirm.specs.Confirm as confirm
use Rattle.confirm.specs.Run as confirm_run
use Rattle.confirm.specs.Answers.{ConfirmStep}
use Rattle.tuple.specs.declared.Tuple.{Tuple}
use Rattle.tuple.specs.declared.TupleStep.{TupleStep}
use Rattle.tuple.specs.declared.Voters.{Voters}
use Rattle.tuple.specs.Disagreement.{disagreement, bit_by}
use Rattle.tuple.specs.Run.{leaves, stepped, steps, shown_mask}
use Rattle.tuple.specs.Tuple.{width, vote_need, fresh, voters_of, confirmed_as, clauses}
use Rattle.tuple.proofs.Agreeing.{zero_bit}
use Rattle.tuple.proofs.Clauses.{same_sizes, voters_left}
use Rattle.tuple.proofs.Disagreement.{look}
use Rattle.tuple.proofs.Masks.{mask_shown, mask_inside}
use Rattle.tuple.proofs.Runs.{mask_exactly, quiet_run}

abbrev voted : TupleStep → ℕ
voted t = t.state.agreed

-- two states of one width and one agreed word
record Agreed (s s' : Tuple) : Type 0 where
  same_width : width s ≡ width s'
  same_word : s.agreed ≡ s'.agreed

-- whose voters are the same, too
record Voting (s s' : Tuple) : Type 0 where
  agreed : Agreed s s'
  same_votes : vote_need s ≡ vote_need s'
  same_counts : s.counts ≡ s'.counts

-- by the word of disagreements, the voted word is told without a count
voted_so :
    (s : Tuple) (a b : ℕ) → let d = disagreement (width s) a b in
    voted (clauses s a b) ≡ as_word (width s) (λ i. bit_by (bit i a) (bit i s.agreed) (bit i d))
voted_so s a b = (voters_left s a b).0 ∙ ap (λ (v : Voters). v.word) (sym (look (width s) (vote_need s) s.agreed s.counts a b))

module _ (s s' : Tuple) (a b : ℕ) where
  word_next : Agreed s s' → voted (clauses s a b) ≡ voted (clauses s' a b)
  word_next r = voted_so s a b ∙ rw (r.same_width, r.same_word) (sym (voted_so s' a b))

  agreed_next : Agreed s s' → Agreed (clauses s a b).state (clauses s' a b).state
  agreed_next r = record { same_width = (same_sizes s a b).0 ∙ r.same_width ∙ sym (same_sizes s' a b).0; same_word = word_next r }

  same_voters : Voting s s' → voters_of s a b ≡ voters_of s' a b
  same_voters r = rw (r.agreed.same_width, r.same_votes, r.agreed.same_word, r.same_counts)

  voting_next : Voting s s' → Voting (clauses s a b).state (clauses s' a b).state
  voting_next r =
      record {
        agreed = agreed_next r.agreed;
        same_votes = (same_sizes s a b).1 ∙ r.same_votes ∙ sym (same_sizes s' a b).1;
        same_counts = (voters_left s a b).1 ∙ ap (λ (v : Voters). v.counts) (same_voters r) ∙ sym (voters_left s' a b).1;
      }

  mask_next : Voting s s' → shown_mask (clauses s a b) ≡ shown_mask (clauses s' a b)
  mask_next r = mask_shown s a b ∙ ap (λ (v : Voters). v.mask) (same_voters r) ∙ sym (mask_shown s' a b)

-- the mask that is shown at sample k, and its bit i
abbrev mask_at : ℕ → List TupleStep → ℕ
mask_at k ts = get_or (map shown_mask ts) k 0

abbrev alarmed : ℕ → ℕ → List TupleStep → ℕ
alarmed i k ts = get_or (map (λ (t : TupleStep). bit i (shown_mask t)) ts) k 0

bit_of : (ts : List TupleStep) (i k : ℕ) → alarmed i k ts ≡ bit i (mask_at k ts)
bit_of [] i k = sym (zero_bit i)
bit_of (t ∷ ts) i zero = refl
bit_of (t ∷ ts) i (suc k) = bit_of ts i k

-- runs of any length, from fresh states
module _ (n word : ℕ) (xs : List (ℕ × ℕ)) where
  abbrev taken : ℕ → ℕ → List TupleStep
  taken votes need = steps (fresh n votes need word) xs

  abbrev Silent : List TupleStep → Type 0
  Silent ts = (k : ℕ) → k < length xs → mask_at k ts ≡ 0

  pub voted_by_neither : (votes need votes' need' : ℕ) → map voted (taken votes need) ≡ map voted (taken votes' need')
  voted_by_neither votes need votes' need' =
      follows_at stepped leaves stepped leaves voted voted (0, 0) (0, 0) (λ k. Agreed) xs xs refl
      (λ k s s' l r. (agreed_next s s' _ _ r, word_next s s' _ _ r)) (fresh n votes need word) (fresh n votes' need' word) (record { same_width = refl; same_word = refl })

  pub masks_by_votes : (votes need need' : ℕ) → map shown_mask (taken votes need) ≡ map shown_mask (taken votes need')
  masks_by_votes votes need need' =
      follows_at stepped leaves stepped leaves shown_mask shown_mask (0, 0) (0, 0) (λ k. Voting) xs xs refl
      (λ k s s' l r. (voting_next s s' _ _ r, mask_next s s' _ _ r)) (fresh n votes need word) (fresh n votes need' word)
      (record { agreed = record { same_width = refl; same_word = refl }; same_votes = refl; same_counts = refl })

  -- with a greater count for the voters, a signal alarms only where it did with the lesser
  pub fewer_alarms :
      (votes votes' need : ℕ) → 1 ≤ votes → votes ≤ votes' → (i : ℕ) → i < n → (k : ℕ) → k < length xs
      → alarmed i k (taken votes' need) ≡ 1 → alarmed i k (taken votes need) ≡ 1
  fewer_alarms votes votes' need some more i l k h e =
      let d = (mask_exactly n votes' need word (omega arith) i l xs k h).0 e in
      (mask_exactly n votes need word some i l xs k h).1 (record { exist = omega (arith, d.exist); apart = λ j m q. d.apart j m (omega arith) })

  mask_in : (votes need k : ℕ) → k < length xs → outside n (mask_at k (taken votes need)) ≡ false
  mask_in votes need k l =
      at_each stepped leaves (0, 0) shown_mask 0 (λ k (t : Tuple). width t ≡ n) (λ k w. outside n w ≡ false) xs
      (λ k t l e. let x = get_or xs k (0, 0) in ((same_sizes t x.0 x.1).0 ∙ e, rw (← e) (mask_inside t x.0 x.1))) (fresh n votes need word) refl k l

  -- so where none alarmed with the lesser none does, and the answers are the same
  pub stays_silent : (votes votes' need : ℕ) → 1 ≤ votes → votes ≤ votes' → Silent (taken votes need) → Silent (taken votes' need)
  stays_silent votes votes' need some more silent k l =
      let mask = mask_at k (taken votes' need) in
      words_agree n mask 0 (inside_lt n mask (mask_in votes' need k l)) (pow_pos n)
      (λ i h.
      let none : bit i mask ≡ 1 → ⊥ =
      λ e. let one = fewer_alarms votes votes' need some more i h k l (bit_of (taken votes' need) i k ∙ e) in
      omega (arith, one, bit_of (taken votes need) i k ∙ ap (bit i) (silent k l) ∙ zero_bit i) in
      omega (arith, none, bit_small i mask, zero_bit i))

  pub quiet_by_need :
      (votes votes' need : ℕ) → 1 ≤ votes → votes ≤ votes' → Silent (taken votes need)
      → map (λ (t : TupleStep). t.answer) (taken votes need) ≡ map (λ (t : TupleStep). t.answer) (taken votes' need)
  quiet_by_need votes votes' need some more silent =
      quiet_run (fresh n votes need word) xs silent
      ∙ ap (λ (words : List ℕ). map (λ (t : ConfirmStep). confirmed_as t.answer) (confirm_run.steps (confirm.fresh n need word) words)) (voted_by_neither votes need votes' need)
      ∙ sym (quiet_run (fresh n votes' need word) xs (stays_silent votes votes' need some more silent))
