-- Each output of a confirmation was shown by the plant: by induction over the trace, from weaker premises than demand 3's.
use mathlib.Core.Path.{◌≡◌, refl, sym, ◌∙◌}
use mathlib.Core.Logic.{◌≢◌, dite}
use Prim.Native.Nat.{ℕ, suc, ◌+◌, ◌-◌, ◌*◌, ◌≤◌, ◌<◌}
use native.Mathlib.Omega.{arith}
use native.Mathlib.Decide.{dec_le}
use native.Mathlib.Nat.{mul-le-mul_right, one-mul}
use lib.ListN.{length}
use Rattle.confirm.specs.declared.Confirm.{Confirm}
use Rattle.confirm.specs.Confirm.{held, confirmed, clauses}
use Rattle.plant.specs.Plant.{Watch, age_of, ShownBy, TrulyShown, outputs}
use Rattle.plant.specs.Weaker.{Sufficient}
use Rattle.plant.proofs.Words.{apart, apart_most}
use Rattle.plant.proofs.Tracks.{input, Tracks, tracks_fresh, by_clause, alike_on, tracks_next, along}
use Rattle.plant.proofs.Sights.{instant, Sight, Ordered, anchored, one_more, one_apart, not_old, start_sight, ordered, far_ordered}

-- Young: no input has differed from the initial word yet, and they are too few to confirm it.
record Young (w : Watch) (s : Confirm) (k : ℕ) : Type 0 where
  all : k ≤ s.count
  output_is : s.output ≡ w.initial

-- Early: nothing has been confirmed yet, and at most D has passed since the start. The last run of alike inputs follows input q.
record Early (w : Watch) (start : ℕ) (s : Confirm) (k : ℕ) : Type 0 where
  q : ℕ
  ran : q + suc s.count ≡ k
  differs : input w q ≢ input w k
  soon : instant w start k ≤ start + w.d
  output_is : s.output ≡ w.initial

-- Stale: the output was in sight at input q, and since then the signals have moved so often that there was no time to confirm
-- another word: each run of alike inputs has at most N of them, of which the last has count + 1 so far.
record Stale (w : Watch) (start : ℕ) (s : Confirm) (k : ℕ) : Type 0 where
  q : ℕ
  past : q ≤ k
  going : 1 ≤ k
  sight : Sight w start q s.output
  in_order : Ordered w start q k
  moved : k + w.need ≤ q + apart w.n (input w q) (input w k) * w.need + suc s.count

data Known (w : Watch) (start : ℕ) (s : Confirm) (k : ℕ) : Type 0 where
  is_young : Young w s k → Known w start s k
  is_early : Early w start s k → Known w start s k
  is_stale : Stale w start s k → Known w start s k

abbrev After : Watch → ℕ → Confirm → ℕ → Type 0
After w start s k = Tracks w s k × Known w start s k

module _ (w : Watch) (start : ℕ) (o : Sufficient w start) where
  abbrev end : ℕ
  end = length w.samples

  some : 1 ≤ w.need
  some = omega (arith, o.counted)

  -- a young state's output is its input, which is in sight
  young_sight : (s : Confirm) (k : ℕ) → k ≤ end → Tracks w s k → Young w s k → Sight w start k s.output
  young_sight s k l tr y =
      rw (y.output_is ∙ tr.alike 0 (omega arith) (omega arith))
      (anchored w start o k l (tr.alike (k - w.need) (omega arith) (omega arith)))

  -- a stale state's sight is at most n runs of N inputs back
  near : (s : Confirm) (k : ℕ) → Tracks w s k → (h : Stale w start s k) → k ≤ h.q + w.n * w.need
  near s k tr h = omega (arith, mul-le-mul_right w.need (apart_most w.n (input w h.q) (input w k)))

  in_time : (s : Confirm) (k : ℕ) → k ≤ end → After w start s k → ShownBy w.plant s.output (instant w start k) (age_of w)
  in_time s k l (tr, is_young y) = not_old w start o k k s.output (omega arith) l (omega arith) (young_sight s k l tr y)
  in_time s k l (tr, is_early e) =
      not_old w start o k k s.output (omega arith) l (omega arith) (rw e.output_is (start_sight w start o k k (omega arith) l e.soon))
  in_time s k l (tr, is_stale h) = not_old w start o h.q k s.output h.past l (near s k tr h) h.sight

  -- the three clauses, on the next input
  module _ (s : Confirm) (k : ℕ) (l : k < end) (tr : Tracks w s k) where
    abbrev next : ℕ
    next = input w (suc k)

    abbrev Soon : Type 0
    Soon = instant w start (suc k) ≤ start + w.d

    -- an output that is held stays as it was seen
    stays_stale :
        (h : Stale w start s k) (count : ℕ)
        → suc k + w.need ≤ h.q + apart w.n (input w h.q) next * w.need + suc count
        → Known w start (held s next count).state (suc k)
    stays_stale h count moved = is_stale (record {
      q = h.q;
      past = omega (arith, h.past);
      going = omega arith;
      sight = h.sight;
      in_order = λ i il. omega (arith, h.in_order i il, ordered w start o k (suc k) h.going (omega arith) l i il);
      moved = moved;
    })

    module _ (d : next ≢ input w k) where
      abbrev changing : Confirm
      changing = (held s next 0).state

      -- an output that is in sight at input k was there before the change
      turns_stale : Sight w start k s.output → Ordered w start k (suc k) → Known w start changing (suc k)
      turns_stale h after = is_stale (record {
        q = k;
        past = omega arith;
        going = omega arith;
        sight = h;
        in_order = after;
        moved = omega (arith, one_more w start o k k (omega arith) l (omega arith) (λ i il. omega arith) after d);
      })

      -- in the time D after the start there is no need to look further
      not_confirmed : s.output ≡ w.initial → Sight w start k s.output → Known w start changing (suc k)
      not_confirmed e h =
          dite (dec_le (instant w start (suc k)) (start + w.d))
          (λ soon. is_early (record { q = k; ran = omega arith; differs = λ p. d (sym p); soon = soon; output_is = e }))
          (λ far. turns_stale h (far_ordered w start o k (suc k) (omega arith) l (omega arith)))

      changed : Known w start s k → Known w start changing (suc k)
      changed (is_young y) = not_confirmed y.output_is (young_sight s k (omega arith) tr y)
      changed (is_early e) = not_confirmed e.output_is (rw e.output_is (start_sight w start o k k (omega arith) (omega arith) e.soon))
      changed (is_stale h) =
          stays_stale h 0 (omega (arith, h.moved, tr.waits, one_more w start o h.q k h.past l (near s k tr h) h.in_order (ordered w start o k (suc k) h.going (omega arith) l) d))

    module _ (e : next ≡ input w k) where
      abbrev counting : Confirm
      counting = (held s next (s.count + 1)).state

      -- a run that outlasts the time D after the start
      outlasts : Early w start s k → (Soon → ⊥) → Known w start counting (suc k)
      outlasts h far =
          let past : h.q ≤ k = omega (arith, h.ran) in
          is_stale (record {
            q = h.q;
            past = omega arith;
            going = omega arith;
            sight = rw h.output_is (start_sight w start o h.q k past (omega arith) h.soon);
            in_order = far_ordered w start o h.q (suc k) (omega arith) l (omega arith);
            moved =
                rw e
                (omega (arith, h.ran, one-mul w.need, mul-le-mul_right w.need (one_apart w start o h.q k (omega arith) (omega arith) h.differs)));
          })

      counted : Known w start s k → Known w start counting (suc k)
      counted (is_young y) = is_young (record { all = omega (arith, y.all); output_is = y.output_is })
      counted (is_early h) =
          dite (dec_le (instant w start (suc k)) (start + w.d))
          (λ soon. is_early (record { q = h.q; ran = omega (arith, h.ran); differs = λ p. h.differs (p ∙ e); soon = soon; output_is = h.output_is }))
          (outlasts h)
      counted (is_stale h) = stays_stale h (s.count + 1) (rw e (omega (arith, h.moved)))

      confirming : w.need - 1 ≤ s.count → Known w start (confirmed s next).state (suc k)
      confirming m = is_stale (record {
        q = suc k;
        past = omega arith;
        going = omega arith;
        sight = anchored w start o (suc k) l (alike_on w some s k tr e (suc k - w.need) (omega arith) (omega arith));
        in_order = λ i il. omega arith;
        moved = omega (arith, tr.waits);
      })

  stepped : (s : Confirm) (k : ℕ) → k < end → After w start s k → After w start (clauses s (input w (suc k))).state (suc k)
  stepped s k l (tr, known) = (
    tracks_next w some s k tr,
    by_clause w some s k tr (λ z. Known w start z (suc k)) (λ d. changed s k l tr d known) (λ e m. counted s k l tr e known) (confirming s k l tr),
  )

  pub outputs_shown : TrulyShown w (outputs w)
  outputs_shown =
      along w (After w start) (λ k word. ShownBy w.plant word (w.taken k) (age_of w)) stepped (λ s k l. in_time s (suc k) l)
      (tracks_fresh w some, is_young (record { all = omega arith; output_is = refl }))
