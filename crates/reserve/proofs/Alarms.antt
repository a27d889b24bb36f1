-- When the reserve vote alarms, from a fresh state with N at least 1. By `in_parts` its run is two plain votes with one
-- reset between them, and `alarm_exactly` of the vote says when each of them alarms.
use mathlib.Core.Path.{◌≡◌, refl, ap, ◌∙◌}
use mathlib.Core.Logic.Iff
use mathlib.Core.Logic.{◌↔◌, inl, inr, ⊎_elim, dite}
use mathlib.Core.List.{List, [], ◌∷◌, ◌++◌, map, zip}
use mathlib.Core.Bool.{Bool, true, false}
use Prim.Native.Nat.{ℕ, zero, suc, ◌+◌, ◌-◌, ◌≤◌, ◌<◌, min}
use native.Mathlib.Decide.{dec_lt}
use native.Mathlib.Omega.{arith}
use lib.Dec.{eqb}
use lib.ListN.{length, get_or, take, drop, length-take, length-drop, length-map, get_or-append}
use lib.Seq.{drop-cons, get_or-append-add, get_or-drop, get_or-take}
use borrow.Author.Tests.{eq-eqb, eqb-true}
use Rattle.std.specs.Prelude.{if◌then◌else◌}
use Rattle.trace.specs.Trace.{trace, left}
use Rattle.trace.proofs.Steps.{trace_length}
use Rattle.vote.specs.Alarms.{equal, Disagreeing}
use Rattle.vote.specs.Answers.{mark_of}
use Rattle.vote.specs.Parts.{taken_by}
use Rattle.vote.specs.Run.{plain, leaves, steps as vote_steps, shown_mark as vote_mark}
use Rattle.vote.specs.Vote as vote
use Rattle.vote.specs.declared.Vote.{Vote}
use Rattle.vote.proofs.Alarms.{alarm_exactly}
use Rattle.vote.proofs.Clauses.{reset_silent, reset_fresh, same_sizes}
use Rattle.reserve.specs.Alarms.{FirstAlarm, AlarmsAt}
use Rattle.reserve.specs.Parts.{took_over}
use Rattle.reserve.specs.Reserve.{fresh}
use Rattle.reserve.specs.Run.{steps, shown_mark}
use Rattle.reserve.proofs.Parts.{in_parts}

-- what a plain vote marks
abbrev marks : Vote → List (ℕ × ℕ) → List ℕ
marks v xs = map vote_mark (vote_steps v xs)

-- the marks of the first samples are the first marks
marks_take : (v : Vote) (k : ℕ) (xs : List (ℕ × ℕ)) → marks v (take k xs) ≡ take k (marks v xs)
unfolding trace
marks_take v zero xs = refl
marks_take v (suc k) [] = refl
marks_take v (suc k) (x ∷ xs) = ap (λ (l : List ℕ). vote_mark (plain v x) ∷ l) (marks_take (leaves (plain v x)) k xs)

-- of units 1 and 2 no sample is taken after an alarm
alarm_ends : (v : Vote) (us : List (ℕ × ℕ)) (j : ℕ) → get_or (marks v us) j 255 ≡ 2 → taken_by true v us ≤ suc j
unfolding trace taken_by
alarm_ends v [] j e = absurd (omega arith)
alarm_ends v (u ∷ us) zero e = rw (eq-eqb _ _ e) (omega arith)
alarm_ends v (u ∷ us) (suc j) e = go (eqb (vote_mark (plain v u)) 2) (alarm_ends (leaves (plain v u)) us j e) where
  go : (alarm : Bool) {later : ℕ} → later ≤ suc j → suc (if alarm then 0 else later) ≤ suc (suc j)
  go true l = omega arith
  go false l = omega arith

-- and where not all are taken, the last one taken is an alarm
ends_on_alarm : (v : Vote) (us : List (ℕ × ℕ)) → taken_by true v us < length us → (last : ℕ) × (taken_by true v us ≡ suc last) × (get_or (marks v us) last 255 ≡ 2)
unfolding trace taken_by
ends_on_alarm v [] l = absurd (omega arith)
ends_on_alarm v (u ∷ us) l = go _ _ (eqb (vote_mark (plain v u)) 2) refl (ends_on_alarm (leaves (plain v u)) us) l where
  go :
      (m later : ℕ) (alarm : Bool) → eqb m 2 ≡ alarm → let ms = marks (leaves (plain v u)) us in
      (later < length us → (last : ℕ) × (later ≡ suc last) × (get_or ms last 255 ≡ 2)) → suc (if alarm then 0 else later) < suc (length us)
      → (last : ℕ) × (suc (if alarm then 0 else later) ≡ suc last) × (get_or (m ∷ ms) last 255 ≡ 2)
  go m later true q on l = (0, refl, eqb-true m 2 q)
  go m later false q on l = let (last, is, alarm) = on (omega arith) in (suc last, ap suc is, alarm)

-- no step changes N
need_stays : (v : Vote) (xs : List (ℕ × ℕ)) → (left plain leaves v xs).need ≡ v.need
unfolding left
need_stays v [] = refl
need_stays v (x ∷ xs) = need_stays (leaves (plain v x)) xs ∙ (same_sizes v x.0 x.1 false).1

-- N in a row disagree in what comes after sample `over`: they do in the whole trace, and all come after `over`
behind : (need over k i : ℕ) (xs : List (ℕ × ℕ)) → i ≡ over + suc k → Disagreeing need (drop (suc over) xs) k ↔ ((over + need ≤ i) × Disagreeing need xs i)
behind need over k i xs e = (
  λ g. (omega (arith, g.exist), record { exist = omega (arith, g.exist); apart = there g }),
  λ g. record { exist = omega (arith, g.0); apart = λ j l m. rw get_or-drop (g.1.apart (suc over + j) (omega arith) (omega arith)) },
) where
  there : Disagreeing need (drop (suc over) xs) k → (j : ℕ) → j ≤ i → i < j + need → equal (get_or xs j (0, 0)) ≡ false
  there g j l m =
      let place : j ≡ suc over + (j - suc over) = omega (arith, g.exist) in
      rw (place, ← get_or-drop (suc over) xs (j - suc over) (0, 0)) (g.apart (j - suc over) (omega arith) (omega arith))

-- the hand-over, sample `over`, is silent, and after it units 3 and 4 alarm as a plain vote does
over_alarms :
    (s : Vote) → 1 ≤ s.need → (vs : List (ℕ × ℕ)) (over j i : ℕ) → i ≡ over + j → i < length vs
    → (get_or (map vote_mark (took_over s (drop over vs))) j 255 ≡ 2) ↔ ((over + s.need ≤ i) × Disagreeing s.need vs i)
unfolding took_over
over_alarms s some vs over zero i e h =
    rw (drop-cons vs over (0, 0) (omega arith)) (λ a. absurd (reset_silent s _ _ a), λ g. absurd (omega (arith, g.0)))
over_alarms s some vs over (suc k) i e h =
    rw (drop-cons vs over (0, 0) (omega arith), reset_fresh s _ _)
    (Iff.trans (alarm_exactly s.n s.need _ some (drop (suc over) vs) k (omega (arith, length-drop (suc over) vs))) (behind s.need over k i vs e))

-- the alarm of units 1 and 2 is shown at most once
pub first_once : {need i j : ℕ} {us : List (ℕ × ℕ)} → FirstAlarm need us i → FirstAlarm need us j → i ≡ j
first_once {need} {i} {j} f g =
    dite (dec_lt i j) (λ l. absurd (g.none_before i l f.here))
    (λ a. dite (dec_lt j i) (λ l. absurd (f.none_before j l g.here)) (λ b. omega arith))

module _ (n need word : ℕ) (some : 1 ≤ need) (us vs : List (ℕ × ℕ)) (alike : length us ≡ length vs) where
  -- the marks of the run
  abbrev shown : List ℕ
  shown = map shown_mark (steps (fresh n need word) (zip us vs))

  -- the vote at the start, how many samples of units 1 and 2 are taken, and the vote that they leave
  abbrev start : Vote
  start = vote.fresh n need word

  abbrev end : ℕ
  end = taken_by true start us

  abbrev ended : Vote
  ended = left plain leaves start (take end us)

  -- the marks of those samples, and the marks from the hand-over on, are those of the run
  abbrev taken : List ℕ
  taken = take end (marks start us)

  abbrev later : List ℕ
  later = map vote_mark (took_over ended (drop end vs))

  in_two : shown ≡ taken ++ later
  in_two = rw marks_take at (in_parts mark_of start us vs alike)

  taken_long : length taken ≡ min end (length us)
  taken_long = rw (length-take, length-map, trace_length)

  -- where units 1 and 2 have disagreed N times in a row, no more of their samples are taken
  stops : (j : ℕ) → j < length us → Disagreeing need us j → end ≤ suc j
  stops j h d = alarm_ends start us j ((alarm_exactly n need word some us j h).1 d)

  -- so an alarm among the samples taken is the first
  taken_first : (i : ℕ) → i < end → i < length us → get_or (marks start us) i 255 ≡ 2 → FirstAlarm need us i
  taken_first i l h e = record { here = (alarm_exactly n need word some us i h).0 e; none_before = λ j k d. omega (arith, stops j (omega arith) d) }

  -- a sample taken of units 1 and 2 alarms when it is their first alarm
  before : (i : ℕ) → i < length us → i < end → (get_or shown i 255 ≡ 2) ↔ AlarmsAt need us vs i
  before i h l =
      let inside : i < length taken = omega (arith, taken_long) in
      rw (in_two, get_or-append taken later 255 i inside, get_or-take) (
        λ e. inl (taken_first i l h e),
        ⊎_elim (λ f. (alarm_exactly n need word some us i h).1 f.here) (λ r. absurd (omega (arith, stops r.alarmed (omega arith) r.first.here))),
      )

  -- a sample from the hand-over on, which follows that alarm, alarms when units 3 and 4 do
  after : (i : ℕ) → i < length us → (i < end → ⊥) → (get_or shown i 255 ≡ 2) ↔ AlarmsAt need us vs i
  after i h l =
      let place : i ≡ length taken + (i - end) = omega (arith, taken_long) in
      let same : get_or shown i 255 ≡ get_or later (i - end) 255 =
      rw in_two (ap (λ (k : ℕ). get_or (taken ++ later) k 255) place ∙ get_or-append-add taken later (i - end) 255) in
      let (last, is_last, alarm) = ends_on_alarm start us (omega arith) in
      let first = taken_first last (omega arith) (omega arith) alarm in
      let stays = need_stays start (take end us) in
      let alarms = over_alarms ended (omega arith) vs end (i - end) i (omega arith) (omega arith) in
      rw same (
        λ e. let g = alarms.0 e in inr (record { alarmed = last; first = first; here = rw stays at g.1; after = omega arith }),
        ⊎_elim (λ f. absurd (omega (arith, first_once f first))) (λ r. alarms.1 (omega (arith, first_once r.first first), rw stays r.here)),
      )

  -- the theorem, of every trace from a fresh state; N 0 is refused by every call
  pub alarms_exactly : (i : ℕ) → i < length us → (get_or shown i 255 ≡ 2) ↔ AlarmsAt need us vs i
  alarms_exactly i h = dite (dec_lt i end) (before i h) (after i h)

  -- so the N samples that follow the alarm of units 1 and 2, the hand-over among them, are silent
  pub silent_after : (h i : ℕ) → FirstAlarm need us h → h < i → i ≤ h + need → i < length us → get_or shown i 255 ≡ 2 → ⊥
  silent_after h i f m k l e = ⊎_elim (λ g. omega (arith, first_once g f)) (λ r. omega (arith, first_once r.first f)) ((alarms_exactly i l).0 e)
