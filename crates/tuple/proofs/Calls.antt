-- The state's theorems in the words of the public calls: a fresh state is fit for a step, after an accepted step number 7 is not
-- given, and a step needs no row for the word that its voters put together.
use mathlib.Core.Path.{◌≡◌, refl, sym, ap, ◌∙◌}
use mathlib.Core.List.{List, [], ◌∷◌, ◌++◌}
use mathlib.Core.Bool.{false, ◌||◌, false≢true}
use Prim.Native.Nat.{ℕ}
use Rattle.std.specs.Prelude.{None}
use Rattle.rules.specs.Limits.{outside}
use Rattle.rules.specs.Refusal.{number_in}
use Rattle.rules.specs.Table.{Row, ◌when◌, first, answer, numbered, or_else}
use Rattle.rules.proofs.Readings.{accepted}
use Rattle.rules.proofs.Tables.{one_more, stays}
use Rattle.tuple.specs.declared.Tuple.{Tuple}
use Rattle.rules.specs.declared.answers.Made.{Made}
use Rattle.tuple.specs.Answers.{number_of}
use Rattle.tuple.specs.Tuple.{width, bad_counts, fresh, voters_of, clauses, made, not_made, made_of, rows_of, not_taken, step_of}
use Rattle.tuple.proofs.Exactly.{none_refused, step_exactly, step_number}
use Rattle.tuple.proofs.Sound.{voted_inside, fresh_sound}
use Rattle.tuple.proofs.Stepwise.{made_fresh, step_is_clauses, sound_left}

module _ (s : Tuple) (a b : ℕ) where
  pub step_keeps : number_of (step_of s a b).answer ≡ 0 → (a' b' : ℕ) → number_of (step_of (step_of s a b).state a' b').answer ≡ 7 → ⊥
  step_keeps e a' b' q =
      let none = sym (step_number s a b) ∙ e in
      false≢true (sym (sound_left s a b none) ∙ ((step_exactly (step_of s a b).state a' b' 7).0 q).1.1.1)

  -- with one row more, which refuses a voted word outside the width, whatever its number, each step would be the one that it is
  abbrev with_row : ℕ → List Row
  with_row k = rows_of s a b ++ (k when outside (width s) (voters_of s a b).word ∷ [])

  same_number : (k : ℕ) → first (with_row k) ≡ first (rows_of s a b)
  unfolding numbered
  same_number k = one_more (rows_of s a b) refl k _ ∙ ap (or_else (first (rows_of s a b)) k) (voted_inside s a b) ∙ stays (first (rows_of s a b)) k

  pub no_row_missing : (k : ℕ) → answer (first (with_row k)) (not_taken s) (clauses s a b) ≡ step_of s a b
  unfolding step_of
  no_row_missing k = ap (λ (number : ℕ). answer number (not_taken s) (clauses s a b)) (same_number k)

pub fresh_taken :
    (n votes need word a b : ℕ) → (made_of n votes need word).refusal ≡ None → outside n a || outside n b ≡ false
    → number_of (step_of (made_of n votes need word).state a b).answer ≡ 0
unfolding made_of
fresh_taken n votes need word a b e inside =
    let m = accepted (bad_counts votes need) n word (λ (m : Made Tuple). number_in m.refusal) not_made (made n votes need word) (λ r. refl) refl (ap number_in e) in
    let g = fresh_sound n votes need word m in
    rw (made_fresh n votes need word m, step_is_clauses n (fresh n votes need word) a b g inside) (none_refused (fresh n votes need word) a b)
