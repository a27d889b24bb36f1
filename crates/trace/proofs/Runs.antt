-- Every run's answer: what is known before a sample is read, the last row, and when each number is given.
use mathlib.Core.Path.{◌≡◌, refl, sym, ap, ◌∙◌}
use mathlib.Core.Logic.{◌↔◌}
use mathlib.Core.List.{List, [], ◌∷◌, ◌++◌}
use mathlib.Core.Bool.{Bool, true, false}
use Prim.Native.Nat.{ℕ, zero, suc, ◌^◌, ◌<◌, ◌≤◌}
use native.Mathlib.Omega.{arith}
use lib.ListN.{length, take}
use lib.Dec.{eqb}
use borrow.Author.Tests.{ne_eqb, eqb-true, eqb-false, ltb-true}
use Rattle.std.specs.Prelude.{if◌then◌else◌, position, Option, Some, None, MatchOption, Err}
use Rattle.rules.specs.declared.refusal.Refusal.{Refusal}
use Rattle.rules.specs.declared.refusal.Refusal.TheVariants.{Sample}
use Rattle.rules.specs.Refusal.{number, refusal_of, is_refusal, told}
use Rattle.rules.specs.Table.{Row, ◌when◌, first, answer, numbered, known, has, Given, or_else}
use Rattle.rules.specs.Refusals.{run_rows}
use Rattle.rules.proofs.Readings.{Makes, Runs, run_exactly, run_0}
use Rattle.rules.proofs.Tables.{foreign, exactly_when, one_more, own, known_first, known_numbered, told_err, told_some, refuses, works}
use Rattle.trace.specs.Samples.{first_where, somewhere, Smallest}
use Rattle.trace.specs.Answers.{RunResult, done, run_number, run_sample, not_run, at_once, run_answer, sampled_of}
use Rattle.trace.proofs.Samples.{smallest, position_is}

-- a sample's number fits
abbrev pub Fits32 : Option ℕ → Type 0
Fits32 found = MatchOption found (Unit {0}) (λ i. i < 2 ^ 32)

pub few_found : {X : Type 0} (test : X → Bool) (xs : List X) → length xs ≤ 2048 → Fits32 (position test xs)
few_found test xs few = rw (position_is test xs) (go (somewhere test xs) refl) where
  go : (b : Bool) → somewhere test xs ≡ b → Fits32 (if b then Some (first_where test xs) else None)
  go true e = omega (arith, ltb-true (first_where test xs) (length xs) e)
  go false e = tt

-- any table whose last row is 6, for a sample that the test marks
abbrev whole : {X : Type 0} → List Row → (X → Bool) → List X → RunResult
whole rows test xs = answer (first (rows ++ (6 when somewhere test xs ∷ []))) (not_run (first_where test xs)) done

-- below rows that have no 0, and give none, the samples decide
module _ {X : Type 0} (rows : List Row) (nonzero : numbered rows ≡ true) (test : X → Bool) (xs : List X) (e : first rows ≡ 0) where
  pub samples_number : first (rows ++ (6 when somewhere test xs ∷ [])) ≡ or_else 0 6 (somewhere test xs)
  samples_number = one_more rows nonzero 6 _ ∙ rw e

  pub samples_decide : sampled_of (position test xs) ≡ whole rows test xs
  unfolding refusal_of
  samples_decide = rw (samples_number, position_is test xs) (go (somewhere test xs)) where
    go :
        (b : Bool) → sampled_of (if b then Some (first_where test xs) else None)
        ≡ answer (or_else 0 6 b) (not_run (first_where test xs)) done
    go true = refl
    go false = refl

-- below rows that have refusals' numbers, but not 6
module _ {X : Type 0} (rows : List Row) (named : known rows ≡ true) (no_six : has 6 rows ≡ false) (test : X → Bool) (xs : List X) where
  -- one of them refuses, at sample 0
  pub early_row_refuses : {refusal : Refusal} → told (first rows) ≡ Err refusal → Err (at_once refusal) ≡ whole rows test xs
  early_row_refuses {refusal} e =
      let r = told_err e in
      let numbered : number refusal ≡ first rows = ap number (sym r.1) ∙ own (first rows) (known_first rows named r.0) in
      simp (
        one_more rows (known_numbered rows named) 6 (somewhere test xs),
        ne_eqb (first rows) 0 r.0,
        r.1,
        numbered,
        ne_eqb (first rows) 6 (foreign 6 rows (omega arith) no_six),
      )

  -- 6 comes with the smallest sample, and any other number with 0
  abbrev SampleTold : RunResult → Type 0
  SampleTold r = (run_number r ≡ 6 → Smallest test xs (run_sample r)) × ((run_number r ≡ 6 → ⊥) → run_sample r ≡ 0)

  six : refusal_of 6 ≡ Sample
  unfolding refusal_of
  six = refl

  pub sample_told : SampleTold (whole rows test xs)
  sample_told = rw (one_more rows (known_numbered rows named) 6 _) (go (first rows) (somewhere test xs) (foreign 6 rows (omega arith) no_six) (known_first rows named) refl) where
    go : (k : ℕ) (b : Bool) → (k ≡ 6 → ⊥) → ((k ≡ 0 → ⊥) → is_refusal k ≡ true) → somewhere test xs ≡ b → SampleTold (answer (or_else k 6 b) (not_run (first_where test xs)) done)
    go zero true n f q = rw six (λ e. smallest test xs q, λ h. absurd (h refl))
    go zero false n f q = (λ e. absurd (n e), λ h. refl)
    go (suc k) b n f q =
        let u : suc k ≡ 0 → ⊥ = λ e. omega arith in
        simp (ne_eqb (suc k) 0 u, own (suc k) (f u), ne_eqb (suc k) 6 n) (λ e. absurd (n e), λ h. refl)

module _ (miscounted : Bool) (n word : ℕ) (long unequal : Bool) where
  -- the number before a sample is read, where row 6 is false, and the rows that give it
  abbrev pub early : ℕ
  early = first (run_rows miscounted n word long unequal false)

  abbrev early_rows : List Row
  early_rows = take 5 (run_rows miscounted n word long unequal false)

  module _ {X : Type 0} (out : ℕ → X → Bool) (xs : List X) where
    abbrev answered : RunResult
    answered = run_answer out miscounted n word long unequal xs

    -- the two ways to answer, as code finds them
    pub refused_early : {refusal : Refusal} → told early ≡ Err refusal → Err (at_once refusal) ≡ answered
    unfolding run_answer first known refusal_of
    refused_early = early_row_refuses early_rows refl refl (out n) xs

    pub sampled : early ≡ 0 → sampled_of (position (out n) xs) ≡ answered
    unfolding run_answer first numbered refusal_of
    sampled = samples_decide early_rows refl (out n) xs

    -- and as one: what is known at once, or the samples
    pub early_or_sampled : (found : Option ℕ) → (early ≡ 0 → found ≡ position (out n) xs) → answer early (λ r. Err (at_once r)) (sampled_of found) ≡ answered
    early_or_sampled found same = go (eqb early 0) refl where
      go : (b : Bool) → eqb early 0 ≡ b → answer early (λ r. Err (at_once r)) (sampled_of found) ≡ answered
      go true q =
          let e = eqb-true early 0 q in
          sym (works (λ r. Err (at_once r)) (sampled_of found) early e) ∙ ap sampled_of (same e) ∙ sampled e
      go false q =
          let e = told_some (eqb-false early 0 q) in
          sym (refuses (λ r. Err (at_once r)) (sampled_of found) early e) ∙ refused_early e

    -- each number is given exactly when the table says so
    pub answer_exactly : (k : ℕ) → (run_number answered ≡ k) ↔ Given k (run_rows miscounted n word long unequal (somewhere (out n) xs))
    unfolding run_answer known refusal_of
    answer_exactly = exactly_when run_number _ (not_run (first_where (out n) xs)) done refl (λ r. refl) refl

    pub answer_done : answered ≡ done → Runs miscounted n word long unequal (somewhere (out n) xs)
    answer_done e = (run_0 miscounted n word long unequal _).0 ((run_exactly miscounted n word long unequal _ 0).1 ((answer_exactly 0).0 (ap run_number e)))

    pub done_when : Runs miscounted n word long unequal (somewhere (out n) xs) → answered ≡ done
    unfolding run_answer
    done_when r = rw ((run_0 miscounted n word long unequal (somewhere (out n) xs)).1 r)

    -- 6 comes with the smallest sample, and any other number with 0
    pub six_smallest : run_number answered ≡ 6 → Smallest (out n) xs (run_sample answered)
    unfolding run_answer known refusal_of
    six_smallest = (sample_told early_rows refl refl (out n) xs).0

    pub other_zero : (run_number answered ≡ 6 → ⊥) → run_sample answered ≡ 0
    unfolding run_answer known refusal_of
    other_zero = (sample_told early_rows refl refl (out n) xs).1

-- an empty trace is accepted
pub empty_done : {X : Type 0} (out : ℕ → X → Bool) (miscounted : Bool) (n word : ℕ) → Makes miscounted n word → run_answer out miscounted n word false false [] ≡ done
unfolding run_answer first first_where
empty_done out miscounted n word m = simp (m.counted, m.wide, m.word_in)
