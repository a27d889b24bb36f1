-- The four tables read out: each number, exactly when its row's test is true and no lower row's is; 0, nothing refused,
-- exactly when no test is true. Every voter's calls have these tables, so this page is read once for all of them.
use mathlib.Core.Path.{◌≡◌, refl, sym, ap, ◌∙◌}
use mathlib.Core.Logic.{◌↔◌}
use mathlib.Core.List.{List}
use mathlib.Core.Bool.{Bool, true, false}
use Prim.Native.Nat.{ℕ, ◌-◌, ◌^◌}
use lib.Dec.{eqb}
use borrow.Author.Tests.{eqb-true}
use Rattle.std.specs.Prelude.{if◌then◌else◌}
use Rattle.rules.specs.Limits.{bad_width, outside, default_word}
use Rattle.rules.specs.Table.{Row, first, answer, numbered, known, rising, Given, LowestOf, ◌and◌}
use Rattle.rules.specs.declared.refusal.Refusal.{Refusal}
use Rattle.rules.specs.Refusal.{number, refusal_of}
use Rattle.rules.specs.Refusals.{make_rows, new_rows, step_rows, run_rows}
use Rattle.rules.proofs.Default.{default_inside, default_is}
use Rattle.rules.proofs.Tables.{exactly, lowest, works, own_number}

module _ (miscounted : Bool) (n word : ℕ) where
  abbrev making : List Row
  making = make_rows miscounted n word

  pub make_exactly : (k : ℕ) → (first making ≡ k) ↔ Given k making
  unfolding numbered
  make_exactly = exactly making refl

  pub make_1 : (first making ≡ 1) ↔ miscounted ≡ true
  make_1 = make_exactly 1

  pub make_2 : (first making ≡ 2) ↔ miscounted ≡ false and bad_width n ≡ true
  make_2 = make_exactly 2

  pub make_5 : (first making ≡ 5) ↔ miscounted ≡ false and bad_width n ≡ false and outside n word ≡ true
  make_5 = make_exactly 5

  pub record Makes : Type 0 where
    pub counted : miscounted ≡ false
    pub wide : bad_width n ≡ false
    pub word_in : outside n word ≡ false

  pub make_0 : (first making ≡ 0) ↔ Makes
  make_0 = (
    λ e. let g = (make_exactly 0).0 e in record { counted = g.0; wide = g.1.0; word_in = g.1.1.0 },
    λ m. (make_exactly 0).1 (m.counted, (m.wide, (m.word_in, refl))),
  )

  -- a constructor that refuses nothing does its work
  pub makes : {A : Type 0} (refuse : Refusal → A) (work : A) → Makes → answer (first making) refuse work ≡ work
  makes refuse work m = sym (works refuse work _ (make_0.1 m))

  -- and where it shows no refusal, its tests were all false
  pub accepted :
      {A : Type 0} (number_of : A → ℕ) (refuse : Refusal → A) (work : A)
      → ((refusal : Refusal) → number_of (refuse refusal) ≡ number refusal)
      → number_of work ≡ 0
      → number_of (answer (first making) refuse work) ≡ 0
      → Makes
  unfolding known refusal_of
  accepted number_of refuse work given none e = make_0.0 (sym (own_number number_of making refuse work refl given none) ∙ e)

  -- where several apply, the lowest number is given
  pub make_lowest : LowestOf making
  unfolding rising
  make_lowest = lowest making refl

-- a constructor that takes no word
module _ (miscounted : Bool) (n : ℕ) where
  abbrev newing : List Row
  newing = new_rows miscounted n

  pub new_exactly : (k : ℕ) → (first newing ≡ k) ↔ Given k newing
  unfolding numbered
  new_exactly = exactly newing refl

  pub new_1 : (first newing ≡ 1) ↔ miscounted ≡ true
  new_1 = new_exactly 1

  pub new_2 : (first newing ≡ 2) ↔ miscounted ≡ false and bad_width n ≡ true
  new_2 = new_exactly 2

  pub new_0 : (first newing ≡ 0) ↔ miscounted ≡ false and bad_width n ≡ false
  new_0 = (λ e. let g = (new_exactly 0).0 e in (g.0, g.1.0), λ m. (new_exactly 0).1 (m.0, (m.1, refl)))

  pub new_lowest : LowestOf newing
  unfolding rising
  new_lowest = lowest newing refl

  -- the default word is inside, so the table with a word gives the same number, and never 5
  same_number : first (make_rows miscounted n (default_word n)) ≡ first newing
  unfolding first
  same_number = rw (default_inside n)

  -- and where it gives none, the work is done from all ones
  pub from_default_lem :
      {A : Type 0} (refuse : Refusal → A) (work : ℕ → A)
      → answer (first (make_rows miscounted n (default_word n))) refuse (work (default_word n)) ≡ answer (first newing) refuse (work (2 ^ n - 1))
  from_default_lem refuse work = rw same_number (go (eqb (first newing) 0) refl) where
    go : (b : Bool) → eqb (first newing) 0 ≡ b → (if b then work (default_word n) else refuse (refusal_of (first newing))) ≡ (if b then work (2 ^ n - 1) else refuse (refusal_of (first newing)))
    go true e = ap work (default_is n (new_0.0 (eqb-true (first newing) 0 e)).1)
    go false e = refl

module _ (miscounted : Bool) (n : ℕ) (outlying damaged : Bool) where
  abbrev stepping : List Row
  stepping = step_rows miscounted n outlying damaged

  pub step_exactly : (k : ℕ) → (first stepping ≡ k) ↔ Given k stepping
  unfolding numbered
  step_exactly = exactly stepping refl

  pub step_1 : (first stepping ≡ 1) ↔ miscounted ≡ true
  step_1 = step_exactly 1

  pub step_2 : (first stepping ≡ 2) ↔ miscounted ≡ false and bad_width n ≡ true
  step_2 = step_exactly 2

  pub step_6 : (first stepping ≡ 6) ↔ miscounted ≡ false and bad_width n ≡ false and outlying ≡ true
  step_6 = step_exactly 6

  pub step_7 : (first stepping ≡ 7) ↔ miscounted ≡ false and bad_width n ≡ false and outlying ≡ false and damaged ≡ true
  step_7 = step_exactly 7

  pub record Steps : Type 0 where
    pub counted : miscounted ≡ false
    pub wide : bad_width n ≡ false
    pub sample_in : outlying ≡ false
    pub sound : damaged ≡ false

  pub step_0 : (first stepping ≡ 0) ↔ Steps
  step_0 = (
    λ e. let g = (step_exactly 0).0 e in record { counted = g.0; wide = g.1.0; sample_in = g.1.1.0; sound = g.1.1.1.0 },
    λ m. (step_exactly 0).1 (m.counted, (m.wide, (m.sample_in, (m.sound, refl)))),
  )

  pub step_lowest : LowestOf stepping
  unfolding rising
  step_lowest = lowest stepping refl

module _ (miscounted : Bool) (n word : ℕ) (long unequal outlying : Bool) where
  abbrev running : List Row
  running = run_rows miscounted n word long unequal outlying

  pub run_exactly : (k : ℕ) → (first running ≡ k) ↔ Given k running
  unfolding numbered
  run_exactly = exactly running refl

  pub run_1 : (first running ≡ 1) ↔ miscounted ≡ true
  run_1 = run_exactly 1

  pub run_2 : (first running ≡ 2) ↔ miscounted ≡ false and bad_width n ≡ true
  run_2 = run_exactly 2

  pub run_3 : (first running ≡ 3) ↔ miscounted ≡ false and bad_width n ≡ false and long ≡ true
  run_3 = run_exactly 3

  pub run_4 : (first running ≡ 4) ↔ miscounted ≡ false and bad_width n ≡ false and long ≡ false and unequal ≡ true
  run_4 = run_exactly 4

  pub run_5 : (first running ≡ 5) ↔ miscounted ≡ false and bad_width n ≡ false and long ≡ false and unequal ≡ false and outside n word ≡ true
  run_5 = run_exactly 5

  pub run_6 : (first running ≡ 6) ↔ miscounted ≡ false and bad_width n ≡ false and long ≡ false and unequal ≡ false and outside n word ≡ false and outlying ≡ true
  run_6 = run_exactly 6

  pub record Runs : Type 0 where
    pub counted : miscounted ≡ false
    pub wide : bad_width n ≡ false
    pub short : long ≡ false
    pub alike : unequal ≡ false
    pub word_in : outside n word ≡ false
    pub samples_in : outlying ≡ false

  -- the constructor's tests are among them
  pub run_makes : Runs → Makes miscounted n word
  run_makes r = record { counted = r.counted; wide = r.wide; word_in = r.word_in }

  pub run_0 : (first running ≡ 0) ↔ Runs
  run_0 = (
    λ e.
        let g = (run_exactly 0).0 e in
        record { counted = g.0; wide = g.1.0; short = g.1.1.0; alike = g.1.1.1.0; word_in = g.1.1.1.1.0; samples_in = g.1.1.1.1.1.0 },
    λ m. (run_exactly 0).1 (m.counted, (m.wide, (m.short, (m.alike, (m.word_in, (m.samples_in, refl)))))),
  )

  pub run_lowest : LowestOf running
  unfolding rising
  run_lowest = lowest running refl
