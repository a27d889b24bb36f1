-- The two ways in which a call of the boundary ends, whatever it made: refused, and nothing was written; or taken, and all was.
use Prim.Native.Nat.{ℕ}
use mathlib.Core.Path.{◌≡◌, refl, sym, ◌∙◌}
use mathlib.Core.List.{List}
use borrow.Author.Tests.{ne_eqb}
use Rattle.scorvemaglio.specs.Lent.{Makes, Steps}

pub not_made_lem : {number : ℕ} {written lent : List ℕ} → (number ≡ 0 → ⊥) → Makes number written lent number lent
not_made_lem h = record { answered = refl; place_after = rw (ne_eqb _ _ h) }

pub made : {number : ℕ} {written lent : List ℕ} → number ≡ 0 → Makes number written lent 0 written
made e = record { answered = sym e; place_after = rw e }

pub not_taken_lem :
    {number r : ℕ} {next shown state answer : List ℕ} → r ≡ number → (r ≡ 0 → ⊥)
    → Steps number next shown state answer r state answer
not_taken_lem e h = record { answered = e; state_after = rw (← e, ne_eqb _ _ h); answer_after = rw (← e, ne_eqb _ _ h) }

pub taken :
    {number r : ℕ} {next shown state answer : List ℕ} → r ≡ number → r ≡ 0
    → Steps number next shown state answer 0 next shown
taken e z = record { answered = sym z ∙ e; state_after = rw (← e, z); answer_after = rw (← e, z) }
