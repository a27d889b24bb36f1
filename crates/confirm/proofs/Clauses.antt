-- What the clauses of a confirmation keep: the width, N, and as the output the word that is shown.
use mathlib.Core.Path.{◌≡◌, refl, sym, ap}
use mathlib.Core.Bool.{Bool, true, false, not}
use Prim.Native.Nat.{ℕ, ◌+◌, ◌-◌, ◌≤◌}
use native.Mathlib.Omega.{arith}
use lib.Dec.{ltb, eqb}
use borrow.Author.Tests.{eq-eqb}
use Rattle.std.specs.Prelude.{if◌then◌else◌}
use Rattle.confirm.specs.declared.Confirm.{Confirm}
use Rattle.confirm.specs.Answers.{ConfirmStep}
use Rattle.confirm.specs.declared.ConfirmAnswer.TheVariants.{Confirmed}
use Rattle.confirm.specs.Confirm.{held, confirmed, clauses}
use Rattle.confirm.specs.Run.{shown_word, shown_mark}

-- the clauses, of any two tests
abbrev pub by_tests : Confirm → ℕ → Bool → Bool → ConfirmStep
by_tests s x changed waiting =
    if changed then held s x 0 else
    if waiting then held s x (s.count + 1) else
    confirmed s x

-- what holds of each clause holds of the step
pub each_clause : (s : Confirm) (P : ConfirmStep → Type 0) (x : ℕ) → P (held s x 0) → P (held s x (s.count + 1)) → P (confirmed s x) → P (clauses s x)
unfolding clauses
each_clause s P x u v w = go (not (eqb x s.input)) (ltb s.count (s.need - 1)) where
  go : (p r : Bool) → P (by_tests s x p r)
  go true r = u
  go false true = v
  go false false = w

pub shown_stays : (s : Confirm) (x : ℕ) → shown_word (clauses s x) ≡ (clauses s x).state.output
shown_stays s x = each_clause s (λ (t : ConfirmStep). shown_word t ≡ t.state.output) x refl refl refl

pub marks_few : (s : Confirm) (x : ℕ) → shown_mark (clauses s x) ≤ 1
marks_few s x = each_clause s (λ (t : ConfirmStep). shown_mark t ≤ 1) x (omega arith) (omega arith) (omega arith)

pub same_sizes : (s : Confirm) (x : ℕ) → ((clauses s x).state.n ≡ s.n) × ((clauses s x).state.need ≡ s.need)
same_sizes s x = each_clause s (λ (t : ConfirmStep). (t.state.n ≡ s.n) × (t.state.need ≡ s.need)) x (refl, refl) (refl, refl) (refl, refl)

-- a word that is confirmed already is confirmed again, and the state is as it was
pub settled :
    (s : Confirm) → ltb s.count (s.need - 1) ≡ false → s.output ≡ s.input
    → (x : ℕ) → s.input ≡ x → clauses s x ≡ record { state = s; answer = Confirmed s.input }
unfolding clauses
settled s full same x e =
    rw (← e, eq-eqb s.input s.input refl, full)
    (ap (λ (o : ℕ). record { state = record { n = s.n; need = s.need; input = s.input; output = o; count = s.count }; answer = Confirmed s.input }) (sym same))
