-- A signal of the plant that keeps the quiet gap moves at most once within it, and so is still between two moments at which it is alike.
use mathlib.Core.Path.{◌≡◌, sym, ◌∙◌}
use mathlib.Core.Logic.{◌≢◌, dite}
use Prim.Native.Nat.{ℕ, zero, suc, ◌+◌, ◌≤◌, ◌<◌}
use native.Mathlib.Omega.{arith}
use native.Mathlib.Decide.{ℕ_discrete}

-- p takes another value from the instant s to the next one
abbrev pub Turns : (ℕ → ℕ) → ℕ → Type 0
Turns p s = p (suc s) ≢ p s

-- what has two values turns between them
pub turn : (p : ℕ → ℕ) (a b : ℕ) → a ≤ b → p a ≢ p b → (s : ℕ) × (a ≤ s) × (s < b) × Turns p s
turn p a zero l d = let e : a ≡ 0 = omega arith in absurd (d (rw e))
turn p a (suc b) l d =
    dite (ℕ_discrete a (suc b)) (λ e. absurd (d (rw e)))
    (λ m. dite (ℕ_discrete (p (suc b)) (p b))
    (λ e. let t = turn p a b (omega arith) (λ q. d (q ∙ sym e)) in (t.0, t.1, omega arith, t.3))
    (λ c. (b, omega arith, omega arith, c)))

module _ (p : ℕ → ℕ) (gap : ℕ) (quiet : (s s' : ℕ) → s < s' → Turns p s → Turns p s' → s + gap ≤ s') where
  pub once : (a b c : ℕ) → a ≤ b → b ≤ c → c ≤ a + gap → p a ≢ p b → p b ≢ p c → ⊥
  once a b c ab bc ca d e =
      let u = turn p a b ab d in
      let v = turn p b c bc e in
      omega (arith, quiet u.0 v.0 (omega arith) u.3 v.3)

  pub still : (a b c : ℕ) → a ≤ b → b ≤ c → c ≤ a + gap → p a ≡ p c → p b ≡ p c
  still a b c ab bc ca e =
      dite (ℕ_discrete (p b) (p c)) (λ q. q) (λ d. absurd (once a b c ab bc ca (λ q. d (sym q ∙ e)) d))
