-- `Confirm::step` meets its contract: where the one test finds nothing wrong the clauses, else the state as it came.
use mathlib.Core.Path.{◌≡◌, refl, sym, ap, ◌∙◌}
use mathlib.Core.Bool.{Bool, true, false, ◌||◌, or_assoc}
use Prim.Native.Nat.{ℕ, ◌-◌}
use lib.Bits.{bit_or}
use lib.Dec.{ltb}
use Rattle.rules.specs.Limits.{bad_count, outside}
use Rattle.rules.specs.Refusal.{refusal_of}
use Rattle.rules.specs.Table.{first}
use Rattle.rules.specs.Refusals.{step_rows, counted, admits}
use Rattle.rules.proofs.OneTest.{by_one_test}
use Rattle.rules.proofs.Width.{outside_or}
use Rattle.confirm.specs.declared.Confirm.{Confirm}
use Rattle.confirm.specs.Confirm.{clauses, bad_state, not_taken, step_of}
use Rattle.confirm.proofs.Confirm.step.Goals as goal

-- the one test is the table's, and decides between the clauses and a refusal
abbrev admitted : Confirm → ℕ → Bool
admitted s x = admits (counted s.need s.count) s.n (bit_or x (bit_or s.input s.output))

ways :
    (s : Confirm) (x : ℕ)
    → (admitted s x ≡ true → clauses s x ≡ step_of s x)
    × (admitted s x ≡ false → not_taken s (refusal_of (first (step_rows (bad_count s.need) s.n (outside s.n x) true))) ≡ step_of s x)
unfolding step_of
ways s x =
    let spoilt : ltb (s.need - 1) s.count || outside s.n (bit_or s.input s.output) ≡ bad_state s =
    rw (outside_or s.n s.input s.output) (sym (or_assoc (ltb (s.need - 1) s.count) (outside s.n s.input) (outside s.n s.output))) in
    by_one_test (bad_count s.need) (ltb (s.need - 1) s.count) s.n x (bit_or s.input s.output) refl refl spoilt (not_taken s) (clauses s x)

-- what the one test found
found :
    (s : Confirm) (x : ℕ) {counts result : Bool} → counts ≡ counted s.need s.count
    → result ≡ admits counts s.n (bit_or x (bit_or s.input s.output)) → result ≡ admitted s x
found s x e f = f ∙ ap (λ (k : Bool). admits k s.n (bit_or x (bit_or s.input s.output))) e

pub returns-then-refused : goal.returns-then-refused
returns-then-refused c =
    let a = c.args in
    let one = found a.self a.input c.counted-counted.ensures c.admits-refused.ensures in
    rw (c.step_refusal-refusal.ensures, c.bad_count.ensures) ((ways a.self a.input).1 (sym one ∙ c.if-refused.true))

pub returns : goal.returns
returns c =
    let a = c.args in
    let one = found a.self a.input c.counted-counted.ensures c.admits-refused.ensures in
    c.clauses.ensures ∙ (ways a.self a.input).0 (sym one ∙ c.if-refused.false)
