-- `Tuple::step` meets its contract: where the one test finds nothing wrong the clauses, else the state as it came.
use mathlib.Core.Path.{◌≡◌, sym, ap, ◌∙◌}
use mathlib.Core.Bool.{Bool, true, false}
use borrow.Author.Tests.{eqb-true}
use Prim.Native.Nat.{ℕ}
use lib.Bits.{bit_or}
use lib.Dec.{eqb}
use Rattle.rules.specs.Limits.{outside}
use Rattle.rules.specs.Refusal.{refusal_of}
use Rattle.rules.specs.Table.{first}
use Rattle.rules.specs.Refusals.{step_rows}
use Rattle.rules.proofs.OneTest.{not_taken_lem}
use Rattle.rules.proofs.Width.{outside_or}
use Rattle.tuple.specs.declared.Tuple.{Tuple}
use Rattle.tuple.specs.declared.TupleStep.{TupleStep}
use Rattle.tuple.specs.Second.{Tells}
use Rattle.tuple.specs.Tuple.{width, miscounted, bad_state, clauses, decided, rows_of, not_taken, step_of}
use Rattle.tuple.proofs.Rows.{taken}
use Rattle.tuple.proofs.Seconds.{step_tells}
use Rattle.tuple.proofs.Tuple.step.Goals as goal

-- what is the definition's step tells
told : (s : Tuple) (a b : ℕ) {t : TupleStep} → t ≡ step_of s a b → Tells s a b t
told s a b e = rw e (step_tells s a b)

-- where the one test admits, the table gives no number
none : (s : Tuple) (a b : ℕ) {r : Bool} → r ≡ eqb (first (rows_of s a b)) 0 → r ≡ true → first (rows_of s a b) ≡ 0
none s a b is admitted = eqb-true _ _ (sym is ∙ admitted)

-- where it doesn't, the step is the refusal
no_step :
    (s : Tuple) (a b : ℕ) {r : Bool} → r ≡ eqb (first (rows_of s a b)) 0 → r ≡ false
    → not_taken s (refusal_of (first (step_rows (miscounted s) (width s) (outside (width s) (bit_or a b)) true))) ≡ step_of s a b
unfolding step_of
no_step s a b is refused =
    not_taken_lem (miscounted s) (width s) (bit_or a b) (bad_state s) (outside_or (width s) a b) (not_taken s) (clauses s a b) (sym is ∙ refused)

pub returns-then-refused : goal.returns-then-refused
returns-then-refused c =
    let x = c.args in
    let is : not_taken x.self c.step_refusal-refusal.result ≡ step_of x.self x.a x.b
    = rw (c.step_refusal-refusal.ensures, c.miscounted.ensures) (no_step x.self x.a x.b c.admits-refused.ensures c.if-refused.true) in
    record { value = is; tells = told x.self x.a x.b is }

pub voters-requires : goal.voters-requires
voters-requires c = let x = c.args in none x.self x.a x.b c.admits-refused.ensures c.if-refused.false

pub returns : goal.returns
unfolding clauses
returns c =
    let x = c.args in
    let taken_so = taken x.self x.a x.b (none x.self x.a x.b c.admits-refused.ensures c.if-refused.false) in
    let is = c.decided.ensures ∙ ap (decided x.self) c.voters.ensures ∙ sym taken_so in
    record { value = is; tells = told x.self x.a x.b is }
