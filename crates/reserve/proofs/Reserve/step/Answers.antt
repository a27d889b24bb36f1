-- `Reserve::step` meets its contract: where the one test finds nothing wrong the clauses, else the state as it came.
use mathlib.Core.Path.{◌≡◌, sym, ap, ◌∙◌}
use mathlib.Core.Bool.{Bool}
use Prim.Native.Nat.{ℕ}
use lib.Bits.{bit_or}
use Rattle.rules.specs.Refusals.{counted, admits}
use Rattle.vote.specs.Which.{NotNeither}
use Rattle.reserve.specs.declared.Reserve.{Reserve}
use Rattle.reserve.specs.declared.ReserveStep.{ReserveStep}
use Rattle.reserve.specs.Reserve.{not_taken, step_of}
use Rattle.reserve.specs.Run.{shown_which}
use Rattle.reserve.proofs.Bytes.{step_not_neither}
use Rattle.reserve.proofs.OneTest.{union, admitted, ways}
use Rattle.reserve.proofs.Reserve.step.Goals as goal

-- what is the definition's step is not "neither" where the width is 1
not_neither_of : (s : Reserve) (a b c d : ℕ) {t : ReserveStep} → t ≡ step_of s a b c d → NotNeither s.vote.n (shown_which t)
not_neither_of s a b c d e = rw e (step_not_neither s a b c d)

-- what the one test found, of the arguments as it saw them
found :
    (s : Reserve) (a b c d : ℕ) {k r : Bool} → let v = s.vote in
    k ≡ counted v.need v.count → r ≡ admits k v.n (bit_or (union a b c d) v.word) → r ≡ admitted s a b c d
found s a b c d e f = f ∙ ap (λ (k : Bool). admits k s.vote.n (bit_or (union a b c d) s.vote.word)) e

pub returns-then-refused : goal.returns-then-refused
returns-then-refused c =
    let x = c.args in
    let no = sym (found x.self x.a x.b x.c x.d c.counted-counted.ensures c.admits-refused.ensures) ∙ c.if-refused.true in
    let is : not_taken x.self c.step_refusal-refusal.result ≡ step_of x.self x.a x.b x.c x.d
    = rw (c.step_refusal-refusal.ensures, c.bad_count.ensures) ((ways x.self x.a x.b x.c x.d).1 no) in
    record { value = is; not_neither = not_neither_of x.self x.a x.b x.c x.d is }

pub returns : goal.returns
returns c =
    let x = c.args in
    let yes = sym (found x.self x.a x.b x.c x.d c.counted-counted.ensures c.admits-refused.ensures) ∙ c.if-refused.false in
    let is = c.clauses.ensures ∙ (ways x.self x.a x.b x.c x.d).0 yes in
    record { value = is; not_neither = not_neither_of x.self x.a x.b x.c x.d is }
