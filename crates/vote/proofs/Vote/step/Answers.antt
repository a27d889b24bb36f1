-- `Vote::step` meets its contract: where the one test finds nothing wrong the clauses, else the state as it came.
use mathlib.Core.Path.{◌≡◌, refl, sym, ap, ◌∙◌}
use mathlib.Core.Bool.{Bool, true, false}
use Prim.Native.Nat.{ℕ, ◌-◌}
use lib.Bits.{bit_or}
use lib.Dec.{ltb}
use Rattle.rules.specs.Limits.{bad_count, outside}
use Rattle.rules.specs.Refusal.{refusal_of}
use Rattle.rules.specs.Table.{first}
use Rattle.rules.specs.Refusals.{step_rows, counted, admits}
use Rattle.rules.proofs.OneTest.{by_one_test}
use Rattle.rules.proofs.Width.{outside_or}
use Rattle.vote.specs.declared.Vote.{Vote}
use Rattle.vote.specs.Answers.{VoteStep}
use Rattle.vote.specs.Run.{shown_which}
use Rattle.vote.specs.Vote.{clauses, not_taken, step_of}
use Rattle.vote.specs.Which.{NotNeither}
use Rattle.vote.proofs.Bytes.{step_not_neither}
use Rattle.vote.proofs.Vote.step.Goals as goal

-- the one test is the table's, and decides between the clauses and a refusal
abbrev admitted : Vote → ℕ → ℕ → Bool
admitted s a b = admits (counted s.need s.count) s.n (bit_or (bit_or a b) s.word)

ways :
    (s : Vote) (a b : ℕ) (reset : Bool)
    → (admitted s a b ≡ true → clauses s a b reset ≡ step_of s a b reset)
    × (admitted s a b ≡ false → not_taken s (refusal_of (first (step_rows (bad_count s.need) s.n (outside s.n (bit_or a b)) true))) ≡ step_of s a b reset)
unfolding step_of
ways s a b reset =
    by_one_test (bad_count s.need) (ltb (s.need - 1) s.count) s.n (bit_or a b) s.word refl (outside_or s.n a b) refl (not_taken s) (clauses s a b reset)

-- what is the definition's step is not "neither" where the width is 1
not_neither_of : (s : Vote) (a b : ℕ) (reset : Bool) {t : VoteStep} → t ≡ step_of s a b reset → NotNeither s.n (shown_which t)
not_neither_of s a b reset e = rw e (step_not_neither s a b reset)

-- what the one test found, of the arguments as it saw them
found :
    (s : Vote) (a b : ℕ) {k r : Bool} → k ≡ counted s.need s.count → r ≡ admits k s.n (bit_or (bit_or a b) s.word)
    → r ≡ admitted s a b
found s a b e f = f ∙ ap (λ (k : Bool). admits k s.n (bit_or (bit_or a b) s.word)) e

pub returns-then-refused : goal.returns-then-refused
returns-then-refused c =
    let x = c.args in
    let no = sym (found x.self x.a x.b c.counted-counted.ensures c.admits-refused.ensures) ∙ c.if-refused.true in
    let is : not_taken x.self c.step_refusal-refusal.result ≡ step_of x.self x.a x.b x.reset
    = rw (c.step_refusal-refusal.ensures, c.bad_count.ensures) ((ways x.self x.a x.b x.reset).1 no) in
    record { value = is; not_neither = not_neither_of x.self x.a x.b x.reset is }

pub returns : goal.returns
returns c =
    let x = c.args in
    let yes = sym (found x.self x.a x.b c.counted-counted.ensures c.admits-refused.ensures) ∙ c.if-refused.false in
    let is = c.clauses.ensures ∙ (ways x.self x.a x.b x.reset).0 yes in
    record { value = is; not_neither = not_neither_of x.self x.a x.b x.reset is }
