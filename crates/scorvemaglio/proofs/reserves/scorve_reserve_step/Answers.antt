-- `scorve_reserve_step` meets its contract: refused is what has no phase or is not admitted, and else the clauses are the step.
use mathlib.Core.Path.{◌≡◌, refl, ap, ◌∙◌}
use mathlib.Core.Bool.{Bool}
use lib.Bits.{bit_or}
use Prim.Native.Nat.{ℕ}
use mathlib.Core.List.{List}
use Rattle.rules.specs.Refusals.{admits, counted}
use Rattle.rules.proofs.OneTest.{step_own}
use Rattle.reserve.specs.declared.Reserve.{Reserve}
use Rattle.reserve.proofs.OneTest.{union, admitted}
use Rattle.scorvemaglio.specs.States.{reserve_of}
use Rattle.scorvemaglio.proofs.Laws.{not_taken_lem, taken}
use Rattle.scorvemaglio.proofs.Phases.{refused_as, taken_as, kept_as_shown}
use Rattle.scorvemaglio.proofs.reserves.scorve_reserve_step.Goals as goal

-- what the one test found of the state s, which was read from the place
found :
    (place : List ℕ) (a b x d : ℕ) {s : Reserve} {counts result : Bool}
    → result ≡ admits counts s.vote.n (bit_or (union a b x d) s.vote.word) → counts ≡ counted s.vote.need s.vote.count
    → s ≡ reserve_of place → result ≡ admitted (reserve_of place) a b x d
found place a b x d {s} one counting read =
    one
    ∙ ap (λ (k : Bool). admits k s.vote.n (bit_or (union a b x d) s.vote.word)) counting
    ∙ ap (λ (s : Reserve). admitted s a b x d) read

pub returns-then-refused : goal.returns-then-refused
returns-then-refused c =
    let x = c.args in
    let one = found x.state.now x.a x.b x.c x.d c.admits-admitted.ensures c.counted-counted.ensures c.of-s.ensures in
    let r = refused_as x.state.now x.a x.b x.c x.d (rw (← one) c.if-refused.true) in
    rw (c.into.ensures, c.step_refusal.ensures, c.bad_count.ensures, c.of-s.ensures, step_own) (not_taken_lem r.0 r.1)

pub returns : goal.returns
returns c =
    let x = c.args in
    let one = found x.state.now x.a x.b x.c x.d c.admits-admitted.ensures c.counted-counted.ensures c.of-s.ensures in
    let t = taken_as x.state.now x.a x.b x.c x.d (rw (← one) c.if-refused.false) in
    let kept = kept_as_shown x.state.now x.a x.b x.c x.d in
    rw (c.put_step.ensures.state_after, c.put_step.ensures.answer_after, c.clauses.ensures, c.of-s.ensures, kept, t.1) (taken refl t.0)
