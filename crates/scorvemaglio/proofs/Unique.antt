-- Each call's own contract, as the source states it, is its definition applied to the inputs, and so determines the number that is
-- returned and every place that is lent to be written. A place that is lent as `&` cannot change: its type says so.
use Prim.Native.Nat.{ℕ}
use mathlib.Core.Path.{◌≡◌}
use mathlib.Core.List.{List}
use mathlib.Core.Bool.{not}
use contract.Lifetimes.{Lfts}
use lib.Dec.{eqb}
use Rattle.rules.specs.Refusal.{number_in}
use Rattle.rules.specs.Limits.{default_word}
use Rattle.rules.specs.Promise.{Fixes}
use Rattle.rules.proofs.Promise.{fixes}
use Rattle.trace.specs.Answers.{run_number, run_sample}
use Rattle.trace.specs.Answers.{RunResult}
use Rattle.confirm.specs.Confirm as confirm
use Rattle.confirm.proofs.Unique.{ran as confirm_ran}
use Rattle.vote.specs.Vote as vote
use Rattle.vote.proofs.Unique.{ran as vote_ran}
use Rattle.tuple.specs.Tuple as tuple
use Rattle.tuple.proofs.Unique.{ran as tuple_ran}
use Rattle.reserve.specs.Reserve as reserve
use Rattle.reserve.proofs.Unique.{ran as reserve_ran}
use Rattle.confirm.specs.Answers as confirm_answers
use Rattle.vote.specs.Answers as vote_answers
use Rattle.tuple.specs.Answers as tuple_answers
use Rattle.scorvemaglio.specs.Lent.{Makes, Steps, unless_refused}
use Rattle.scorvemaglio.specs.States.{confirm_of, confirm_numbers, vote_of, vote_numbers, tuple_of, tuple_numbers, reserve_of, reserve_numbers}
use Rattle.scorvemaglio.specs.Voters.{confirm_shown, vote_shown, tuple_shown, reserve_shown, reserve_number}
use Rattle.scorvemaglio.proofs.confirms.scorve_confirm_from_word.Reads as confirm-from-word
use Rattle.scorvemaglio.proofs.confirms.scorve_confirm_new.Reads as confirm-new
use Rattle.scorvemaglio.proofs.confirms.scorve_confirm_step.Reads as confirm-step
use Rattle.scorvemaglio.proofs.confirms.scorve_confirm_run.Reads as confirm-run
use Rattle.scorvemaglio.proofs.votes.scorve_vote_from_word.Reads as vote-from-word
use Rattle.scorvemaglio.proofs.votes.scorve_vote_new.Reads as vote-new
use Rattle.scorvemaglio.proofs.votes.scorve_vote_step.Reads as vote-step
use Rattle.scorvemaglio.proofs.votes.scorve_vote_run.Reads as vote-run
use Rattle.scorvemaglio.proofs.tuples.scorve_tuple_from_word.Reads as tuple-from-word
use Rattle.scorvemaglio.proofs.tuples.scorve_tuple_new.Reads as tuple-new
use Rattle.scorvemaglio.proofs.tuples.scorve_tuple_step.Reads as tuple-step
use Rattle.scorvemaglio.proofs.tuples.scorve_tuple_run.Reads as tuple-run
use Rattle.scorvemaglio.proofs.reserves.scorve_reserve_from_word.Reads as reserve-from-word
use Rattle.scorvemaglio.proofs.reserves.scorve_reserve_new.Reads as reserve-new
use Rattle.scorvemaglio.proofs.reserves.scorve_reserve_step.Reads as reserve-step
use Rattle.scorvemaglio.proofs.reserves.scorve_reserve_run.Reads as reserve-run

-- a call that makes something: its number, and the place afterwards
abbrev pub Made : Type 0
Made = ℕ × List ℕ

abbrev pub made : ℕ → List ℕ → List ℕ → Made
made number written lent = (number, unless_refused number lent written)

pub makes_says : {number r : ℕ} {written lent lent' : List ℕ} → Makes number written lent r lent' → (r, lent') ≡ made number written lent
makes_says p = cc

-- a step: its number, the state's place and the answer's
abbrev Stepped : Type 0
Stepped = ℕ × List ℕ × List ℕ

abbrev stepped : ℕ → List ℕ → List ℕ → List ℕ → List ℕ → Stepped
stepped number next shown state answer = (number, unless_refused number state next, unless_refused number answer shown)

steps_says :
    {number r : ℕ} {next shown state answer state' answer' : List ℕ} → Steps number next shown state answer r state' answer'
    → (r, state', answer') ≡ stepped number next shown state answer
steps_says p = cc

-- a run: what the room's own determines, its answer as two numbers beside three slices, or four
abbrev told_three : RunResult × List ℕ × List ℕ × List ℕ → ℕ × ℕ × List ℕ × List ℕ × List ℕ
told_three (r, one, two, three) = (run_number r, run_sample r, one, two, three)

abbrev told_four : RunResult × List ℕ × List ℕ × List ℕ × List ℕ → ℕ × ℕ × List ℕ × List ℕ × List ℕ × List ℕ
told_four (r, one, two, three, four) = (run_number r, run_sample r, one, two, three, four)

pub confirm_from_word_unique :
    (κs : Lfts 1)
    → Fixes {O = Made} (confirm-from-word.Learnt κs) (λ z e. (z, e.0.now))
    (λ a. let m = confirm.made_of a.1.0 a.1.1.0 a.1.1.1.0 in made (number_in m.refusal) (confirm_numbers m.state) a.0.now)
confirm_from_word_unique κs = fixes (λ a z e p. makes_says p)

pub confirm_new_unique :
    (κs : Lfts 1)
    → Fixes {O = Made} (confirm-new.Learnt κs) (λ z e. (z, e.0.now))
    (λ a. let m = confirm.made_of a.1.0 a.1.1.0 (default_word a.1.0) in made (number_in m.refusal) (confirm_numbers m.state) a.0.now)
confirm_new_unique κs = fixes (λ a z e p. makes_says p)

pub confirm_step_unique :
    (κs : Lfts 2)
    → Fixes {O = Stepped} (confirm-step.Learnt κs) (λ z e. (z, e.0.now, e.1.1.0.now))
    (λ a.
    let t = confirm.step_of (confirm_of a.0.now) a.1.0 in
    stepped (confirm_answers.number_of t.answer) (confirm_numbers t.state) (confirm_shown t) a.0.now a.1.1.0.now)
confirm_step_unique κs = fixes (λ a z e p. steps_says p)

pub confirm_run_unique :
    (κs : Lfts 5)
    → Fixes (confirm-run.Learnt κs)
    (λ z e. let lent = e.1.1.1.1 in (z, lent.1.1.1.0.now, lent.0.now, lent.1.0.now, lent.1.1.0.now))
    (λ a.
    let lent = a.1.1.1 in
    told_three (confirm_ran a.0 a.1.0 a.1.1.0 lent.0.now lent.1.0.now lent.1.1.0.now lent.1.1.1.0.now))
confirm_run_unique κs = fixes (λ a z e p. let r = p.ran in let q = p.told in cc)

pub vote_from_word_unique :
    (κs : Lfts 1)
    → Fixes {O = Made} (vote-from-word.Learnt κs) (λ z e. (z, e.0.now))
    (λ a. let m = vote.made_of a.1.0 a.1.1.0 a.1.1.1.0 in made (number_in m.refusal) (vote_numbers m.state) a.0.now)
vote_from_word_unique κs = fixes (λ a z e p. makes_says p)

pub vote_new_unique :
    (κs : Lfts 1)
    → Fixes {O = Made} (vote-new.Learnt κs) (λ z e. (z, e.0.now))
    (λ a. let m = vote.made_of a.1.0 a.1.1.0 (default_word a.1.0) in made (number_in m.refusal) (vote_numbers m.state) a.0.now)
vote_new_unique κs = fixes (λ a z e p. makes_says p)

pub vote_step_unique :
    (κs : Lfts 2)
    → Fixes {O = Stepped} (vote-step.Learnt κs) (λ z e. (z, e.0.now, e.1.1.1.1.0.now))
    (λ a.
    let t = vote.step_of (vote_of a.0.now) a.1.0 a.1.1.0 (not (eqb a.1.1.1.0 0)) in
    stepped (vote_answers.number_of t.answer) (vote_numbers t.state) (vote_shown t) a.0.now a.1.1.1.1.0.now)
vote_step_unique κs = fixes (λ a z e p. steps_says p)

pub vote_run_unique :
    (κs : Lfts 6)
    → Fixes (vote-run.Learnt κs)
    (λ z e. let lent = e.1.1.1.1.1 in (z, lent.1.1.1.0.now, lent.0.now, lent.1.0.now, lent.1.1.0.now))
    (λ a.
    let units = a.1.1.1 in
    let lent = units.1.1 in
    told_three (vote_ran a.0 a.1.0 a.1.1.0 units.0.now units.1.0.now lent.0.now lent.1.0.now lent.1.1.0.now))
vote_run_unique κs = fixes (λ a z e p. let r = p.ran in let q = p.told in cc)

pub tuple_from_word_unique :
    (κs : Lfts 1)
    → Fixes {O = Made} (tuple-from-word.Learnt κs) (λ z e. (z, e.0.now))
    (λ a. let m = tuple.made_of a.1.0 a.1.1.0 a.1.1.1.0 a.1.1.1.1.0 in made (number_in m.refusal) (tuple_numbers m.state) a.0.now)
tuple_from_word_unique κs = fixes (λ a z e p. makes_says p)

pub tuple_new_unique :
    (κs : Lfts 1)
    → Fixes {O = Made} (tuple-new.Learnt κs) (λ z e. (z, e.0.now))
    (λ a. let m = tuple.made_of a.1.0 a.1.1.0 a.1.1.1.0 (default_word a.1.0) in made (number_in m.refusal) (tuple_numbers m.state) a.0.now)
tuple_new_unique κs = fixes (λ a z e p. makes_says p)

pub tuple_step_unique :
    (κs : Lfts 2)
    → Fixes {O = Stepped} (tuple-step.Learnt κs) (λ z e. (z, e.0.now, e.1.1.1.0.now))
    (λ a.
    let t = tuple.step_of (tuple_of a.0.now) a.1.0 a.1.1.0 in
    stepped (tuple_answers.number_of t.answer) (tuple_numbers t.state) (tuple_shown t) a.0.now a.1.1.1.0.now)
tuple_step_unique κs = fixes (λ a z e p. steps_says p)

pub tuple_run_unique :
    (κs : Lfts 7)
    → Fixes (tuple-run.Learnt κs)
    (λ z e. let lent = e.1.1.1.1.1.1 in (z, lent.1.1.1.1.0.now, lent.0.now, lent.1.0.now, lent.1.1.0.now, lent.1.1.1.0.now))
    (λ a.
    let units = a.1.1.1.1 in
    let lent = units.1.1 in
    told_four (tuple_ran a.0 a.1.0 a.1.1.0 a.1.1.1.0 units.0.now units.1.0.now
    lent.0.now lent.1.0.now lent.1.1.0.now lent.1.1.1.0.now))
tuple_run_unique κs = fixes (λ a z e p. let r = p.ran in let q = p.told in cc)

pub reserve_from_word_unique :
    (κs : Lfts 1)
    → Fixes {O = Made} (reserve-from-word.Learnt κs) (λ z e. (z, e.0.now))
    (λ a. let m = reserve.made_of a.1.0 a.1.1.0 a.1.1.1.0 in made (number_in m.refusal) (reserve_numbers m.state) a.0.now)
reserve_from_word_unique κs = fixes (λ a z e p. makes_says p)

pub reserve_new_unique :
    (κs : Lfts 1)
    → Fixes {O = Made} (reserve-new.Learnt κs) (λ z e. (z, e.0.now))
    (λ a. let m = reserve.made_of a.1.0 a.1.1.0 (default_word a.1.0) in made (number_in m.refusal) (reserve_numbers m.state) a.0.now)
reserve_new_unique κs = fixes (λ a z e p. makes_says p)

pub reserve_step_unique :
    (κs : Lfts 2)
    → Fixes {O = Stepped} (reserve-step.Learnt κs) (λ z e. (z, e.0.now, e.1.1.1.1.1.0.now))
    (λ a.
    let t = reserve.step_of (reserve_of a.0.now) a.1.0 a.1.1.0 a.1.1.1.0 a.1.1.1.1.0 in
    stepped (reserve_number a.0.now t) (reserve_numbers t.state) (reserve_shown t) a.0.now a.1.1.1.1.1.0.now)
reserve_step_unique κs = fixes (λ a z e p. steps_says p)

pub reserve_run_unique :
    (κs : Lfts 8)
    → Fixes (reserve-run.Learnt κs)
    (λ z e. let lent = e.1.1.1.1.1.1.1 in (z, lent.1.1.1.0.now, lent.0.now, lent.1.0.now, lent.1.1.0.now))
    (λ a.
    let units = a.1.1.1 in
    let lent = units.1.1.1.1 in
    told_three (reserve_ran a.0 a.1.0 a.1.1.0 units.0.now units.1.0.now units.1.1.0.now units.1.1.1.0.now
    lent.0.now lent.1.0.now lent.1.1.0.now))
reserve_run_unique κs = fixes (λ a z e p. let r = p.ran in let q = p.told in cc)
