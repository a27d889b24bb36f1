-- Each public call's own contract, as the source states it, is its definition applied to the inputs, and so determines the answer.
use Prim.Native.Nat.{◌-◌}
use mathlib.Core.Bool.{true}
use Rattle.rules.specs.Limits
use Rattle.rules.specs.Limits.{bad_count, bad_width, default_word}
use Rattle.rules.specs.Refusal.{number, refusal_of, told, row}
use Rattle.rules.specs.Table.{first, or_else}
use Rattle.rules.specs.Refusals
use Rattle.rules.specs.Refusals.{make_rows, step_rows}
use Rattle.rules.specs.Promise.{Fixes}
use Rattle.rules.proofs.Promise.{fixes}
use Rattle.rules.proofs.bad_count.Reads as bad-count
use Rattle.rules.proofs.bad_width.Reads as bad-width
use Rattle.rules.proofs.outside.Reads as outside
use Rattle.rules.proofs.default_word.Reads as default-word
use Rattle.rules.proofs.last.Reads as last
use Rattle.rules.proofs.refusal.U32FromRefusal.from.Reads as from
use Rattle.rules.proofs.refusal.Refusal.when.Reads as when
use Rattle.rules.proofs.or_else.Reads as or_else
use Rattle.rules.proofs.make_refusal.Reads as make-refusal
use Rattle.rules.proofs.counted.Reads as counted
use Rattle.rules.proofs.admits.Reads as admits
use Rattle.rules.proofs.step_refusal.Reads as step_refusal
use Rattle.rules.proofs.step_number.Reads as step_number

pub bad_count_unique : Fixes (bad-count.Learnt tt) (λ z e. z) (λ a. bad_count a.0)
bad_count_unique = fixes (λ a z e p. p)

pub bad_width_unique : Fixes (bad-width.Learnt tt) (λ z e. z) (λ a. bad_width a.0)
bad_width_unique = fixes (λ a z e p. p)

pub outside_unique : Fixes (outside.Learnt tt) (λ z e. z) (λ a. Limits.outside a.0 a.1.0)
outside_unique = fixes (λ a z e p. p)

pub default_word_unique : Fixes (default-word.Learnt tt) (λ z e. z) (λ a. default_word a.0)
default_word_unique = fixes (λ a z e p. p)

pub last_unique : Fixes (last.Learnt tt) (λ z e. z) (λ a. a.0 - 1)
last_unique = fixes (λ a z e p. p)

pub number_unique : Fixes (from.Learnt tt) (λ z e. z) (λ a. number a.0)
number_unique = fixes (λ a z e p. p)

pub when_unique : Fixes (when.Learnt tt) (λ z e. z) (λ a. row a.0 a.1.0)
when_unique = fixes (λ a z e p. p)

pub or_else_unique : Fixes (or_else.Learnt tt) (λ z e. z) (λ a. or_else a.0 a.1.0 a.1.1.0)
or_else_unique = fixes (λ a z e p. p)

pub make_refusal_unique : Fixes (make-refusal.Learnt tt) (λ z e. z) (λ a. told (first (make_rows a.0 a.1.0 a.1.1.0)))
make_refusal_unique = fixes (λ a z e p. p)

pub counted_unique : Fixes (counted.Learnt tt) (λ z e. z) (λ a. Refusals.counted a.0 a.1.0)
counted_unique = fixes (λ a z e p. p)

pub admits_unique : Fixes (admits.Learnt tt) (λ z e. z) (λ a. Refusals.admits a.0 a.1.0 a.1.1.0)
admits_unique = fixes (λ a z e p. p)

pub step_refusal_unique : Fixes (step_refusal.Learnt tt) (λ z e. z) (λ a. refusal_of (first (step_rows a.0 a.1.0 (Limits.outside a.1.0 a.1.1.0) true)))
step_refusal_unique = fixes (λ a z e p. p)

pub step_number_unique : Fixes (step_number.Learnt tt) (λ z e. z) (λ a. first (step_rows a.0 a.1.0 (Limits.outside a.1.0 a.1.1.0) true))
step_number_unique = fixes (λ a z e p. p)
