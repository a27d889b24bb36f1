-- Each public call's own contract, as the source states it, is its definition applied to the inputs, and so determines the answer and
-- the buffer. The bytes are lent as `&` and cannot change: their type says so.
use Prim.Native.Nat.{ℕ}
use mathlib.Core.List.{List, ◌++◌}
use lib.ListN.{length, drop}
use contract.Lifetimes.{Lfts}
use Rattle.std.specs.Prelude.{if◌then◌else◌}
use Rattle.rules.specs.Promise.{Fixes}
use Rattle.rules.proofs.Promise.{fixes}
use Rattle.listing.specs.declared.ListAnswer.{ListAnswer}
use Rattle.listing.specs.Listing.{text_of, too_short, answer_of, written_of}
use Rattle.listing.proofs.ListAnswer.written.Reads as written
use Rattle.listing.proofs.list.Reads as list

pub written_unique : Fixes (written.Learnt tt) (λ z e. z) (λ a. written_of a.0)
written_unique = fixes (λ a z e p. p)

-- the answer, and the buffer as the call leaves it
abbrev Seen : Type 0
Seen = ListAnswer × List ℕ

abbrev listed : List ℕ → List ℕ → Seen
listed s out = (answer_of (length out) s, if too_short (length out) then out else text_of s ++ drop (length (text_of s)) out)

pub list_unique : (κs : Lfts 2) → Fixes {O = Seen} (list.Learnt κs) (λ z e. (z, e.1.0.now)) (λ a. listed a.0.now a.1.0.now)
list_unique κs = fixes (λ a z e p. cc)
