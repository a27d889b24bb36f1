-- The reader's own contract, as the source states it, is its definition applied to the bytes and to each slice as it came, and so
-- determines the answer and every slice that is lent to be written. The bytes are lent as `&` and cannot change: their type says so.
use mathlib.Core.List.{List}
use Prim.Native.Nat.{ℕ}
use contract.Lifetimes.{Lfts}
use Rattle.rules.specs.Promise.{Fixes}
use Rattle.rules.proofs.Promise.{fixes}
use Rattle.recording.specs.declared.RecordingRead.{RecordingRead}
use Rattle.recording.specs.Recording.{mislent, read_of, slice_after}
use Rattle.recording.proofs.read.Reads as read

-- the answer, and the five slices as the reader leaves them
abbrev Seen : Type 0
Seen = RecordingRead × List ℕ × List ℕ × List ℕ × List ℕ × List ℕ

abbrev was_read : List ℕ → List ℕ → List ℕ → List ℕ → List ℕ → List ℕ → Seen
was_read s times one two three four =
    let r = read_of (mislent times one two three four) s in
    (r, slice_after s r.header 0 times, slice_after s r.header 1 one, slice_after s r.header 2 two, slice_after s r.header 3 three, slice_after s r.header 4 four)

pub read_unique :
    (κs : Lfts 6)
    → Fixes {O = Seen} (read.Learnt κs)
    (λ z e. let lent = e.1 in (z, lent.0.now, lent.1.0.now, lent.1.1.0.now, lent.1.1.1.0.now, lent.1.1.1.1.0.now))
    (λ a.
    let lent = a.1 in
    was_read a.0.now lent.0.now lent.1.0.now lent.1.1.0.now lent.1.1.1.0.now lent.1.1.1.1.0.now)
read_unique κs = fixes (λ a z e p. cc)
