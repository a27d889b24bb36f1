-- An accepted recording's run is never refused: with a place for each sample, it answers Done.
use mathlib.Core.Path.{◌≡◌}
use mathlib.Core.Bool.{false}
use mathlib.Core.List.{List}
use Prim.Native.Nat.{ℕ}
use native.Mathlib.Omega.{arith}
use Rattle.trace.specs.Answers.{done}
use Rattle.confirm.specs.Run as confirm_run
use Rattle.tuple.specs.Run as tuple_run
use Rattle.reserve.specs.Run as reserve_run
use Rattle.recording.specs.Recording.{header_of, read_of}
use Rattle.recording.specs.declared.Header.{Header}
use Rattle.recording.proofs.Taken.{Accepted, taken}
use Rattle.listing.specs.Listing.{unit}
use Rattle.listing.specs.Runnable.{Room, Spare}
use Rattle.listing.proofs.Accepts.{confirm_done, pair_done, reserve_done}
use Rattle.listing.proofs.Columns.{runnable, column}

module _ (s : List ℕ) (accepted : (read_of false s).answer ≡ done) where
  abbrev h : Header
  h = header_of s

  ok : Accepted false s
  ok = taken false s accepted

  module _ {words marks lasts : List ℕ} (room : Room h words marks lasts) where
    pub one_never : h.units ≡ 1 → confirm_run.answer_of h.n h.need h.word (unit s h 1) words marks lasts ≡ done
    one_never e = confirm_done h (runnable s ok) (column s ok 0 (omega arith)) room

    module _ {told : List ℕ} (spare : Spare h told) where
      pub two_never : h.units ≡ 2 → tuple_run.answer_of h.n h.need h.need h.word (unit s h 1) (unit s h 2) words lasts marks told ≡ done
      two_never e = pair_done h (runnable s ok) (column s ok 0 (omega arith)) (column s ok 1 (omega arith)) room spare

      pub four_never : h.units ≡ 4 → reserve_run.answer_of h.n h.need h.word (unit s h 1) (unit s h 2) (unit s h 3) (unit s h 4) words marks told ≡ done
      four_never e =
          reserve_done h (runnable s ok) (column s ok 0 (omega arith), column s ok 1 (omega arith), column s ok 2 (omega arith), column s ok 3 (omega arith)) room spare
