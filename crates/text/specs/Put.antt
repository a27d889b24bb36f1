-- Text in a lent buffer: what a call that puts a piece of it at a place promises.
use Rattle.std.specs.Prelude.{ℕ, ◌+◌, ◌≤◌, ◌≡◌, List, ◌++◌, Bool, length, take, drop, leb, if◌then◌else◌}

-- the buffer with a text at a place, and all before and after it as it was
unfoldable pub laid : List ℕ → ℕ → List ℕ → List ℕ
laid old at text = take at old ++ text ++ drop (at + length text) old

-- the text ends within the buffer
abbrev pub fits : List ℕ → ℕ → List ℕ → Bool
fits old at text = leb (at + length text) (length old)

-- a text that has room is written whole, and the answer is the place after it; one that has none changes nothing, and the
-- answer is the place itself
pub record Placed (old : List ℕ) (at : ℕ) (text : List ℕ) (r : ℕ) (new : List ℕ) : Type 0 where
  pub next : r ≡ (if fits old at text then at + length text else at)
  pub buffer : new ≡ (if fits old at text then laid old at text else old)

-- the text was written, within the buffer, and r is the place after it
pub record Wrote (old : List ℕ) (at : ℕ) (text : List ℕ) (r : ℕ) (new : List ℕ) : Type 0 where
  pub next : r ≡ at + length text
  pub room : r ≤ length old
  pub buffer : new ≡ laid old at text

-- it was, if there was room: this is what composes
abbrev pub Writes : List ℕ → ℕ → List ℕ → ℕ → List ℕ → Type 0
Writes old at text r new = at + length text ≤ length old → Wrote old at text r new
