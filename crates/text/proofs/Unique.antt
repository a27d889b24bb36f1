-- Each public call's own contract, as the source states it, is its definition applied to the inputs, and so determines the
-- answer and the buffer. A slice that is lent as `&` cannot change: its type says so.
use Prim.Native.Nat.{ℕ, ◌+◌}
use mathlib.Core.List.{List, [], ◌∷◌}
use lib.ListN.{length}
use contract.Lifetimes.{Lfts}
use Rattle.std.specs.Prelude.{if◌then◌else◌}
use Rattle.rules.specs.Promise.{Fixes}
use Rattle.rules.proofs.Promise.{fixes}
use Rattle.text.specs.Text.{decimal, hex8, line}
use Rattle.text.specs.Put.{laid, fits}
use Rattle.text.proofs.put_byte.Reads as put_byte
use Rattle.text.proofs.put_text.Reads as put-text
use Rattle.text.proofs.put_decimal.Reads as put-decimal
use Rattle.text.proofs.put_hex.Reads as put-hex
use Rattle.text.proofs.put_line.Reads as put-line

-- the answer, and the buffer as the call leaves it
abbrev Seen : Type 0
Seen = ℕ × List ℕ

abbrev put : List ℕ → ℕ → List ℕ → Seen
put old at text = (if fits old at text then at + length text else at, if fits old at text then laid old at text else old)

pub put_byte_unique : (κs : Lfts 1) → Fixes {O = Seen} (put_byte.Learnt κs) (λ z e. (z, e.0.now)) (λ a. put a.0.now a.1.0 (a.1.1.0 ∷ []))
put_byte_unique κs = fixes (λ a z e p. cc)

pub put_text_unique : (κs : Lfts 2) → Fixes {O = Seen} (put-text.Learnt κs) (λ z e. (z, e.0.now)) (λ a. put a.0.now a.1.0 a.1.1.0.now)
put_text_unique κs = fixes (λ a z e p. cc)

pub put_decimal_unique : (κs : Lfts 1) → Fixes {O = Seen} (put-decimal.Learnt κs) (λ z e. (z, e.0.now)) (λ a. put a.0.now a.1.0 (decimal a.1.1.0))
put_decimal_unique κs = fixes (λ a z e p. cc)

pub put_hex_unique : (κs : Lfts 1) → Fixes {O = Seen} (put-hex.Learnt κs) (λ z e. (z, e.0.now)) (λ a. put a.0.now a.1.0 (hex8 a.1.1.0))
put_hex_unique κs = fixes (λ a z e p. cc)

pub put_line_unique :
    (κs : Lfts 1)
    → Fixes {O = Seen} (put-line.Learnt κs) (λ z e. (z, e.0.now)) (λ a. put a.0.now a.1.0 (line a.1.1.0 a.1.1.1.0 a.1.1.1.1.0 a.1.1.1.1.1.0))
put_line_unique κs = fixes (λ a z e p. cc)
