-- T-09, "for single signals 'neither' cannot occur": where a signal differs, one of the two units shows the agreed bit, and the word of a step
-- says which.
use Rattle.std.specs.Prelude.{ℕ, ◌<◌, ◌≡◌, ◌⊎◌, ◌↔◌}
use Rattle.rules.specs.Bits.{bit}
use Rattle.tuple.specs.declared.Tuple.{Tuple}
use Rattle.tuple.specs.declared.TupleStep.{TupleStep}
use Rattle.tuple.specs.Answers.{number_of}
use Rattle.tuple.specs.Tuple.{width}

-- signal i of both words of a sample
abbrev pub signal_of : ℕ → ℕ × ℕ → ℕ × ℕ
signal_of i x = (bit i x.0, bit i x.1)

-- of a signal's bits: there is a one exactly where the two differ and the second shows the agreed bit
abbrev pub OneWhereSecond : ℕ → ℕ × ℕ → ℕ → Type 0
OneWhereSecond agreed x second = (second ≡ 1) ↔ ((x.0 ≡ x.1 → ⊥) × (x.1 ≡ agreed))

-- and, where they differ, one of the two shows it: the first, and there is a zero, or the second, and there is a one
abbrev pub FirstOrSecond : ℕ → ℕ × ℕ → ℕ → Type 0
FirstOrSecond agreed x second = ((x.0 ≡ agreed) × (second ≡ 0)) ⊎ ((x.1 ≡ agreed) × (second ≡ 1))

-- so of every signal that differs at a step that is taken
abbrev pub Tells : Tuple → ℕ → ℕ → TupleStep → Type 0
Tells s a b t =
    number_of t.answer ≡ 0 → (i : ℕ) → i < width s → (bit i a ≡ bit i b → ⊥) → FirstOrSecond (bit i s.agreed) (signal_of i (a, b)) (bit i t.second)
