-- A plant whose initial word is held as long as the age bound allows, for every n, N, Tm, TM and D: its signals rise one after the other,
-- each so that N samples see it before the next one rises, and every reading is D late.
use Rattle.std.specs.Prelude.{ℕ, suc, ◌+◌, ◌*◌, leb, if◌then◌else◌}
use Rattle.rules.specs.Bits.{bit}
use Rattle.rules.specs.Signals.{as_word, as_list}
use Rattle.plant.specs.Plant.{Watch}

-- 1 from the instant r on
abbrev pub raised : ℕ → ℕ → ℕ
raised r s = if leb r s then 1 else 0

-- signal i rises right after the moment at which sample D + i·N is read
abbrev pub rise : ℕ → ℕ → ℕ → ℕ → ℕ
rise need tM d i = (d + i * need) * tM + 1

abbrev pub rising : ℕ → ℕ → ℕ → ℕ → ℕ → ℕ
rising n need tM d s = as_word n (λ i. raised (rise need tM d i) s)

-- the sample at which the age bound is reached, the last one of the trace
abbrev pub oldest : ℕ → ℕ → ℕ → ℕ
oldest n need d = d + n * need

abbrev pub stairs : ℕ → ℕ → ℕ → ℕ → ℕ → Watch
stairs n need tm tM d =
    record {
      n = n;
      need = need;
      tm = tm;
      tM = tM;
      d = d;
      initial = 0;
      plant = rising n need tM d;
      samples = as_list (suc (oldest n need d)) (λ k. as_word n (λ i. bit i (rising n need tM d (k * tM))));
      taken = λ k. d + k * tM;
      read = λ i k. k * tM;
    }
