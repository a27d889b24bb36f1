-- A plant all of whose signals go on moving, signal i read min(i, D) late, for every n, N, Tm, TM, D and every length of trace.
use Rattle.std.specs.Prelude.{ℕ, suc, ◌+◌, ◌-◌, ◌*◌, ◌/◌, ◌%◌, min}
use Rattle.rules.specs.Bits.{bit}
use Rattle.rules.specs.Signals.{as_word, as_list}
use Rattle.sizing.specs.Sizing.{quiet_gap}
use Rattle.plant.specs.Plant.{Watch}

-- every signal moves at each multiple of the period, which is one more than the quiet gap
abbrev pub period : ℕ → ℕ → ℕ → ℕ → ℕ
period n need tM d = suc (quiet_gap n need tM d)

abbrev pub turning : ℕ → ℕ → ℕ → ℕ
turning n p s = as_word n (λ i. s / p % 2)

-- a sample each Tm, from D on
abbrev pub taken_at : ℕ → ℕ → ℕ → ℕ
taken_at tm d k = d + k * tm

-- signal i is read i late, or D late if that is less
abbrev pub read_at : ℕ → ℕ → ℕ → ℕ → ℕ
read_at tm d i k = taken_at tm d k - min i d

abbrev pub moving : ℕ → ℕ → ℕ → ℕ → ℕ → ℕ → Watch
moving n need tm tM d length =
    let p = period n need tM d in
    record {
      n = n;
      need = need;
      tm = tm;
      tM = tM;
      d = d;
      initial = 0;
      plant = turning n p;
      samples = as_list length (λ k. as_word n (λ i. bit i (turning n p (read_at tm d i k))));
      taken = taken_at tm d;
      read = read_at tm d;
    }
