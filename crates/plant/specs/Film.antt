-- A watch that is written down: lists in place of functions, so that each premise can be decided by computing.
use Rattle.std.specs.Prelude.{ℕ, ◌-◌, min, List, [], length, get_or}
use Rattle.plant.specs.Plant.{Watch}

pub record Film : Type 0 where
  pub n : ℕ
  pub need : ℕ
  pub tm : ℕ
  pub tM : ℕ
  pub d : ℕ
  pub initial : ℕ
  -- the plant's word at the instants 0, 1, 2, ..; the last one stays
  pub shown : List ℕ
  -- for each sample its word and its instant, and for each signal the moments at which it was read
  pub samples : List ℕ
  pub taken : List ℕ
  pub read : List (List ℕ)

-- the instant of the last word that is written down
abbrev pub last : Film → ℕ
last f = length f.shown - 1

abbrev pub watch : Film → Watch
watch f =
    record {
      n = f.n;
      need = f.need;
      tm = f.tm;
      tM = f.tM;
      d = f.d;
      initial = f.initial;
      plant = λ s. get_or f.shown (min s (last f)) 0;
      samples = f.samples;
      taken = λ k. get_or f.taken k 0;
      read = λ i k. get_or (get_or f.read i []) k 0;
    }
