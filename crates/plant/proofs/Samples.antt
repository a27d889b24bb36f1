-- A sample is put together of signals: each shows the plant as it was at its reading, and the word is inside the width.
use mathlib.Core.Path.{◌≡◌, ap, ◌∙◌}
use mathlib.Core.Bool.{false}
use Prim.Native.Nat.{ℕ, ◌^◌, ◌<◌}
use lib.ListN.{get_or}
use Rattle.rules.specs.Bits.{bit}
use Rattle.rules.specs.Limits.{outside}
use Rattle.rules.proofs.Signals.{bit_small, word_small, word_bit}
use Rattle.rules.proofs.Width.{lt_inside}
use Rattle.plant.specs.Plant.{Watch, There, Formed}

module _ (w : Watch) (formed : Formed w) (k : ℕ) (l : There w k) where
  pub signal_read : (i : ℕ) → i < w.n → bit i (get_or w.samples k 0) ≡ bit i (w.plant (w.read i k))
  signal_read i il = ap (bit i) (formed k l) ∙ word_bit _ (λ j. bit_small j _) w.n i il

  pub sample_fits : get_or w.samples k 0 < 2 ^ w.n
  sample_fits = rw (formed k l) (word_small _ (λ j. bit_small j _) w.n)

  pub samples_inside : outside w.n (get_or w.samples k 0) ≡ false
  samples_inside = lt_inside w.n _ sample_fits
