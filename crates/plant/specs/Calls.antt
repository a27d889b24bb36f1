-- The calls that demand 3 speaks of, made on what a watch has.
use Rattle.std.specs.Prelude.{ℕ, ◌≤◌, ◌≡◌, List, None}
use Rattle.rules.specs.declared.answers.Made.{Made}
use Rattle.rules.specs.Bits.{AllOnes}
use Rattle.rules.specs.Limits.{default_word}
use Rattle.confirm.specs.declared.Confirm.{Confirm}
use Rattle.sizing.specs.declared.Sizing.{Sizing}
use Rattle.plant.specs.Plant.{Watch, gap_of, age_of, Enough}

-- what follows, of a call's arguments, its result and its slices afterwards, from its contract as the source states it
abbrev pub Means : {A Z E : Type 0} → (A → Z → E → Type 0) → (A → Z → E → Type 0) → Type 0
Means {A} {Z} {E} P Q = (a : A) (z : Z) (e : E) → P a z e → Q a z e

-- `confirm::run` of the watch's n, N, initial word and samples
pub record RunOn (w : Watch) (n need word : ℕ) (samples : List ℕ) : Type 0 where
  pub same_width : n ≡ w.n
  pub same_need : need ≡ w.need
  pub same_word : word ≡ w.initial
  pub same_samples : samples ≡ w.samples

-- `Confirm::new` of the watch's n and N, not refused
pub record NewOn (w : Watch) (n need : ℕ) (z : Made Confirm) : Type 0 where
  pub same_width : n ≡ w.n
  pub same_need : need ≡ w.need
  pub not_refused : z.refusal ≡ None

-- its initial word is the default word: the same watch with that one
abbrev pub from_default : Watch → Watch
from_default w =
    record {
      n = w.n;
      need = w.need;
      tm = w.tm;
      tM = w.tM;
      d = w.d;
      initial = default_word w.n;
      plant = w.plant;
      samples = w.samples;
      taken = w.taken;
      read = w.read;
    }

-- so the plant has to rest at all ones, up to the first sample's instant, that instant included
abbrev pub RestsAtOnes : Watch → Type 0
RestsAtOnes w = (s : ℕ) → s ≤ w.taken 0 → AllOnes w.n (w.plant s)

-- `Sizing::of` of the watch's n, Tm, TM and D, not refused, whose count for confirmation is the watch's N
pub record SizedBy (w : Watch) (n tm tM d : ℕ) (z : Sizing) : Type 0 where
  pub same_width : n ≡ w.n
  pub same_least : tm ≡ w.tm
  pub same_greatest : tM ≡ w.tM
  pub same_delay : d ≡ w.d
  pub not_refused : z.refusal ≡ None
  pub its_count : z.need ≡ w.need

-- what its numbers are: N·Tm > D, and the bounds of demand 3 are the ones returned
pub record Bounds (w : Watch) (z : Sizing) : Type 0 where
  pub enough : Enough w
  pub age_is : age_of w ≡ z.age
  pub quiet_is : gap_of w ≡ z.quiet
