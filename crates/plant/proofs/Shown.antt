-- Demand 3: the premises give the weaker ones, and so every output is a word that the plant showed within the age bound.
use Prim.Native.Nat.{ℕ, zero, suc, ◌+◌, ◌*◌, ◌≤◌, ◌<◌}
use native.Mathlib.Omega.{arith}
use native.Mathlib.Decide.{dec_lt}
use native.Mathlib.Nat.{add-suc, add-zero, suc-mul, zero-mul, mul-zero}
use mathlib.Core.Path.{◌≡◌}
use mathlib.Core.Logic.{dite}
use Rattle.plant.specs.Plant.{Watch, There, Fits, GapLeast, GapMost, Formed, Late, Forward, Rests, Observed, ShownBy, TrulyShown, outputs}
use Rattle.plant.specs.Weaker.{QuietReached, Sufficient}
use Rattle.plant.proofs.Outputs.{outputs_shown}

-- m gaps together are at least m·Tm
gaps : (w : Watch) → GapLeast w → (m k : ℕ) → There w (k + m) → w.taken k + m * w.tm ≤ w.taken (k + m)
gaps w h zero k l = rw (add-zero, zero-mul) (omega arith)
gaps w h (suc m) k l =
    let on : There w (suc (k + m)) = rw add-suc at l in
    rw (add-suc, suc-mul) (omega (arith, h (k + m) on, gaps w h m k (omega arith)))

-- so N of them last D, where N·Tm reaches it
outlasting : (w : Watch) → w.d ≤ w.need * w.tm → GapLeast w → (k : ℕ) → There w (k + w.need) → w.taken k + w.d ≤ w.taken (k + w.need)
outlasting w e h k l = omega (arith, gaps w h w.need k l)

-- a product that exceeds a number has no factor 0
pub factors : (a b d : ℕ) → d < a * b → (1 ≤ a) × (1 ≤ b)
factors a b d l = (
  dite (dec_lt 0 a) (λ h. h) (λ none. let z : a ≡ 0 = omega arith in let nothing : a * b ≡ 0 = rw z (zero-mul b) in absurd (omega arith)),
  dite (dec_lt 0 b) (λ h. h) (λ none. let z : b ≡ 0 = omega arith in let nothing : a * b ≡ 0 = rw z (mul-zero a) in absurd (omega arith)),
)

-- in demand 3's own words: N at least 1, N·Tm that only reaches D, and a quiet gap that is only reached
pub enough_reached :
    (w : Watch) → 1 ≤ w.need → w.d ≤ w.need * w.tm → Fits w → GapLeast w → GapMost w → Formed w → Late w → Forward w → Rests w → QuietReached w
    → Sufficient w (w.taken 0)
enough_reached w some enough fits least most formed late forward rests quiet = record {
  counted = some;
  outlasts = outlasting w enough least;
  in_order = λ k l. omega (arith, least k l);
  fits = fits;
  gap_most = most;
  formed = formed;
  late = late;
  forward = forward;
  starts = rests (w.taken 0) (omega arith);
  start_before = omega arith;
  start_recent = omega arith;
  quiet = quiet;
}

pub sufficient : (w : Watch) → Observed w → Sufficient w (w.taken 0)
sufficient w o =
    enough_reached w (factors w.need w.tm w.d (omega (arith, o.enough))).0 (omega (arith, o.enough))
    o.fits o.gap_least o.gap_most o.formed o.late o.forward o.rests
    (λ i s s' il l a b. omega (arith, o.quiet i s s' il l a b))

pub truly_shown : (w : Watch) → Observed w → TrulyShown w (outputs w)
truly_shown w o = outputs_shown w (w.taken 0) (sufficient w o)

-- what was shown within an age was shown within a longer one
abbrev pub longer : {plant : ℕ → ℕ} {word instant a b : ℕ} → a ≤ b → ShownBy plant word instant a → ShownBy plant word instant b
longer l h = record { moment = h.moment; no_later = h.no_later; recent = omega (arith, h.recent); whole = h.whole }
