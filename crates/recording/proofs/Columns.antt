-- Where a recording's columns lie: inside its bytes, and at offsets that fit every number.
use Prim.Native.Nat.{ℕ, ◌+◌, ◌*◌, ◌≤◌, ◌<◌}
use mathlib.Core.Path.{◌≡◌}
use native.Mathlib.Nat.{mul-le-mul, mul-suc, le_refl}
use native.Mathlib.Numerals.{add-one}
use native.Mathlib.Omega.{arith}
use Rattle.recording.specs.Recording.{column_at}

pub bounded : (samples k : ℕ) → samples ≤ 2048 → k ≤ 5 → samples * k ≤ 10240
bounded samples k = mul-le-mul

-- sample i of column k lies before the end of the last column
pub inside : (samples units k i : ℕ) → k ≤ units → i < samples → column_at samples k + 4 * i + 4 ≤ column_at samples (units + 1)
inside samples units k i h l =
    let more : k + 1 ≤ units + 1 = omega arith in
    let next : samples * (k + 1) ≡ samples * k + samples = rw add-one (mul-suc samples k) in
    omega (arith, mul-le-mul (le_refl samples) more)
