-- `text::places` meets its contract: each test is a power of ten.
use mathlib.Core.Path.{◌≡◌, sym, ◌∙◌}
use mathlib.Core.List.{List}
use Prim.Native.Nat.{ℕ, zero, suc, ◌+◌, ◌<◌, ◌≤◌, ◌^◌}
use native.Mathlib.Omega.{arith}
use native.Mathlib.Numerals.{add-one}
use lib.ListN.{length, get_or}
use borrow.Author.Tests.{ltb-true, ltb-false}
use Rattle.std.specs.Prelude.{Some, None, position, nat_lt}
use Rattle.std.specs.List.{position_or_len}
use Rattle.std.proofs.lemmas.Grind.{common_steps}
use Rattle.std.proofs.lemmas.List.Quantifiers.{position-Some}
use Rattle.std.proofs.lemmas.List.Sums.{fails_before_first}
use Rattle.rules.specs.Signals.{as_list}
use Rattle.rules.proofs.Signals.{list_at, list_length}
use Rattle.text.specs.Text.{places}
use Rattle.text.proofs.Digits.{places_one, places_exactly}
use Rattle.text.proofs.places.Goals as goal

abbrev power : ℕ → ℕ
power k = 10 ^ suc k

powers : List ℕ
powers = as_list 9 power

power_at : (k : ℕ) → k < 9 → get_or powers k 0 ≡ power k
unfolding powers
power_at = list_at power 9

powers_length : length powers ≡ 9
unfolding powers
powers_length = list_length power 9

first : (n k : ℕ) → position (λ p. nat_lt n p) powers ≡ Some k → k + 1 ≡ places n
first n zero e =
    let found = position-Some (λ p. nat_lt n p) powers 0 0 e in
    sym (places_one 9 n (rw (power_at 0 (omega arith)) at (ltb-true _ _ found.1)))
first n (suc k) e =
    let found = position-Some (λ p. nat_lt n p) powers (suc k) 0 e in
    let few : suc k < 9 = rw powers_length at found.0 in
    let least = rw (power_at k (omega arith)) at (ltb-false _ _ (found.2 k (omega arith))) in
    let above = rw (power_at (suc k) few) at (ltb-true _ _ found.1) in
    add-one (suc k) ∙ places_exactly (suc k) n (omega arith) least above

none : (n : ℕ) → n < 2 ^ 32 → position (λ p. nat_lt n p) powers ≡ None → 10 ≡ places n
none n h e =
    let past : length powers ≤ position_or_len (λ p. nat_lt n p) powers = grind (arith, common_steps) in
    let least = rw (power_at 8 (omega arith)) at (ltb-false _ _ (fails_before_first (λ p. nat_lt n p) powers 8 0 (omega (arith, powers_length)))) in
    places_exactly 9 n (omega arith) least (omega arith)

pub returns-in-Some : goal.returns-in-Some
unfolding as_list powers
returns-in-Some c = first c.args.n c.in-Some.k (sym c.in-Some.ensures)

pub returns-in-None : goal.returns-in-None
unfolding as_list powers
returns-in-None c = none c.args.n (omega arith) (sym c.in-None.ensures)
