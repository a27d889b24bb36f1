-- `list_units` meets its contract: the run is accepted, so what it wrote is what its steps show.
use mathlib.Core.Path.{◌≡◌, ◌∙◌}
use mathlib.Core.Bool.{false}
use mathlib.Core.Logic.{⊎_elim}
use Prim.Native.Nat.{ℕ}
use native.Mathlib.Omega.{arith}
use borrow.Author.Tests.{eq-eqb, ne_eqb}
use Rattle.reserve.proofs.Told.{pairs_told, pairs_in_lem}
use Rattle.recording.specs.Recording.{bad_units}
use Rattle.recording.proofs.Shapes.{one_two_four}
use Rattle.listing.specs.Runnable.{Column}
use Rattle.listing.proofs.Accepts.{confirm_shown_lem, pair_shown, reserve_shown_lem}
use Rattle.listing.proofs.list_units.Goals as goal
use Rattle.listing.proofs.list_units.Goals.{in-1, in-2, in_default}

last : (units : ℕ) → bad_units units ≡ false → (units ≡ 1 → ⊥) → (units ≡ 2 → ⊥) → units ≡ 4
last units known one two = ⊎_elim (λ e. absurd (one e)) (⊎_elim (λ e. absurd (two e)) (λ e. e)) (one_two_four units known)

pub returns : goal.returns
returns c =
    let r = c.args.run in
    let h = r.h in
    elim c.match-h.branch [
      | in-1 w ↦
          let e = confirm_shown_lem h r.runnable r.first r.room w.run.ensures in
          rw (w.result-is, w.out-is, eq-eqb h.units 1 w.in-1.is) (rw (← e.0, ← e.1, ← e.2) w.put_listing.ensures)
      | in-2 w ↦
          let two : h.units ≡ 2 = w.in-2.is in
          let e = pair_shown h r.runnable r.first (r.second (omega arith)) r.room r.free w.run-in-2.ensures in
          rw (w.result-is, w.out-is, ne_eqb h.units 1 (λ q. omega arith), eq-eqb h.units 2 two) (rw (← e.0, ← e.1, ← e.2) w.put_listing-in-2.ensures)
      | in_default w ↦
          let four = last h.units r.known (λ q. omega (arith, w.in_default)) (λ q. omega (arith, w.in_default)) in
          let columns : (Column h r.one.now) × (Column h r.two.now) × (Column h r.three.now) × (Column h r.four.now) = (r.first, r.second (omega arith), r.third (omega arith), r.fourth (omega arith)) in
          let e = reserve_shown_lem h r.runnable columns r.room r.told w.run-in_default.ensures in
          let told = w.tell_pairs.ensures ∙ pairs_in_lem _ _ (omega (arith, w.run-in_default.auto.marks, r.room)) in
          rw (w.result-is, w.out-is, ne_eqb h.units 1 (λ q. omega arith), ne_eqb h.units 2 (λ q. omega arith))
          (rw (pairs_told h.n h.need h.word, ← e.0, ← e.1, ← told) w.put_listing-in_default.ensures)
    ]
