-- An agreed reading is `Sound`; an answer is an alarm exactly when all three magnitudes exceed the tolerance.
use mathlib.Core.Path.{◌≡◌, refl, sym, subst, ◌∙◌}
use mathlib.Core.Logic.{◌↔◌, ◌⊎◌, inl, inr, ⊎_map}
use mathlib.Core.Bool.{Bool, true, false, not, ◌||◌}
use Prim.Native.Nat.{ℕ}
use native.Mathlib.Omega.{arith}
use lib.Dec.{T}
use lib.Ieee.{Float, binary64, sub, le, lt}
use lib.Ieee.Scale.{finite}
use Rattle.std.proofs.lemmas.Float.{T_from_true}
use Rattle.rules.specs.Table.{first}
use Rattle.rules.proofs.Tables.{or_each}
use Rattle.threshold.specs.declared.Readings.{Readings}
use Rattle.rules.specs.declared.refusal.Refusal.TheVariants.{Reading}
use Rattle.rules.specs.Refusal.{refusal_of}
use Rattle.threshold.specs.declared.Threshold.TheVariants.{Agreed, Alarm, Refused}
use Rattle.threshold.specs.Threshold.{magnitude_of, within, agrees, bad_readings, median_of, threshold_of}
use Rattle.threshold.specs.Promises.{Between, Agrees, Exceeds, Sound, Apart}
use Rattle.threshold.proofs.Median.{mid_xy, mid_yz, mid_zx, mid_one}
use Rattle.threshold.proofs.Noughts.{four_finite}
use Rattle.threshold.proofs.Numbers.{sub_number, magnitude_number, finite_within}
use Rattle.threshold.proofs.Order.{total, trans, exceeds}

abbrev Finite : Float → Type 0
Finite x = T (finite x)

one_of : (a b c : Bool) → a || b || c ≡ true → T a ⊎ (T b ⊎ T c)
one_of true b c e = inl tt
one_of false true c e = inr (inl tt)
one_of false false c e = inr (inr (T_from_true c e))

-- a difference does not agree exactly when its magnitude exceeds the tolerance
beyond : (a b t : Float) → Finite a → Finite b → Finite t → (within a b t ≡ false) ↔ Exceeds a b t
beyond a b t f g h = go (lt t (magnitude_of (sub binary64 a b))) (exceeds (magnitude_of (sub binary64 a b)) t (magnitude_number (sub binary64 a b) (sub_number a b f g)) h) where
  go : (o : Bool) → within a b t ≡ not o → (within a b t ≡ false) ↔ T o
  go true e = (λ _. tt, λ _. e)
  go false e = (λ w. let z : true ≡ false = sym e ∙ w in subst T z tt, λ k. absurd k)

module _ (r : Readings) where
  -- what is known where nothing is refused
  record Taken : Type 0 where
    finite1 : Finite r.x1
    finite2 : Finite r.x2
    finite3 : Finite r.x3
    finite_tolerance : Finite r.tolerance

  taken : bad_readings r ≡ false → Taken
  taken e =
      let f = four_finite r e in
      record { finite1 = f.0; finite2 = f.1; finite3 = f.2; finite_tolerance = f.3 }

  to_refused : bad_readings r ≡ true → threshold_of r ≡ Refused Reading
  unfolding threshold_of first refusal_of
  to_refused b = simp b

  to_agreed : bad_readings r ≡ false → agrees r ≡ true → threshold_of r ≡ Agreed (median_of r)
  unfolding threshold_of first
  to_agreed b a = simp (b, a)

  to_alarm : bad_readings r ≡ false → agrees r ≡ false → threshold_of r ≡ Alarm
  unfolding threshold_of first
  to_alarm b a = simp (b, a)

  pub sound : (m : Float) → threshold_of r ≡ Agreed m → Sound r m
  sound m e = go (bad_readings r) refl (agrees r) refl where
    go : (b : Bool) → bad_readings r ≡ b → (a : Bool) → agrees r ≡ a → Sound r m
    go true p a q = let z : ◌≡◌ {A = ℕ} 0 1 = cc (to_refused p) in absurd (omega arith)
    go false p false q = let z : ◌≡◌ {A = ℕ} 0 1 = cc (to_alarm p q) in absurd (omega arith)
    go false p true q =
        let t = taken p in
        let is : median_of r ≡ m = cc (to_agreed p q) in
        let near : (a b : Float) → T (within a b r.tolerance) → Agrees a b r.tolerance = λ a b h. (finite_within (sub binary64 a b) r.tolerance t.finite_tolerance h, h) in
        record {
          between12 = subst (Between r.x1 r.x2) is (mid_xy le Finite total trans r.x1 r.x2 r.x3 t.finite1 t.finite2 t.finite3);
          between23 = subst (Between r.x2 r.x3) is (mid_yz le Finite total trans r.x1 r.x2 r.x3 t.finite1 t.finite2 t.finite3);
          between31 = subst (Between r.x3 r.x1) is (mid_zx le Finite total trans r.x1 r.x2 r.x3 t.finite1 t.finite2 t.finite3);
          one_of_three = rw (← is) (mid_one le Finite total trans r.x1 r.x2 r.x3 t.finite1 t.finite2 t.finite3);
          two_agree = ⊎_map (near r.x2 r.x1) (⊎_map (near r.x3 r.x2) (near r.x1 r.x3)) (one_of (within r.x2 r.x1 r.tolerance) (within r.x3 r.x2 r.tolerance) (within r.x1 r.x3 r.tolerance) q);
        }

  pub alarm_exactly : (threshold_of r ≡ Alarm) ↔ ((bad_readings r ≡ false) × Apart r)
  alarm_exactly = (λ e. go e (bad_readings r) refl (agrees r) refl, λ g. to_alarm g.0 (none (taken g.0) g.1)) where
    go : threshold_of r ≡ Alarm → (b : Bool) → bad_readings r ≡ b → (a : Bool) → agrees r ≡ a → (bad_readings r ≡ false) × Apart r
    go e true p a q = let z : ◌≡◌ {A = ℕ} 0 1 = cc (to_refused p) in absurd (omega arith)
    go e false p true q = let z : ◌≡◌ {A = ℕ} 0 1 = cc (to_agreed p q) in absurd (omega arith)
    go e false p false q =
        let t = taken p in
        let s = or_each (or_each (λ e. e) (λ e. e)) (λ e. e) q in (
          p,
          record {
            apart21 = (beyond _ _ _ t.finite2 t.finite1 t.finite_tolerance).0 s.0.0;
            apart32 = (beyond _ _ _ t.finite3 t.finite2 t.finite_tolerance).0 s.0.1;
            apart13 = (beyond _ _ _ t.finite1 t.finite3 t.finite_tolerance).0 s.1;
          },
        )

    none : Taken → Apart r → agrees r ≡ false
    none t a =
        simp (
          (beyond r.x2 r.x1 r.tolerance t.finite2 t.finite1 t.finite_tolerance).1 a.apart21,
          (beyond r.x3 r.x2 r.tolerance t.finite3 t.finite2 t.finite_tolerance).1 a.apart32,
          (beyond r.x1 r.x3 r.tolerance t.finite1 t.finite3 t.finite_tolerance).1 a.apart13,
        )
