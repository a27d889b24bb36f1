-- `Tuple::admits` meets its contract: the one test, with the voters' count as one more for row 1 and the places as one
-- more reason for row 7.
use mathlib.Core.Path.{◌≡◌, refl, sym, ap, ap₂, ◌∙◌}
use mathlib.Core.Bool.{Bool, true, false, not, ◌&&◌, ◌||◌, or-true, or_assoc}
use Prim.Native.Nat.{ℕ, ◌-◌}
use lib.Bits.{bit_or}
use lib.Dec.{ltb, eqb}
use Rattle.rules.specs.Limits.{bad_count, outside}
use Rattle.rules.specs.Signals.{as_word}
use Rattle.rules.specs.Table.{first}
use Rattle.rules.specs.Refusals.{counted, admits}
use Rattle.rules.proofs.OneTest.{admits_exactly, both_counted}
use Rattle.rules.proofs.Width.{outside_or}
use Rattle.confirm.specs.declared.Confirm.{Confirm}
use Rattle.tuple.specs.declared.Tuple.{Tuple}
use Rattle.tuple.specs.Tuple.{width, vote_need, miscounted, bad_state, rows_of}
use Rattle.tuple.proofs.TwoWords.{beyond, by_two_words}
use Rattle.tuple.proofs.Tuple.admits.Goals as goal

-- the reasons for row 7 in the order of the definition: p the places that count above N-1, l the count, c the places
-- that count, g, x and y the agreed word, the input and the output
in_order : (p l c g x y : Bool) → (p || l) || (c || (g || (x || y))) ≡ ((p || c) || g) || ((l || x) || y)
in_order true l c g x y = refl
in_order false l true g x y = or-true l
in_order false l false true x y = or-true l
in_order false l false false x y = sym (or_assoc l x y)

module _ (s : Tuple) (a b : ℕ) where
  abbrev f : Confirm
  f = s.confirm

  abbrev counting : ℕ
  counting = as_word 32 (beyond 0 s.counts)

  abbrev some_above : Bool
  some_above = not (eqb (as_word 32 (beyond (vote_need s - 1) s.counts)) 0)

  abbrev stored : ℕ
  stored = bit_or counting (bit_or s.agreed (bit_or f.input f.output))

  spoilt : let late = ltb (f.need - 1) f.count in (some_above || late) || outside f.n stored ≡ bad_state s
  spoilt =
      let late = ltb (f.need - 1) f.count in
      rw (outside_or f.n counting (bit_or s.agreed (bit_or f.input f.output)), outside_or f.n s.agreed (bit_or f.input f.output), outside_or f.n f.input f.output, by_two_words (width s) (vote_need s) s.counts)
      (in_order some_above late (outside f.n counting) (outside f.n s.agreed) (outside f.n f.input) (outside f.n f.output))

  -- both counts, each with its own N
  tested : admits (not (bad_count (vote_need s) || some_above) && counted f.need f.count) f.n (bit_or (bit_or a b) stored) ≡ eqb (first (rows_of s a b)) 0
  tested =
      let late = ltb (f.need - 1) f.count in
      admits_exactly (miscounted s) (some_above || late) f.n (bit_or a b) stored (both_counted (bad_count (vote_need s)) some_above (bad_count f.need) late) (outside_or f.n a b) spoilt

pub returns : goal.returns
returns c =
    let x = c.args in
    let s = x.self in
    let f = s.confirm in
    let over = c.places_above-over.ensures ∙ ap (λ (limit : ℕ). as_word 32 (beyond limit s.counts)) c.last.ensures in
    c.admits.ensures
    ∙ ap₂ (λ (k : Bool) (w : ℕ). admits k f.n (bit_or (bit_or x.a x.b) (bit_or w (bit_or s.agreed (bit_or f.input f.output)))))
    (ap₂ ◌&&◌ (ap₂ (λ (m : Bool) (w : ℕ). not (m || not (eqb w 0))) c.bad_count.ensures over) c.counted.ensures) c.places_above-counting.ensures
    ∙ tested s x.a x.b
