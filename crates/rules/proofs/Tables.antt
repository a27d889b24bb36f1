-- The law of tables, for any chain of refusals: a number is given exactly when its row says so and no row before it does.
use mathlib.Core.Path.{◌≡◌, refl, sym, ap, ◌∙◌}
use mathlib.Core.Logic.{◌↔◌, ◌⊎◌, inl, inr, ⊎_elim}
use mathlib.Core.List.Memᴰ
use mathlib.Core.List.{List, [], ◌∷◌, ◌++◌, Memᴰ}
use mathlib.Core.Bool.{Bool, true, false, ◌&&◌, ◌||◌, true≢false, false≢true}
use Prim.Native.Nat.{ℕ, ◌<◌, ◌≤◌}
use native.Mathlib.Omega.{arith}
use lib.Dec.{ltb, leb, eqb}
use borrow.Author.Tests.{ltb-true, lt-ltb, leb-true, eqb-true, eqb-false, ne_eqb}
use Rattle.std.specs.Prelude.{if◌then◌else◌, Result, Ok, Err}
use Rattle.std.specs.Result.{IsErrAnd}
use Rattle.rules.specs.Choose.{choose◌then◌else◌}
use Rattle.rules.specs.declared.refusal.Refusal.{Refusal}
use Rattle.rules.specs.declared.refusal.Refusal.TheVariants.{Count, Width, TooLong, Lengths, Word, Sample, State, Times, TooMany, Reading, NotRecording}
use Rattle.rules.specs.Refusal.{number, refusal_of, is_refusal, told, row, below}
use Rattle.rules.specs.Table.{Row, ◌when◌, first, answer, numbered, known, rising, has, Given, LowestOf, or_else}

pub and_both : (a b : Bool) → a && b ≡ true → (a ≡ true) × (b ≡ true)
and_both true b e = (refl, e)
and_both false b e = absurd (false≢true e)

pub or_neither : (a b : Bool) → a || b ≡ false → (a ≡ false) × (b ≡ false)
or_neither true b e = absurd (true≢false e)
or_neither false b e = (refl, e)

-- so each of two tests says what it says where it is false
pub or_each : {P Q : Type 0} {a b : Bool} → (a ≡ false → P) → (b ≡ false → Q) → a || b ≡ false → P × Q
or_each {a = a} {b = b} f g e = let p = or_neither a b e in (f p.0, g p.1)

-- a number that no row has is not given
pub foreign : (k : ℕ) (rows : List Row) → 0 < k → has k rows ≡ false → first rows ≡ k → ⊥
unfolding first
foreign k [] h n e = omega arith
foreign k (j when true ∷ rows) h n e = eqb-false j k (or_neither (eqb j k) _ n).0 e
foreign k (j when false ∷ rows) h n e = foreign k rows h (or_neither (eqb j k) _ n).1 e

pub exactly : (rows : List Row) → numbered rows ≡ true → (k : ℕ) → (first rows ≡ k) ↔ Given k rows
unfolding first numbered
exactly [] u k = (λ e. sym e, λ e. sym e)
exactly (j when b ∷ rows) u k =
    go b (eqb j k) (has k rows) refl refl (ltb-true 0 j (and_both (ltb 0 j) _ u).0) (exactly rows (and_both (ltb 0 j) _ u).1 k)
  where
    go :
        (b same again : Bool) → eqb j k ≡ same → has k rows ≡ again → 0 < j
        → ((first rows ≡ k) ↔ Given k rows)
        → ((if b then j else first rows) ≡ k)
        ↔ (choose same then (choose again then (b ≡ true) ⊎ Given k rows else (b ≡ true)) else ((b ≡ false) × Given k rows))
    go true true true q h p later = (λ _. inl refl, λ _. eqb-true j k q)
    go true true false q h p later = (λ _. refl, λ _. eqb-true j k q)
    go true false again q h p later = (λ e. absurd (eqb-false j k q e), λ g. absurd (true≢false g.0))
    go false true true q h p later = (λ e. inr (later.0 e), ⊎_elim (λ g. absurd (false≢true g)) later.1)
    go false true false q h p later =
        let s = eqb-true j k q in
        (λ e. absurd (foreign k rows (omega arith) h e), λ g. absurd (false≢true g))
    go false false again q h p later = (λ e. (refl, later.0 e), λ g. later.1 g.1)

-- where the numbers rise, the one that is given is the lowest of those whose tests are true
above : (low : ℕ) (rows : List Row) → rising low rows ≡ true → (j : ℕ) (b : Bool) → Memᴰ (j when b) rows → low < j
unfolding rising
above low [] r j b m = absurd (Memᴰ.not-nil m)
above low (k when c ∷ rows) r j b (Memᴰ.head e) =
    let q : j ≡ k = cc in
    omega (arith, ltb-true low k (and_both (ltb low k) _ r).0)
above low (k when c ∷ rows) r j b (Memᴰ.tail m) =
    let p = and_both (ltb low k) (rising k rows) r in
    omega (arith, ltb-true low k p.0, above k rows p.1 j b m)

lowest_above : (low : ℕ) (rows : List Row) → rising low rows ≡ true → (j : ℕ) → Memᴰ (j when true) rows → (low < first rows) × (first rows ≤ j)
unfolding first rising
lowest_above low [] r j m = absurd (Memᴰ.not-nil m)
lowest_above low (k when true ∷ rows) r j m =
    let p = and_both (ltb low k) (rising k rows) r in
    (ltb-true low k p.0, go m p.1)
  where
    go : Memᴰ (j when true) (k when true ∷ rows) → rising k rows ≡ true → k ≤ j
    go (Memᴰ.head e) q = let s : j ≡ k = cc in omega arith
    go (Memᴰ.tail m) q = omega (arith, above k rows q j true m)
lowest_above low (k when false ∷ rows) r j (Memᴰ.head e) = let q : true ≡ false = cc in absurd (true≢false q)
lowest_above low (k when false ∷ rows) r j (Memᴰ.tail m) =
    let p = and_both (ltb low k) (rising k rows) r in
    let l = lowest_above k rows p.1 j m in
    (omega (arith, ltb-true low k p.0, l.0), l.1)

pub lowest : (rows : List Row) → rising 0 rows ≡ true → LowestOf rows
lowest = lowest_above 0

-- what a table's number tells, as code finds it by `?` or a match
pub told_err : {k : ℕ} {refusal : Refusal} → told k ≡ Err refusal → (k ≡ 0 → ⊥) × (refusal_of k ≡ refusal)
unfolding told
told_err {k} {refusal} = go (eqb k 0) refl where
  go : (b : Bool) → eqb k 0 ≡ b → ◌≡◌ {A = Result (Unit {0}) Refusal} (if b then Ok tt else Err (refusal_of k)) (Err refusal) → (k ≡ 0 → ⊥) × (refusal_of k ≡ refusal)
  go true q e = absurd (cc)
  go false q e = (eqb-false k 0 q, cc)

pub told_some : {k : ℕ} → (k ≡ 0 → ⊥) → told k ≡ Err (refusal_of k)
unfolding told
told_some {k} h = rw (ne_eqb k 0 h)

pub told_ok : {k : ℕ} {x : Unit {0}} → told k ≡ Ok x → k ≡ 0
unfolding told
told_ok {k} {x} = go (eqb k 0) refl where
  go : (b : Bool) → eqb k 0 ≡ b → ◌≡◌ {A = Result (Unit {0}) Refusal} (if b then Ok tt else Err (refusal_of k)) (Ok x) → k ≡ 0
  go true q e = eqb-true k 0 q
  go false q e = absurd (cc)

-- the two ways to answer
module _ {A : Type 0} (refuse : Refusal → A) (work : A) where
  pub refuses : (k : ℕ) {refusal : Refusal} → told k ≡ Err refusal → refuse refusal ≡ answer k refuse work
  refuses k e = let r = told_err e in rw (ne_eqb k 0 r.0, r.1)

  pub works : (k : ℕ) → k ≡ 0 → work ≡ answer k refuse work
  works k e = rw e

-- a table's answer with something of its own beside, as code finds it by `?`
pub or_err : {A : Type 0} (k : ℕ) (x : A) {refusal : Refusal} → ◌≡◌ {A = Result A Refusal} (answer k (λ r. Err r) (Ok x)) (Err refusal) → told k ≡ Err refusal
unfolding told
or_err k x {refusal} = go (eqb k 0) where
  go :
      (b : Bool) → ◌≡◌ {A = Result _ Refusal} (if b then Ok x else Err (refusal_of k)) (Err refusal)
      → ◌≡◌ {A = Result (Unit {0}) Refusal} (if b then Ok tt else Err (refusal_of k)) (Err refusal)
  go true e = absurd (cc)
  go false e = cc

pub or_ok : {A : Type 0} (k : ℕ) (x : A) {y : A} → ◌≡◌ {A = Result A Refusal} (answer k (λ r. Err r) (Ok x)) (Ok y) → (k ≡ 0) × (x ≡ y)
or_ok k x {y} = go (eqb k 0) refl where
  go : (b : Bool) → eqb k 0 ≡ b → ◌≡◌ {A = Result _ Refusal} (if b then Ok x else Err (refusal_of k)) (Ok y) → (k ≡ 0) × (x ≡ y)
  go true q e = (eqb-true k 0 q, cc)
  go false q e = absurd (cc)

-- and what `?` hands out
pub raised : {A E : Type 0} {r : Result A E} {e : E} → IsErrAnd r (λ x. x ≡ e) → r ≡ Err e
raised {r = Ok x} h = absurd h
raised {E = E} {r = Err x} h = ap (λ (y : E). Err y) h

-- what holds of every refusal, and of the work where no number is given, holds of the answer
pub either_answer :
    {A : Type 0} (P : A → Type 0) (number : ℕ) (refuse : Refusal → A) (work : A)
    → ((refusal : Refusal) → P (refuse refusal))
    → (number ≡ 0 → P work)
    → P (answer number refuse work)
either_answer P number refuse work refused worked = go (eqb number 0) refl
  where
    go : (b : Bool) → eqb number 0 ≡ b → P (if b then work else refuse (refusal_of number))
    go true q = worked (eqb-true number 0 q)
    go false q = refused (refusal_of number)

-- a refusal has a number, and where a number is a refusal's it is that refusal's own
positive : (refusal : Refusal) → 0 < number refusal
positive = elim [
  | Count ↦ omega arith
  | Width ↦ omega arith
  | TooLong ↦ omega arith
  | Lengths ↦ omega arith
  | Word ↦ omega arith
  | Sample ↦ omega arith
  | State ↦ omega arith
  | Times ↦ omega arith
  | TooMany ↦ omega arith
  | Reading ↦ omega arith
  | NotRecording ↦ omega arith
]

pub never_zero : (refusal : Refusal) → number refusal ≡ 0 → ⊥
never_zero refusal e = omega (arith, positive refusal, e)

-- so two refusals of one number are one
named : (refusal : Refusal) → refusal_of (number refusal) ≡ refusal
unfolding refusal_of
named = elim [
  | Count ↦ refl
  | Width ↦ refl
  | TooLong ↦ refl
  | Lengths ↦ refl
  | Word ↦ refl
  | Sample ↦ refl
  | State ↦ refl
  | Times ↦ refl
  | TooMany ↦ refl
  | Reading ↦ refl
  | NotRecording ↦ refl
]

pub number_tells : (r r' : Refusal) → number r ≡ number r' → r ≡ r'
number_tells r r' e = sym (named r) ∙ ap refusal_of e ∙ named r'

pub own : (k : ℕ) → is_refusal k ≡ true → number (refusal_of k) ≡ k
own k e = eqb-true (number (refusal_of k)) k e

pub known_numbered : (rows : List Row) → known rows ≡ true → numbered rows ≡ true
unfolding known numbered
known_numbered [] u = refl
known_numbered (k when b ∷ rows) u =
    let p = and_both (is_refusal k) (known rows) u in
    rw (lt-ltb 0 k (omega (arith, positive (refusal_of k), own k p.0))) (known_numbered rows p.1)

pub known_first : (rows : List Row) → known rows ≡ true → (first rows ≡ 0 → ⊥) → is_refusal (first rows) ≡ true
unfolding known first
known_first [] u h = absurd (h refl)
known_first (k when true ∷ rows) u h = (and_both (is_refusal k) (known rows) u).0
known_first (k when false ∷ rows) u h = known_first rows (and_both (is_refusal k) (known rows) u).1 h

-- an answer's number is its table's, where a refusal has its own number and the work none
pub own_number :
    {A : Type 0} (number_of : A → ℕ) (rows : List Row) (refuse : Refusal → A) (work : A)
    → known rows ≡ true
    → ((refusal : Refusal) → number_of (refuse refusal) ≡ number refusal)
    → number_of work ≡ 0
    → number_of (answer (first rows) refuse work) ≡ first rows
own_number {A} number_of rows refuse work u given none = go (eqb (first rows) 0) refl
  where
    go : (b : Bool) → eqb (first rows) 0 ≡ b → number_of (if b then work else refuse (refusal_of (first rows))) ≡ first rows
    go true q = none ∙ sym (eqb-true (first rows) 0 q)
    go false q = given (refusal_of (first rows)) ∙ own (first rows) (known_first rows u (eqb-false (first rows) 0 q))

-- so a call answers with number k exactly when its table says so
pub exactly_when :
    {A : Type 0} (number_of : A → ℕ) (rows : List Row) (refuse : Refusal → A) (work : A)
    → known rows ≡ true
    → ((refusal : Refusal) → number_of (refuse refusal) ≡ number refusal)
    → number_of work ≡ 0
    → (k : ℕ) → (number_of (answer (first rows) refuse work) ≡ k) ↔ Given k rows
exactly_when number_of rows refuse work u given none k =
    rw (own_number number_of rows refuse work u given none) (exactly rows (known_numbered rows u) k)

-- a row whose test is false changes nothing
pub stays : (r k : ℕ) → or_else r k false ≡ r
stays r k = go (eqb r 0) refl where
  go : (b : Bool) → eqb r 0 ≡ b → (if b then 0 else r) ≡ r
  go true q = sym (eqb-true r 0 q)
  go false q = refl

-- a row more, as code has it: a row below by `?`
pub or_else_told : (refusal number : ℕ) (bad : Bool) → (number ≡ 0 → ⊥) → told (or_else refusal number bad) ≡ below (told refusal) (row (refusal_of number) bad)
unfolding told
or_else_told refusal number bad some = go (eqb refusal 0) bad refl where
  go :
      (z b : Bool) → eqb refusal 0 ≡ z
      → (let r = if z then (if b then number else 0) else refusal in if eqb r 0 then Ok tt else Err (refusal_of r))
      ≡ below (if z then Ok tt else Err (refusal_of refusal)) (row (refusal_of number) b)
  go true true e = rw (ne_eqb number 0 some)
  go true false e = refl
  go false b e = rw e

-- a table and a second one below it
joined : (rows later : List Row) → numbered rows ≡ true → first (rows ++ later) ≡ (if eqb (first rows) 0 then first later else first rows)
unfolding first numbered
joined [] later u = refl
joined (j when true ∷ rows) later u = let h = ltb-true 0 j (and_both (ltb 0 j) _ u).0 in rw (ne_eqb j 0 (λ e. omega arith))
joined (j when false ∷ rows) later u = joined rows later (and_both (ltb 0 j) _ u).1

module _ (rows later : List Row) (u : numbered rows ≡ true) where
  pub upper : (first rows ≡ 0 → ⊥) → first (rows ++ later) ≡ first rows
  upper h = joined rows later u ∙ rw (ne_eqb (first rows) 0 h)

  pub lower : first rows ≡ 0 → first (rows ++ later) ≡ first later
  lower e = joined rows later u ∙ rw e

-- a table with one row more
pub one_more : (rows : List Row) → numbered rows ≡ true → (k : ℕ) (b : Bool) → first (rows ++ (k when b ∷ [])) ≡ or_else (first rows) k b
unfolding first
one_more rows u k b = joined rows (k when b ∷ []) u

-- a table whose numbers are all m at the most gives none above it
unfoldable pub all_up_to : ℕ → List Row → Bool
all_up_to m [] = true
all_up_to m (k when b ∷ rows) = leb k m && all_up_to m rows

pub first_most : (m : ℕ) (rows : List Row) → all_up_to m rows ≡ true → first rows ≤ m
unfolding first all_up_to
first_most m [] u = omega arith
first_most m (k when b ∷ rows) u = let p = and_both (leb k m) (all_up_to m rows) u in go b (leb-true k m p.0) (first_most m rows p.1) where
  go : (b : Bool) → k ≤ m → first rows ≤ m → (if b then k else first rows) ≤ m
  go true h l = h
  go false h l = l
