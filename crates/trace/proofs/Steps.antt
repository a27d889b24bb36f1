-- A run sample by sample: what a column holds at each place, properties of its states that may speak of the sample's
-- number, and two runs side by side. So two runs are equal where their steps agree on good states and alike samples and a
-- good state stays good: a run that tests nothing at each sample equals the public steps that test everything, and what no
-- step looks at changes no run. Then its parts, a part of its state that steps by itself, a state that no sample moves.
use mathlib.Core.Path.{◌≡◌, refl, sym, ap, ap₂, ◌∙◌}
use mathlib.Core.List.{List, [], ◌∷◌, ◌++◌, map, map-id}
use Prim.Native.Nat.{ℕ, zero, suc, ◌≤◌, ◌<◌}
use native.Mathlib.Omega.{arith}
use lib.ListN.{length, get_or, take, replicate, length-map}
use Rattle.trace.specs.Trace.{trace, left}

-- a run has a step for each sample
pub trace_length : {S X T : Type 0} (step : S → X → T) (next : T → S) (s : S) (xs : List X) → length (trace step next s xs) ≡ length xs
unfolding trace
trace_length step next s [] = refl
trace_length step next s (x ∷ xs) = ap suc (trace_length step next (next (step s x)) xs)

module _ {S X T : Type 0} (step : S → X → T) (next : T → S) (d : X) where
  -- place k of a column is what the step on sample k shows, from the state that the samples before it left
  pub shown_at :
      {A : Type 0} (shown : T → A) (e : A) (s : S) (xs : List X) (k : ℕ) → k < length xs
      → get_or (map shown (trace step next s xs)) k e ≡ shown (step (left step next s (take k xs)) (get_or xs k d))
  unfolding trace left
  shown_at shown e s [] k l = absurd (omega arith)
  shown_at shown e s (x ∷ xs) zero l = refl
  shown_at shown e s (x ∷ xs) (suc k) l = shown_at shown e (next (step s x)) xs k (omega arith)

  -- what each step keeps is so of the state before every sample, and after the last
  pub kept :
      (P : ℕ → S → Type 0) (xs : List X) → ((k : ℕ) (s : S) → k < length xs → P k s → P (suc k) (next (step s (get_or xs k d))))
      → (s : S) → P 0 s → (k : ℕ) → k ≤ length xs → P k (left step next s (take k xs))
  unfolding left
  kept P xs h s p zero l = p
  kept P [] h s p (suc k) l = absurd (omega arith)
  kept P (x ∷ xs) h s p (suc k) l = kept (λ j. P (suc j)) xs (λ j t m. h (suc j) t (omega arith)) (next (step s x)) (h 0 s (omega arith) p) k (omega arith)

  -- so what each step shows then, place k of the column holds
  pub at_each :
      {A : Type 0} (shown : T → A) (e : A) (P : ℕ → S → Type 0) (Q : ℕ → A → Type 0) (xs : List X)
      → ((k : ℕ) (s : S) → k < length xs → P k s → let t = step s (get_or xs k d) in P (suc k) (next t) × Q k (shown t))
      → (s : S) → P 0 s → (k : ℕ) → k < length xs → Q k (get_or (map shown (trace step next s xs)) k e)
  at_each shown e P Q xs h s p k l = rw (shown_at shown e s xs k l) (h k _ l (kept P xs (λ j t m q. (h j t m q).0) s p k (omega arith))).1

-- two runs side by side: they show the same where their steps do, and what their states are to each other is kept
module _
    {S X T S' X' T' A : Type 0} (step : S → X → T) (next : T → S) (step' : S' → X' → T') (next' : T' → S') (shown : T → A) (shown' : T' → A)
    (d : X) (d' : X') where
  pub follows_at :
      (R : ℕ → S → S' → Type 0) (xs : List X) (ys : List X') → length xs ≡ length ys
      → ((k : ℕ) (s : S) (s' : S') → k < length xs → R k s s' → let t = step s (get_or xs k d) in let t' = step' s' (get_or ys k d') in
      R (suc k) (next t) (next' t') × (shown t ≡ shown' t'))
      → (s : S) (s' : S') → R 0 s s' → map shown (trace step next s xs) ≡ map shown' (trace step' next' s' ys)
  unfolding trace
  follows_at R [] [] l h s s' r = refl
  follows_at R [] (y ∷ ys) l h s s' r = absurd (omega arith)
  follows_at R (x ∷ xs) [] l h s s' r = absurd (omega arith)
  follows_at R (x ∷ xs) (y ∷ ys) l h s s' r =
      let now = h 0 s s' (omega arith) r in
      ap₂ {C = List A} ◌∷◌ now.1
      (follows_at (λ j. R (suc j)) xs ys (omega arith) (λ j t t' m. h (suc j) t t' (omega arith)) _ _ now.0)

module _ {S X T : Type 0} (core step : S → X → T) (next : T → S) (Good : S → Type 0) where
  pub alike :
      (Like : X → X → Type 0)
      → ((s : S) (x y : X) → Good s → Like x y → step s y ≡ core s x)
      → ((s : S) (x y : X) → Good s → Like x y → Good (next (core s x)))
      → (d : X) (s : S) (xs ys : List X) → Good s → length xs ≡ length ys
      → ((i : ℕ) → i < length xs → Like (get_or xs i d) (get_or ys i d))
      → trace core next s xs ≡ trace step next s ys
  alike Like same keeps d s xs ys g l like =
      sym (map-id _)
      ∙ follows_at core next step next (λ (t : T). t) (λ (t : T). t) d d (λ k s s'. Good s × (s ≡ s')) xs ys l
      (λ k s s' m r. let e = same s _ _ r.0 (like k m) in rw (← r.1, e) ((keeps s _ _ r.0 (like k m), refl), refl)) s s (g, refl)
      ∙ map-id _

  pub agree :
      (Fine : X → Type 0)
      → ((s : S) (x : X) → Good s → Fine x → step s x ≡ core s x)
      → ((s : S) (x : X) → Good s → Fine x → Good (next (core s x)))
      → (d : X) (s : S) (xs : List X) → Good s → ((i : ℕ) → i < length xs → Fine (get_or xs i d))
      → trace core next s xs ≡ trace step next s xs
  agree Fine same keeps d s xs g fine =
      alike (λ (x y : X). Fine x × (x ≡ y)) (λ s x y g like. rw (← like.1) (same s x g like.0)) (λ s x y g like. keeps s x g like.0)
      d s xs xs g refl (λ i h. (fine i h, refl))

-- what every step from a good state on a fine sample shows is what a column of the run holds
module _
    {S X T : Type 0} (step : S → X → T) (next : T → S) (Good : S → Type 0) (Fine : X → Type 0)
    (keeps : (s : S) (x : X) → Good s → Fine x → Good (next (step s x))) (d : X) where
  pub column_shows :
      (shown : T → ℕ) (P : ℕ → Type 0) → ((s : S) (x : X) → Good s → Fine x → P (shown (step s x)))
      → (s : S) (xs : List X) → Good s → ((i : ℕ) → i < length xs → Fine (get_or xs i d))
      → (i : ℕ) → i < length (map shown (trace step next s xs)) → P (get_or (map shown (trace step next s xs)) i 0)
  column_shows shown P shows s xs g fine i l =
      at_each step next d shown 0 (λ k. Good) (λ k. P) xs (λ k s m g. (keeps s _ g (fine k m), shows s _ g (fine k m))) s g i
      (omega (arith, length-map (trace step next s xs) shown, trace_length step next s xs))

-- a run goes on from the state that its first part left
pub trace_append :
    {S X T : Type 0} (step : S → X → T) (next : T → S) (s : S) (xs ys : List X)
    → trace step next s (xs ++ ys) ≡ trace step next s xs ++ trace step next (left step next s xs) ys
unfolding trace left
trace_append step next s [] ys = refl
trace_append step next s (x ∷ xs) ys = rw (trace_append step next (next (step s x)) xs ys)

-- a part of the state that steps by itself is followed through the run by its own steps, and so is all that they show
module _ {S X T S' X' T' : Type 0} (step : S → X → T) (next : T → S) (step' : S' → X' → T') (next' : T' → S') (part : S → S') (seen : X → X') (Good : S → Type 0) where
  pub follows :
      {A : Type 0} (shown : T → A) (shown' : T' → A)
      → ((s : S) (x : X) → Good s → part (next (step s x)) ≡ next' (step' (part s) (seen x)))
      → ((s : S) (x : X) → Good s → shown (step s x) ≡ shown' (step' (part s) (seen x)))
      → ((s : S) (x : X) → Good s → Good (next (step s x)))
      → (s : S) (xs : List X) → Good s
      → map shown (trace step next s xs) ≡ map shown' (trace step' next' (part s) (map seen xs))
  unfolding trace
  follows shown shown' same shows keeps s [] g = refl
  follows {A} shown shown' same shows keeps s (x ∷ xs) g =
      rw (← same s x g, ← shows s x g) (ap (λ (l : List A). shown (step s x) ∷ l) (follows shown shown' same shows keeps (next (step s x)) xs (keeps s x g)))

-- where every sample gives the same step, and that step leaves the state as it was, the run is that step all along
module _ {S X T : Type 0} (step : S → X → T) (next : T → S) (s : S) (t : T) (back : next t ≡ s) (d : X) where
  pub unmoved : {A : Type 0} (f : T → A) (xs : List X) → ((i : ℕ) → i < length xs → step s (get_or xs i d) ≡ t) → map f (trace step next s xs) ≡ replicate (length xs) (f t)
  unfolding trace
  unmoved f [] same = refl
  unmoved {A} f (x ∷ xs) same = rw (same 0 (omega arith), back) (ap (λ (l : List A). f t ∷ l) (unmoved f xs (λ i h. same (suc i) (omega arith))))

  pub unmoved_left : (xs : List X) → ((i : ℕ) → i < length xs → step s (get_or xs i d) ≡ t) → left step next s xs ≡ s
  unfolding left
  unmoved_left [] same = refl
  unmoved_left (x ∷ xs) same = rw (same 0 (omega arith), back) (unmoved_left xs (λ i h. same (suc i) (omega arith)))
