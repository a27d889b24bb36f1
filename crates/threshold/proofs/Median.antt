-- The median of three, for any order in which all good values compare: it lies between any two of them, and is one of them.
use mathlib.Core.Path.{◌≡◌, refl, sym, subst}
use mathlib.Core.Logic.{◌⊎◌, inl, inr, ⊎_elim}
use mathlib.Core.Bool.{Bool, true, false}
use lib.Dec.{T}
use Rattle.std.specs.Prelude.{if◌then◌else◌}

-- a choice between two has what both have
pub either : {A : Type 0} (P : A → Type 0) (t : Bool) {a b : A} → P a → P b → P (if t then a else b)
either P true p q = p
either P false p q = q

module _ {A : Type 0} (le : A → A → Bool) (Good : A → Type 0)
    (total : (x y : A) → Good x → Good y → T (le x y) ⊎ T (le y x))
    (trans : (x y z : A) → Good x → Good y → Good z → T (le x y) → T (le y z) → T (le x z)) where
  abbrev least : A → A → A
  least a b = if le a b then a else b

  abbrev most : A → A → A
  most a b = if le b a then a else b

  self : (a : A) → Good a → T (le a a)
  self a f = ⊎_elim (λ h. h) (λ h. h) (total a a f f)

  other : (a b : A) → Good a → Good b → le a b ≡ false → T (le b a)
  other a b f g e = ⊎_elim (λ h. absurd (subst T e h)) (λ h. h) (total a b f g)

  module _ (a b : A) (f : Good a) (g : Good b) where
    least_left : T (le (least a b) a)
    least_left = go (le a b) refl where
      go : (t : Bool) → le a b ≡ t → T (le (if t then a else b) a)
      go true e = self a f
      go false e = other a b f g e

    least_right : T (le (least a b) b)
    least_right = go (le a b) refl where
      go : (t : Bool) → le a b ≡ t → T (le (if t then a else b) b)
      go true e = subst T (sym e) tt
      go false e = self b g

    most_left : T (le a (most a b))
    most_left = go (le b a) refl where
      go : (t : Bool) → le b a ≡ t → T (le a (if t then a else b))
      go true e = self a f
      go false e = other b a g f e

    most_right : T (le b (most a b))
    most_right = go (le b a) refl where
      go : (t : Bool) → le b a ≡ t → T (le b (if t then a else b))
      go true e = subst T (sym e) tt
      go false e = self b g

    -- from the lesser to the greater is between the two
    between : (m : A) → Good m → T (le (least a b) m) → T (le m (most a b)) → (T (le a m) × T (le m b)) ⊎ (T (le b m) × T (le m a))
    between m i low high = go (le a b) refl (le b a) refl low high where
      go :
          (s : Bool) → le a b ≡ s → (t : Bool) → le b a ≡ t
          → T (le (if s then a else b) m) → T (le m (if t then a else b)) → (T (le a m) × T (le m b)) ⊎ (T (le b m) × T (le m a))
      go true p true q h k = inl (h, trans m a b i f g k (subst T (sym p) tt))
      go true p false q h k = inl (h, k)
      go false p true q h k = inr (h, k)
      go false p false q h k = absurd (subst T q (other a b f g p))

  module _ (x y z : A) (f : Good x) (g : Good y) (h : Good z) where
    abbrev mid : A
    mid = most (most (least x y) (least y z)) (least z x)

    xy : Good (least x y)
    xy = either Good (le x y) f g

    yz : Good (least y z)
    yz = either Good (le y z) g h

    zx : Good (least z x)
    zx = either Good (le z x) h f

    two : Good (most (least x y) (least y z))
    two = either Good (le (least y z) (least x y)) xy yz

    good : Good mid
    good = either Good (le (least z x) (most (least x y) (least y z))) two zx

    -- it is at least each of the three, and at most what they all are
    over_two : T (le (most (least x y) (least y z)) mid)
    over_two = most_left (most (least x y) (least y z)) (least z x) two zx

    over_xy : T (le (least x y) mid)
    over_xy = trans (least x y) (most (least x y) (least y z)) mid xy two good (most_left (least x y) (least y z) xy yz) over_two

    over_yz : T (le (least y z) mid)
    over_yz = trans (least y z) (most (least x y) (least y z)) mid yz two good (most_right (least x y) (least y z) xy yz) over_two

    over_zx : T (le (least z x) mid)
    over_zx = most_right (most (least x y) (least y z)) (least z x) two zx

    under : (b : A) → T (le (least x y) b) → T (le (least y z) b) → T (le (least z x) b) → T (le mid b)
    under b p q r =
        either (λ (m : A). T (le m b)) (le (least z x) (most (least x y) (least y z)))
        (either (λ (m : A). T (le m b)) (le (least y z) (least x y)) p q) r

    -- it lies between a and b where each of the three is at most one of them
    spans :
        (a b : A) → Good a → Good b → T (le (least a b) mid)
        → T (le (least x y) a) ⊎ T (le (least x y) b) → T (le (least y z) a) ⊎ T (le (least y z) b) → T (le (least z x) a) ⊎ T (le (least z x) b)
        → (T (le a mid) × T (le mid b)) ⊎ (T (le b mid) × T (le mid a))
    spans a b i j low p q r = between a b i j mid good low (under (most a b) (below (least x y) xy p) (below (least y z) yz q) (below (least z x) zx r)) where
      below : (u : A) → Good u → T (le u a) ⊎ T (le u b) → T (le u (most a b))
      below u k =
          ⊎_elim
          (λ e. trans u a (most a b) k i (either Good (le b a) i j) e (most_left a b i j))
          (λ e. trans u b (most a b) k j (either Good (le b a) i j) e (most_right a b i j))

    pub mid_xy : (T (le x mid) × T (le mid y)) ⊎ (T (le y mid) × T (le mid x))
    mid_xy = spans x y f g over_xy (inl (least_left x y f g)) (inr (least_left y z g h)) (inl (least_right z x h f))

    pub mid_yz : (T (le y mid) × T (le mid z)) ⊎ (T (le z mid) × T (le mid y))
    mid_yz = spans y z g h over_yz (inl (least_right x y f g)) (inl (least_left y z g h)) (inr (least_left z x h f))

    pub mid_zx : (T (le z mid) × T (le mid x)) ⊎ (T (le x mid) × T (le mid z))
    mid_zx = spans z x h f over_zx (inr (least_left x y f g)) (inl (least_right y z g h)) (inl (least_left z x h f))

    pub mid_one : (mid ≡ x) ⊎ ((mid ≡ y) ⊎ (mid ≡ z))
    mid_one =
        either One (le (least z x) (most (least x y) (least y z)))
        (either One (le (least y z) (least x y)) (either One (le x y) (inl refl) (inr (inl refl))) (either One (le y z) (inr (inl refl)) (inr (inr refl))))
        (either One (le z x) (inr (inr refl)) (inl refl))
      where
        One : A → Type 0
        One m = (m ≡ x) ⊎ ((m ≡ y) ⊎ (m ≡ z))
