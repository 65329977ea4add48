-- Intervals from ends that are computed.
use Rattle.std.proofs.Common.{◌≡◌, ℕ, ◌≤◌, ℤ, ◌*ℤ◌, ◌≤ℤ◌, ◌<ℤ◌, Bool, true, false, cond, Option, Some, None, FitsSigned, to_z, of_z}
use Rattle.std.proofs.Common.{to_z-of_z, w32, w64, refl, ap, ◌∙◌, sym, lit<, arith}
use Rattle.std.specs.Prelude.{int_le, unsigned_abs}
use Rattle.std.specs.Int.{int_max, int_min}
use Rattle.std.proofs.lemmas.Int.{ints, fits_signed_mul}
use Rattle.jvm_values.proofs.IntLaws.{abs_of_int}
use Rattle.lin_core.specs.Intervals.{Bounds, interval_of}

abbrev bounds : ℤ → ℤ → Bounds
bounds lo hi = record { lo = lo; hi = hi }

-- the interval of two ends, from the interval of two numbers that were passed as ints
pub made : (r : Option Bounds) (x y lo hi : ℤ) → r ≡ interval_of (to_z w32 (of_z w32 x)) (to_z w32 (of_z w32 y))
    → to_z w32 (of_z w32 x) ≡ lo → to_z w32 (of_z w32 y) ≡ hi → r ≡ interval_of lo hi
made r x y lo hi e l h =
    e ∙ ap (λ (z : ℤ). interval_of z (to_z w32 (of_z w32 y))) l ∙ ap (λ (z : ℤ). interval_of lo z) h

abbrev nothing : Option Bounds
nothing = None

none_made : (t : Bool) (lo hi : ℤ) → int_le lo hi ≡ t → hi <ℤ lo → nothing ≡ cond t (Some (record { lo = lo; hi = hi })) nothing
none_made true lo hi e h = absurd (omega (arith, ints))
none_made false lo hi e h = refl

-- there is none where the first end is above the second
pub none_is : (lo hi : ℤ) → hi <ℤ lo → nothing ≡ interval_of lo hi
none_is lo hi h = none_made (int_le lo hi) lo hi refl h

-- intervals with equal ends
pub ends_are : (x y lo hi : ℤ) → x ≡ lo → y ≡ hi → bounds x y ≡ bounds lo hi
ends_are x y lo hi l h = ap (λ (z : ℤ). bounds z y) l ∙ ap (λ (z : ℤ). bounds lo z) h

some_made : (t : Bool) (lo hi : ℤ) → int_le lo hi ≡ t → lo ≤ℤ hi → Some (bounds lo hi) ≡ cond t (Some (bounds lo hi)) nothing
some_made true lo hi e h = refl
some_made false lo hi e h = absurd (omega (arith, ints))

-- the interval of two ends, where the first is not above the second
pub some_is : (x y lo hi : ℤ) → x ≡ lo → y ≡ hi → lo ≤ℤ hi → Some (bounds x y) ≡ interval_of lo hi
some_is x y lo hi l h o = ap (λ (b : Bounds). Some b) (ends_are x y lo hi l h) ∙ some_made (int_le lo hi) lo hi refl o

-- ---- products, least and greatest numbers, as they are computed

fits_more : (z : ℤ) → FitsSigned w32 z → FitsSigned w64 z
fits_more z f = omega (arith, ints)

-- the product of two ints has room
pub product_fits : (x y : ℤ) → FitsSigned w32 x → FitsSigned w32 y → FitsSigned w64 (x *ℤ y)
product_fits x y f g = fits_signed_mul w64 x y 2147483648 2147483648 (abs_of_int x f) (abs_of_int y g) (lit< tt)

pub factors_are : (u v x y : ℤ) → u ≡ x → v ≡ y → FitsSigned w32 x → FitsSigned w32 y
    → to_z w64 (of_z w64 u) *ℤ to_z w64 (of_z w64 v) ≡ x *ℤ y
factors_are u v x y e h f g =
    ap (λ (z : ℤ). to_z w64 (of_z w64 z) *ℤ to_z w64 (of_z w64 v)) e
    ∙ ap (λ (z : ℤ). to_z w64 (of_z w64 x) *ℤ to_z w64 (of_z w64 z)) h
    ∙ ap (λ (z : ℤ). z *ℤ to_z w64 (of_z w64 y)) (to_z-of_z (fits_more x f)) ∙ ap (λ (z : ℤ). x *ℤ z) (to_z-of_z (fits_more y g))

pub product_made : (u v x y : ℤ) → u ≡ x → v ≡ y → FitsSigned w32 x → FitsSigned w32 y
    → to_z w64 (of_z w64 (to_z w64 (of_z w64 u) *ℤ to_z w64 (of_z w64 v))) ≡ x *ℤ y
product_made u v x y e h f g =
    ap (λ (z : ℤ). to_z w64 (of_z w64 z)) (factors_are u v x y e h f g) ∙ to_z-of_z (product_fits x y f g)

-- a product that was computed of two ints
pub times_is : (r u v x y : ℤ) → r ≡ to_z w32 (of_z w32 u) *ℤ to_z w32 (of_z w32 v) → to_z w32 (of_z w32 u) ≡ x
    → to_z w32 (of_z w32 v) ≡ y → r ≡ x *ℤ y
times_is r u v x y e h k = e ∙ ap (λ (z : ℤ). z *ℤ to_z w32 (of_z w32 v)) h ∙ ap (λ (z : ℤ). x *ℤ z) k

-- the lesser and the greater of two numbers
pub lesser_is : (r p q x y : ℤ) → r ≡ int_min (to_z w64 (of_z w64 p)) (to_z w64 (of_z w64 q)) → FitsSigned w64 r → FitsSigned w64 p
    → FitsSigned w64 q → p ≡ x → q ≡ y → to_z w64 (of_z w64 r) ≡ int_min x y
lesser_is r p q x y e f g h i j =
    to_z-of_z f ∙ e ∙ ap (λ (z : ℤ). int_min z (to_z w64 (of_z w64 q))) (to_z-of_z g ∙ i) ∙ ap (λ (z : ℤ). int_min x z) (to_z-of_z h ∙ j)

pub greater_is : (r p q x y : ℤ) → r ≡ int_max (to_z w64 (of_z w64 p)) (to_z w64 (of_z w64 q)) → FitsSigned w64 r → FitsSigned w64 p
    → FitsSigned w64 q → p ≡ x → q ≡ y → to_z w64 (of_z w64 r) ≡ int_max x y
greater_is r p q x y e f g h i j =
    to_z-of_z f ∙ e ∙ ap (λ (z : ℤ). int_max z (to_z w64 (of_z w64 q))) (to_z-of_z g ∙ i) ∙ ap (λ (z : ℤ). int_max x z) (to_z-of_z h ∙ j)
