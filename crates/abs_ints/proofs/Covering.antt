-- Where the numbers of an operation lie: in intervals, in parts of intervals, and in one of the cases.
use Rattle.std.proofs.Common.{◌≡◌, zero, suc, ℤ, ◌≤ℤ◌, Bool, true, false, cond, Option, Some, None, List, [], ◌∷◌, refl, arith}
use Rattle.std.specs.Prelude.{int_le, IsSomeAnd}
use Rattle.std.specs.List.{Any, cons_option}
use Rattle.std.specs.Option.{option_and_then}
use Rattle.std.specs.Int.{int_max, int_min}
use Rattle.std.proofs.lemmas.Int.{ints, clamps}
use Rattle.lin_core.specs.Intervals.{Bounds, IsIn, interval_of}
use Rattle.abs_ints.specs.Cases.{case_between, case_with, IsTrueOf, AllTrueOf}
use Rattle.abs_ints.specs.IntIntervals.{meet_of}
use Rattle.abs_ints.specs.declared.cases.IntCase.{IntCase}
use Rattle.abs_ints.specs.declared.cases.ShortRow.{ShortRow}
use Rattle.abs_ints.specs.declared.cases.Way.{Way}

abbrev pub bounds : ℤ → ℤ → Bounds
bounds lo hi = record { lo = lo; hi = hi }

abbrev nothing : Option Bounds
nothing = None

in_cond : (t : Bool) (n lo hi : ℤ) → int_le lo hi ≡ t → lo ≤ℤ n → n ≤ℤ hi
    → IsSomeAnd (cond t (Some (bounds lo hi)) nothing) (λ x. IsIn n x)
in_cond true n lo hi e l h = (l, h)
in_cond false n lo hi e l h = absurd (omega (arith, ints))

-- a number between two ends lies in their interval
pub in_interval : (n lo hi : ℤ) → lo ≤ℤ n → n ≤ℤ hi → IsSomeAnd (interval_of lo hi) (λ x. IsIn n x)
in_interval n lo hi l h = in_cond (int_le lo hi) n lo hi refl l h

-- a number of both intervals lies in their meet
pub in_meet : (n : ℤ) (a b : Bounds) → IsIn n a → IsIn n b → IsSomeAnd (meet_of a b) (λ x. IsIn n x)
in_meet n a b p q =
    in_interval n (int_max a.lo b.lo) (int_min a.hi b.hi) (omega (arith, ints, clamps)) (omega (arith, ints, clamps))

-- ---- rows

pub no_rows : (m n r : ℤ) → AllTrueOf m n r []
no_rows m n r k d h = absurd (omega arith)

pub more_rows : (m n r : ℤ) (row : ShortRow) (rows : List ShortRow) → IsTrueOf m n r row → AllTrueOf m n r rows
    → AllTrueOf m n r (row ∷ rows)
more_rows m n r row rows p q zero d h = p
more_rows m n r row rows p q (suc k) d h = q k d (omega arith)

-- ---- cases

-- a case that is there, from operands in their intervals
pub covers_between : (P : IntCase → Type 0) (way : Way) (left right : Option Bounds) (rows : List ShortRow) (m n : ℤ)
    → IsSomeAnd left (λ x. IsIn m x) → IsSomeAnd right (λ x. IsIn n x)
    → ((a b : Bounds) → IsIn m a → IsIn n b → P (record { left = a; right = b; result = None; rows = rows; way = way }))
    → IsSomeAnd (case_between way left right rows) P
covers_between P way None right rows m n p q make = absurd p
covers_between P way (Some a) None rows m n p q make = absurd q
covers_between P way (Some a) (Some b) rows m n p q make = make a b p q

pub covers_with : (P : IntCase → Type 0) (way : Way) (left right result : Option Bounds) (rows : List ShortRow) (m n r : ℤ)
    → IsSomeAnd left (λ x. IsIn m x) → IsSomeAnd right (λ x. IsIn n x) → IsSomeAnd result (λ x. IsIn r x)
    → ((a b c : Bounds) → IsIn m a → IsIn n b → IsIn r c
    → P (record { left = a; right = b; result = Some c; rows = rows; way = way })) → IsSomeAnd (case_with way left right result rows) P
covers_with P way None right result rows m n r p q i make = absurd p
covers_with P way (Some a) None result rows m n r p q i make = absurd q
covers_with P way (Some a) (Some b) None rows m n r p q i make = absurd i
covers_with P way (Some a) (Some b) (Some c) rows m n r p q i make = make a b c p q i

-- a case that is made from an interval, which is there
pub covers_and_then : (P : IntCase → Type 0) (from : Option Bounds) (f : Bounds → Option IntCase) (z : ℤ)
    → IsSomeAnd from (λ x. IsIn z x) → ((x : Bounds) → IsIn z x → IsSomeAnd (f x) P) → IsSomeAnd (option_and_then f from) P
covers_and_then P None f z h make = absurd h
covers_and_then P (Some x) f z h make = make x h

-- some case of a list
pub any_first : (P : IntCase → Type 0) (first : Option IntCase) (rest : List IntCase) → IsSomeAnd first P → Any P (cons_option first rest)
any_first P None rest p = absurd p
any_first P (Some x) rest p = (0, x, omega arith, refl, p)

pub any_rest : (P : IntCase → Type 0) (first : Option IntCase) (rest : List IntCase) → Any P rest → Any P (cons_option first rest)
any_rest P None rest h = h
any_rest P (Some x) rest h = (suc h.0, h.1, omega (arith, h.2), h.3, h.4)
