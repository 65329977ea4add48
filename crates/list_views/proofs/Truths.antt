-- Laws of `Bool`: of `&&`, `||` and of tests that agree.
use Rattle.std.proofs.Common.{Bool, refl, false, true, ◌≡◌, ◌||◌, ◌&&◌, sym, inr, inl, ◌⊎◌}

pub or_false : (b : Bool) → (b || false) ≡ b
or_false true = refl
or_false false = refl

pub or_second : (a b : Bool) → a ≡ false → (a || b) ≡ true → b ≡ true
or_second true b e h = absurd (cc)
or_second false b e h = h

pub and_true : (a : Bool) → (a && true) ≡ a
and_true true = refl
and_true false = refl

pub same_truth : (a b : Bool) → (a ≡ true → b ≡ true) → (b ≡ true → a ≡ true) → a ≡ b
same_truth true b f g = sym (f refl)
same_truth false true f g = g refl
same_truth false false f g = refl

pub or_assoc : (a b c : Bool) → ((a || b) || c) ≡ (a || (b || c))
or_assoc true b c = refl
or_assoc false b c = refl

pub and_false : (b : Bool) → (b && false) ≡ false
and_false true = refl
and_false false = refl

pub and_swapped : (a b : Bool) → (a && b) ≡ (b && a)
and_swapped true true = refl
and_swapped true false = refl
and_swapped false true = refl
and_swapped false false = refl

pub or_twice : (a b : Bool) → (a || b) ≡ (a || (a || b))
or_twice true b = refl
or_twice false b = refl

pub or_over : (s t h : Bool) → (s || (t || h)) ≡ (t || (s || h))
or_over true true h = refl
or_over true false h = refl
or_over false t h = refl

pub or_swapped : (x y : Bool) → (x || y) ≡ (y || x)
or_swapped true true = refl
or_swapped true false = refl
or_swapped false true = refl
or_swapped false false = refl

pub or_behind : (a b : Bool) → (a || b) ≡ (b || (a || false))
or_behind true true = refl
or_behind true false = refl
or_behind false true = refl
or_behind false false = refl

pub or_either : (s t : Bool) → (s ≡ true) ⊎ (t ≡ true) → (s || t) ≡ true
or_either true t h = refl
or_either false true h = refl
or_either false false (inl e) = e
or_either false false (inr e) = e
