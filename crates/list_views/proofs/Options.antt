-- Laws of `Option`: what a `Some` or `None` that a combinator gives says of its parts.
use Rattle.std.proofs.Common.{Option, refl, Some, None, ◌≡◌, true, cond, false, Bool, is_some, inl, inr, ◌⊎◌, sym, ◌∙◌, ℕ, ltb, ◌≤◌}
use Rattle.std.proofs.lemmas.Bool.{cases_Bool, ltb-false}
use Rattle.std.specs.Option.{option_map, option_or, option_and_then}
use Rattle.std.specs.Prelude.{is_none}

pub map_some : {A B : Type 0} (f : A → B) (o : Option A) (b : B) → option_map f o ≡ Some b → (a : A) × ((o ≡ Some a) × (f a ≡ b))
map_some f None b e = absurd (cc)
map_some f (Some a) b e = (a, (refl, cc))

pub cond_guarded : {A : Type 0} (b : Bool) (o : Option A) (y : A) → cond b o None ≡ Some y → (b ≡ true) × (o ≡ Some y)
cond_guarded true o y h = (refl, h)
cond_guarded false o y h = absurd cc

pub none_from_is_some : {A : Type 0} (o : Option A) → is_some o ≡ false → o ≡ None
none_from_is_some None h = refl
none_from_is_some (Some x) h = absurd cc

pub none_from_is_none : {A : Type 0} (o : Option A) → is_none o ≡ true → o ≡ None
none_from_is_none None h = refl
none_from_is_none (Some x) h = absurd cc

pub both_none : {A : Type 0} (x y : Option A) → option_or x y ≡ None → (x ≡ None) × (y ≡ None)
both_none None y e = (refl, e)
both_none (Some a) y e = cc

pub same_answer : {A B : Type 0} (f g : A → Option B) (x : Option A) → ((c : A) → x ≡ Some c → f c ≡ g c)
    → option_and_then f x ≡ option_and_then g x
same_answer f g None h = refl
same_answer f g (Some c) h = h c refl

pub or_none : {A : Type 0} (a : Option A) → option_or a None ≡ a
or_none None = refl
or_none (Some x) = refl

pub cond_either : {A : Type 0} (b : Bool) (x y z : A) → cond b x y ≡ z → ((b ≡ true) × (x ≡ z)) ⊎ ((b ≡ false) × (y ≡ z))
cond_either true x y z e = inl (refl, e)
cond_either false x y z e = inr (refl, e)

pub one_answer : {A : Type 0} (o : Option A) (x y : A) → o ≡ Some x → o ≡ Some y → x ≡ y
one_answer o x y e f = let k : Some x ≡ Some y = sym e ∙ f in cc

pub then_some : {A B : Type 0} (f : A → Option B) (x : Option A) (c : B) → option_and_then f x ≡ Some c
    → (y : A) × ((x ≡ Some y) × (f y ≡ Some c))
then_some f None c e = absurd (cc)
then_some f (Some y) c e = (y, (refl, e))

pub none_from_place : (n len : ℕ) → cond (ltb n len) (Some n) None ≡ None → len ≤ n
none_from_place n len h = elim (cases_Bool (ltb n len)) [
  | inl less ↦ let e : Some n ≡ None = (rw less at h) in absurd cc
  | inr not_less ↦ ltb-false n len not_less
]
