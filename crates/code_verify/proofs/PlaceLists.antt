-- Lists of types of places that `==` calls equal are equal.
use Rattle.std.proofs.Common.{◌≡◌, true, List, [], ◌∷◌, refl, ap}
use Rattle.std.specs.Cmp.Lexicographic.{pointwise}
use Rattle.std.proofs.lemmas.Bool.{false≢true, and_parts}
use Rattle.jvm_values.specs.declared.typing.PlaceType.{PlaceType}
use Rattle.jvm_values.specs.declared.typing.PlaceType.TheVariants as places
use Rattle.jvm_values.specs.contracts.typing.PlaceTypePartialEq.TheImpl as place_eq
use Rattle.class_program.proofs.SlotLists.{type_same}

place_same : (a b : PlaceType) → place_eq.eq-value.it a b ≡ true → a ≡ b
place_same places.Unset places.Unset e = refl
place_same places.Unset places.Int e = absurd (false≢true e)
place_same places.Unset places.Null e = absurd (false≢true e)
place_same places.Unset (places.Ref t) e = absurd (false≢true e)
place_same places.Int places.Unset e = absurd (false≢true e)
place_same places.Int places.Int e = refl
place_same places.Int places.Null e = absurd (false≢true e)
place_same places.Int (places.Ref t) e = absurd (false≢true e)
place_same places.Null places.Unset e = absurd (false≢true e)
place_same places.Null places.Int e = absurd (false≢true e)
place_same places.Null places.Null e = refl
place_same places.Null (places.Ref t) e = absurd (false≢true e)
place_same (places.Ref s) places.Unset e = absurd (false≢true e)
place_same (places.Ref s) places.Int e = absurd (false≢true e)
place_same (places.Ref s) places.Null e = absurd (false≢true e)
place_same (places.Ref s) (places.Ref t) e = ap places.Ref (type_same s t e)

pub places_same : (xs ys : List PlaceType) → pointwise place_eq.eq-value.it xs ys ≡ true → xs ≡ ys
places_same [] [] e = refl
places_same [] (y ∷ ys) e = absurd (false≢true e)
places_same (x ∷ xs) [] e = absurd (false≢true e)
places_same (x ∷ xs) (y ∷ ys) e =
    let r = and_parts (place_eq.eq-value.it x y) (pointwise place_eq.eq-value.it xs ys) e in
    both x y xs ys (place_same x y r.0) (places_same xs ys r.1)
  where
    both : (a b : PlaceType) (cs ds : List PlaceType) → a ≡ b → cs ≡ ds → (a ∷ cs) ≡ (b ∷ ds)
    both a b cs ds p q = cc
