-- Lists of slots that `==` calls equal are equal.
use Rattle.std.proofs.Common.{◌≡◌, ℕ, true, eqb, List, [], ◌∷◌, refl, ap}
use Rattle.std.specs.Cmp.Lexicographic.{pointwise}
use Rattle.std.proofs.lemmas.Bool.{false≢true, and_parts, eqb-true}
use Rattle.jvm_values.specs.declared.types.Kind.{Kind}
use Rattle.jvm_values.specs.declared.types.Kind.TheVariants.{Boolean, Char, Byte, Short, Int}
use Rattle.jvm_values.specs.declared.types.Base.{Base}
use Rattle.jvm_values.specs.declared.types.Base.TheVariants as bases
use Rattle.jvm_values.specs.declared.types.Ty.{Ty}
use Rattle.jvm_values.specs.declared.types.Slot.{Slot}
use Rattle.jvm_values.specs.declared.types.Slot.TheVariants as slots
use Rattle.jvm_values.specs.contracts.types.KindPartialEq.TheImpl as kind_eq
use Rattle.jvm_values.specs.contracts.types.BasePartialEq.TheImpl as base_eq
use Rattle.jvm_values.specs.contracts.types.TyPartialEq.TheImpl as type_eq
use Rattle.jvm_values.specs.contracts.types.SlotPartialEq.TheImpl as slot_eq

kind_same : (a b : Kind) → kind_eq.eq-value.it a b ≡ true → a ≡ b
kind_same Boolean Boolean e = refl
kind_same Boolean Char e = absurd (false≢true e)
kind_same Boolean Byte e = absurd (false≢true e)
kind_same Boolean Short e = absurd (false≢true e)
kind_same Boolean Int e = absurd (false≢true e)
kind_same Char Boolean e = absurd (false≢true e)
kind_same Char Char e = refl
kind_same Char Byte e = absurd (false≢true e)
kind_same Char Short e = absurd (false≢true e)
kind_same Char Int e = absurd (false≢true e)
kind_same Byte Boolean e = absurd (false≢true e)
kind_same Byte Char e = absurd (false≢true e)
kind_same Byte Byte e = refl
kind_same Byte Short e = absurd (false≢true e)
kind_same Byte Int e = absurd (false≢true e)
kind_same Short Boolean e = absurd (false≢true e)
kind_same Short Char e = absurd (false≢true e)
kind_same Short Byte e = absurd (false≢true e)
kind_same Short Short e = refl
kind_same Short Int e = absurd (false≢true e)
kind_same Int Boolean e = absurd (false≢true e)
kind_same Int Char e = absurd (false≢true e)
kind_same Int Byte e = absurd (false≢true e)
kind_same Int Short e = absurd (false≢true e)
kind_same Int Int e = refl

base_same : (a b : Base) → base_eq.eq-value.it a b ≡ true → a ≡ b
base_same (bases.Class x) (bases.Class y) e = ap bases.Class (eqb-true x y e)
base_same (bases.Class x) (bases.Num k) e = absurd (false≢true e)
base_same (bases.Num j) (bases.Class y) e = absurd (false≢true e)
base_same (bases.Num j) (bases.Num k) e = ap bases.Num (kind_same j k e)

pub type_same : (a b : Ty) → type_eq.eq-value.it a b ≡ true → a ≡ b
type_same a b e =
    let r = and_parts (eqb a.dims b.dims) (base_eq.eq-value.it a.base b.base) e in
    parts a.dims b.dims a.base b.base (eqb-true a.dims b.dims r.0) (base_same a.base b.base r.1)
  where
    parts : (m n : ℕ) (c d : Base) → m ≡ n → c ≡ d → ◌≡◌ {A = Ty} (record { dims = m; base = c }) (record { dims = n; base = d })
    parts m n c d p q = cc

slot_same : (a b : Slot) → slot_eq.eq-value.it a b ≡ true → a ≡ b
slot_same (slots.Num j) (slots.Num k) e = ap slots.Num (kind_same j k e)
slot_same (slots.Num j) (slots.Ref t) e = absurd (false≢true e)
slot_same (slots.Ref s) (slots.Num k) e = absurd (false≢true e)
slot_same (slots.Ref s) (slots.Ref t) e = ap slots.Ref (type_same s t e)

pub slots_same : (xs ys : List Slot) → pointwise slot_eq.eq-value.it xs ys ≡ true → xs ≡ ys
slots_same [] [] e = refl
slots_same [] (y ∷ ys) e = absurd (false≢true e)
slots_same (x ∷ xs) [] e = absurd (false≢true e)
slots_same (x ∷ xs) (y ∷ ys) e =
    let r = and_parts (slot_eq.eq-value.it x y) (pointwise slot_eq.eq-value.it xs ys) e in
    both x y xs ys (slot_same x y r.0) (slots_same xs ys r.1)
  where
    both : (a b : Slot) (cs ds : List Slot) → a ≡ b → cs ≡ ds → (a ∷ cs) ≡ (b ∷ ds)
    both a b cs ds p q = cc
