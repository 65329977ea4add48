-- Above an array there is one class.
use Rattle.std.proofs.Common.{◌≡◌, ◌<◌, ℕ, Bool, true, false, ◌||◌, ◌⊎◌, inl, inr, refl, ap, subst, arith}
use Rattle.jvm_values.specs.declared.types.Ty.{Ty}
use Rattle.jvm_values.specs.Subtyping.{class_type, array_of, IsReference}
use Rattle.jvm_values.specs.TypedHeaps.{WorldTypes, AreLawful}
use Rattle.jvm_run.proofs.Objects.{numbers_root, references_root}
use Rattle.abs_cells.specs.Cells.{is_comparable}
use Rattle.code_verify.proofs.TypeShapes.{Shape as TypeShape, class, numbers, references, shape_of, dims_below}

either_true : (a b : Bool) → a || b ≡ true → (a ≡ true) ⊎ (b ≡ true)
either_true true b e = inl refl
either_true false b e = inr e

-- only java/lang/Object is a class above an array
pub root_above : (types : WorldTypes) (laws : AreLawful types) (element s : Ty) (over : ℕ) → IsReference types.classes element
    → IsReference types.classes s → is_comparable types.sub (array_of element) s ≡ true → types.sub s (class_type over) ≡ true
    → over ≡ 0
root_above types laws element s over r w c up = by (either_true (types.sub (array_of element) s) (types.sub s (array_of element)) c)
  where
    shaped : types.sub s (array_of element) ≡ true → TypeShape types.classes s → over ≡ 0
    shaped below (class k e) =
        let dims : 0 < s.dims = dims_below types laws s (array_of element) w below (omega arith) in
        let none : s.dims ≡ 0 = ap (λ (t : Ty). t.dims) e in
        absurd (omega (arith, dims, none))
    shaped below (numbers kind e) = numbers_root types laws kind over (subst (λ (t : Ty). types.sub t (class_type over) ≡ true) e up)
    shaped below (references item i e) = references_root types laws item over i
        (subst (λ (t : Ty). types.sub t (class_type over) ≡ true) e up)

    by : (types.sub (array_of element) s ≡ true) ⊎ (types.sub s (array_of element) ≡ true) → over ≡ 0
    by (inl below) = references_root types laws element over r (laws.transitive (array_of element) s (class_type over) below up)
    by (inr below) = shaped below (shape_of types.classes s w)
