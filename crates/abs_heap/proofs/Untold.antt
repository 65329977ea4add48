-- Cells that tell no type, or one that no type has, describe nothing together.
use Rattle.std.proofs.Common.{◌≡◌, ℕ, ◌<◌, ◌&&◌, ◌||◌, Bool, false, not, inl, inr, Option, Some, None, refl, ap, ◌∙◌, arith, List}
use Rattle.std.proofs.lemmas.Bool.{cases_Bool}
use Rattle.jvm_values.specs.declared.types.Ty.{Ty}
use Rattle.jvm_values.specs.declared.types.Slot.{Slot}
use Rattle.jvm_values.specs.Subtyping.{SubtypeLaws}
use Rattle.abs_cells.specs.Cells.{are_compatible_types}
use Rattle.abs_heap.specs.inner.Building.{IsUntold}

module _ (sub : Ty → Ty → Bool) (erase : Ty → Ty) (classes : ℕ) (fields : ℕ → List Slot) (can_be_made : ℕ → Bool)
    (laws : SubtypeLaws sub erase classes fields can_be_made) where
  not_below : (a b : Ty) → 255 < a.dims → sub a b ≡ false
  not_below a b l = elim (cases_Bool (sub a b)) [ inl e ↦ absurd (let h = (laws.of_world a b e).0.0 in omega (arith, h, l)) | inr e ↦ e ]

  not_above : (a b : Ty) → 255 < a.dims → sub b a ≡ false
  not_above a b l = elim (cases_Bool (sub b a)) [ inl e ↦ absurd (let h = (laws.of_world b a e).1.0 in omega (arith, h, l)) | inr e ↦ e ]

  pub untold_left : (k l : Bool) (a b : Option Ty) → IsUntold a → are_compatible_types sub k l a b ≡ false
  untold_left k l None b u = refl
  untold_left k l (Some t) None u = refl
  untold_left k l (Some t) (Some s) u =
      let m = u t refl in
      ap (λ (x : Bool). (x || sub s t) && ((not k || sub t s) && (not l || sub s t))) (not_below t s m)
      ∙ ap (λ (x : Bool). x && ((not k || sub t s) && (not l || sub s t))) (not_above t s m)

  pub untold_right : (k l : Bool) (a b : Option Ty) → IsUntold b → are_compatible_types sub k l a b ≡ false
  untold_right k l None b u = refl
  untold_right k l (Some t) None u = refl
  untold_right k l (Some t) (Some s) u =
      let m = u s refl in
      ap (λ (x : Bool). (x || sub s t) && ((not k || sub t s) && (not l || sub s t))) (not_above s t m)
      ∙ ap (λ (x : Bool). x && ((not k || sub t s) && (not l || sub s t))) (not_below s t m)
