-- What calls answer, from what the calls within them answer.
use Rattle.std.proofs.Common.{◌≡◌, ◌≤◌, ◌++◌, ℕ, Bool, List, length, slice_get, Some, Result, Ok, Err, sym, subst}
use Rattle.std.specs.Prelude.{◌↔◌, IfOk, IsTrue}
use Rattle.std.specs.List.{AllZip}
use Rattle.jvm_values.specs.declared.heap.Heap.{Heap}
use Rattle.jvm_values.specs.declared.heap.Value.{Value}
use Rattle.jvm_values.specs.declared.heap.Value.TheVariants.{Null}
use Rattle.jvm_values.specs.declared.shape.Shape.{Shape}
use Rattle.jvm_values.specs.declared.types.Ty.{Ty}
use Rattle.jvm_values.specs.Heaps.{HasShape}
use Rattle.jvm_values.specs.TypedHeaps.{WorldTypes, HasType}
use Rattle.jvm_heaps.specs.Regions.{IsRegion}
use Rattle.class_world.specs.WorldTypes.{types_of}
use Rattle.class_program.specs.declared.program.Method.{Method}
use Rattle.class_program.specs.Programs.{Program}
use Rattle.input_desc.specs.declared.desc.Desc.{Desc}
use Rattle.input_desc.specs.declared.desc.Input.{Input}
use Rattle.input_desc.specs.declared.desc.Input.TheVariants.{Ref}
use Rattle.input_desc.specs.Fitting.{FitsInput}
use Rattle.input_desc.specs.States.{IsTypedInput}
use Rattle.input_fits.specs.Givens.{IsFitting}
use Rattle.input_fits.specs.inner.Words.{NameOne, HaveCommon, AreListed, FitTogether}
use Rattle.input_fits.proofs.Sharing.{shared_listed}
use Rattle.input_fits.proofs.Starting.{fitting, together}

pub reference_told : {E : Type 0} (types : WorldTypes) (heap : Heap) (t : Ty) (null : Bool) (shape : Shape) (value : Value) (input : Input)
    (answer : Result Bool E) → input ≡ Ref t null shape → (value ≡ Null → IsTrue null) → HasType types heap value t
    → IfOk answer (λ a. IsTrue a ↔ HasShape shape heap value) → IfOk answer (λ a. IsTrue a ↔ FitsInput types heap input value)
reference_told types heap t null shape value input (Err e) is may typed told = tt
reference_told types heap t null shape value input (Ok a) is may typed told = subst
    (λ (i : Input). IsTrue a ↔ FitsInput types heap i value) (sym is) (λ e. (may, (typed, told.0 e)), λ h. told.1 h.1.1)

pub together_told : (types : WorldTypes) (desc : Desc) (heap : Heap) (values : List Value) (found lists : List (List ℕ))
    (pairs : List (ℕ × ℕ)) (answer : Bool) → lists ≡ found → pairs ≡ desc.same ++ desc.share → AllZip (IsRegion heap) values found
    → AllZip (FitsInput types heap) desc.inputs values → AreListed NameOne values desc.same
    → (IsTrue answer ↔ AreListed HaveCommon lists pairs) → IsTrue answer ↔ FitTogether types desc heap values
together_told types desc heap values found lists pairs answer lists_are pairs_are are each same told =
    let shared = shared_listed heap values found (desc.same ++ desc.share) are in (
      λ e. record {
        each = each;
        same = same;
        share = shared.0 (subst (λ (ls : List (List ℕ)). AreListed HaveCommon ls (desc.same ++ desc.share)) lists_are
            (subst (λ (ps : List (ℕ × ℕ)). AreListed HaveCommon lists ps) pairs_are (told.0 e)));
      },
      λ h. told.1 (subst (λ (ps : List (ℕ × ℕ)). AreListed HaveCommon lists ps) (sym pairs_are)
          (subst (λ (ls : List (List ℕ)). AreListed HaveCommon ls (desc.same ++ desc.share)) (sym lists_are) (shared.1 h.share))),
    )

pub fits_told : {E : Type 0} (p : Program) (desc : Desc) (args statics values : List Value) (heap : Heap) (method : Method)
    (answer : Result Bool E) → slice_get p.methods 0 ≡ Some method → IsTypedInput p (record { args = args; statics = statics; heap = heap })
    → length args ≤ method.max_locals → values ≡ args ++ statics
    → IfOk answer (λ a. IsTrue a ↔ FitTogether (types_of p.world) desc heap values)
    → IfOk answer (λ a. IsTrue a ↔ IsFitting p desc args statics heap)
fits_told p desc args statics values heap method (Err e) entry typed room are told = tt
fits_told p desc args statics values heap method (Ok a) entry typed room are told = (
  λ e. fitting p desc args statics heap method entry typed room
      (subst (λ (vs : List Value). FitTogether (types_of p.world) desc heap vs) are (told.0 e)),
  λ h. told.1 (subst (λ (vs : List Value). FitTogether (types_of p.world) desc heap vs) (sym are)
      (together p desc args statics heap method entry typed h)),
)
