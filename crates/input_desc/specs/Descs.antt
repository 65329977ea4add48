-- Descriptions against a program: the first fault, and what is described.
use Rattle.std.specs.Prelude.{◌≡◌, ◌≤◌, All, ℕ, ◌==◌, ◌&&◌, ◌||◌, not, ℤ, Bool, true, false, if◌then◌else◌, List, [], ◌∷◌, ◌++◌}
use Rattle.std.specs.Prelude.{length, map, slice_get, Option, Some, None, Result, Ok, Err, option_and_then, option_map, is_some}
use Rattle.std.specs.List.{position_from}
use Rattle.std.specs.Int.{int_max, int_min}
use Rattle.std.specs.Option.{option_or, option_map_or}
use Rattle.abs_cells.specs.lin_core.Intervals.{interval_of}
use Rattle.jvm_values.specs.declared.types.Ty.{Ty}
use Rattle.jvm_values.specs.declared.types.Slot.{Slot}
use Rattle.jvm_values.specs.declared.types.Slot.TheVariants as slots
use Rattle.jvm_values.specs.Kinds.{least_of, greatest_of}
use Rattle.jvm_values.specs.Slots.{is_reference_slot}
use Rattle.class_world.specs.World.{World, is_static}
use Rattle.class_world.specs.Types.{is_sub, erase}
use Rattle.class_world.specs.Resolve.{method_at}
use Rattle.class_program.specs.Programs.{Program}
use Rattle.input_text.specs.declared.fault.DescFault.{DescFault}
use Rattle.input_text.specs.declared.fault.DescFault.TheVariants.{ParamCount, StaticCount, ParamKind, EmptyInterval, UnknownType, BadPair}
use Rattle.input_text.specs.declared.texts.DescText.{DescText}
use Rattle.input_text.specs.declared.texts.InputText.{InputText}
use Rattle.input_text.specs.declared.texts.InputText.TheVariants as texts
use Rattle.abs_cells.specs.Limits.{most_ids}
use Rattle.input_desc.specs.declared.desc.Input.{Input}
use Rattle.input_desc.specs.declared.desc.Input.TheVariants.{Int, Ref}
use Rattle.input_desc.specs.declared.desc.Desc.{Desc}
use Rattle.input_desc.specs.Due.{IsFault, is_memory, fault_if}
use Rattle.input_desc.specs.Given.{params_of, statics_of, slots_of}
use Rattle.input_desc.specs.Pairs.{is_no_pair, IsPairBelow}
use Rattle.input_desc.specs.TypeNames.{type_named}
use Rattle.input_desc.specs.Typed.{first_unfit}

-- the entry method has a receiver, as its parameter 0
abbrev pub has_receiver : Program → Bool
has_receiver p = option_map_or (λ m. not (is_static m.flags)) (method_at p.world p.entry) false

-- ---- kinds

-- an input of a text is of the kind that a slot asks for: an int for a number, a reference for a reference
abbrev pub is_alike : Slot → InputText → Bool
is_alike (slots.Num kind) (texts.Int lo hi) = true
is_alike (slots.Num kind) (texts.Ref ty null shape) = false
is_alike (slots.Ref t) (texts.Int lo hi) = false
is_alike (slots.Ref t) (texts.Ref ty null shape) = true

-- the first input of a text may be null
abbrev pub begins_null : List InputText → Bool
begins_null [] = false
begins_null (texts.Int lo hi ∷ inputs) = false
begins_null (texts.Ref ty null shape ∷ inputs) = null

-- the number of the first input that isn't of the kind that its slot asks for; a receiver that may be null is one
abbrev pub first_of_other_kind : Bool → List Slot → List InputText → Option ℕ
first_of_other_kind receiver wanted inputs = if receiver && begins_null inputs then Some 0 else first_unfit is_alike 0 wanted inputs

-- ---- what is described

-- an input of ints: those of an interval that a slot can hold; None where there are none
abbrev pub ints_of : Slot → ℤ → ℤ → Option Input
ints_of (slots.Num kind) lo hi = option_map Int (interval_of (int_max (least_of kind) lo) (int_min (greatest_of kind) hi))
ints_of (slots.Ref t) lo hi = None

-- the erased type `s`, where it is below `t`
abbrev pub erased_below : World → Ty → Ty → Option Ty
erased_below world t s = if is_sub world (erase world s) t then Some (erase world s) else None

-- the type of a reference input: the one that a text names, erased, where it is below the slot's erased type; None where it isn't,
-- or where there is none
abbrev pub type_for : World → Slot → List ℕ → Option Ty
type_for world (slots.Num kind) text = None
type_for world (slots.Ref t) text = option_and_then (erased_below world (erase world t)) (type_named world text)

-- what a text describes of one input, by the slot that the program has for it; None where it describes nothing
abbrev pub input_of : World → Slot → InputText → Option Input
input_of world slot (texts.Int lo hi) = ints_of slot lo hi
input_of world slot (texts.Ref ty null shape) = option_map (λ t. Ref t null shape) (type_for world slot ty)

-- what a text describes of each input of a program, by their numbers
abbrev pub inputs_from : World → List Slot → List InputText → List (Option Input)
inputs_from world [] inputs = []
inputs_from world (slot ∷ more) [] = []
inputs_from world (slot ∷ more) (input ∷ inputs) = input_of world slot input ∷ inputs_from world more inputs

-- where an input is a number, an int is described of it
abbrev pub has_ints : Slot → Option Input → Bool
has_ints slot input = is_reference_slot slot || is_some input

-- where an input is a reference, a type of the world is described of it
abbrev pub has_a_type : Slot → Option Input → Bool
has_a_type slot input = not (is_reference_slot slot) || is_some input

-- ---- the whole

-- the first fault of what is described: an empty interval, then an unknown type, then a pair that is none
unfoldable pub found_fault : List Slot → List (Option Input) → List (ℕ × ℕ) → Option DescFault
found_fault wanted found pairs =
    option_or (option_map EmptyInterval (first_unfit has_ints 0 wanted found))
    (option_or (option_map UnknownType (first_unfit has_a_type 0 wanted found))
    (option_map BadPair (position_from (is_no_pair wanted) 0 pairs)))

-- the first fault of inputs and pairs whose counts are right: an input of another kind, then a fault of what is described
unfoldable pub later_fault : Program → List InputText → List (ℕ × ℕ) → Option DescFault
later_fault p texts' pairs =
    option_or (option_map ParamKind (first_of_other_kind (has_receiver p) (slots_of p) texts'))
    (found_fault (slots_of p) (inputs_from p.world (slots_of p) texts') pairs)

-- The first fault of a description against a program: the counts of parameters and static fields, then fault by fault, and of a
-- fault the first input or pair.
unfoldable pub desc_fault : Program → DescText → Option DescFault
desc_fault p text =
    option_or (fault_if (not (length text.params == length (params_of p))) ParamCount)
    (option_or (fault_if (not (length text.statics == length (statics_of p))) StaticCount)
    (later_fault p (text.params ++ text.statics) (text.same ++ text.share)))

-- a description has what a text describes of the inputs of a program, and the text's pairs
pub record IsDescribed (p : Program) (text : DescText) (desc : Desc) : Type 0 where
  pub inputs_are : map Some desc.inputs ≡ inputs_from p.world (slots_of p) (text.params ++ text.statics)
  pub same_is : desc.same ≡ text.same
  pub share_is : desc.share ≡ text.share

-- the answer to a text of a description: what it describes of the program where it has no fault, or its first fault
abbrev pub Describes : Program → DescText → Result Desc DescFault → Type 0
Describes p text (Ok desc) = (desc_fault p text ≡ None) × IsDescribed p text desc
Describes p text (Err fault) = IsFault is_memory fault (desc_fault p text)

-- A description is good: it has as many inputs as the program has, at most `most_ids`, since each is an id of abstract states;
-- and its pairs are of two different inputs.
pub record IsGoodDesc (p : Program) (desc : Desc) : Type 0 where
  pub count : length desc.inputs ≡ length (slots_of p)
  pub few : length desc.inputs ≤ most_ids
  pub pairs : All (IsPairBelow (length desc.inputs)) (desc.same ++ desc.share)

-- The description is this program's method's: a text that has no fault against the program describes it.
pub record IsOwnDesc (p : Program) (desc : Desc) : Type 0 where
  pub text : DescText
  pub faultless : desc_fault p text ≡ None
  pub described : IsDescribed p text desc
  pub good : IsGoodDesc p desc
