-- A state that fits a description has the types of the program's typing, and the initial abstract state describes it.
use Rattle.std.proofs.Common.{◌≡◌, ◌≢◌, ℕ, ◌+◌, ◌-◌, Bool, true, false, List, [], ◌∷◌, ◌++◌, length, map, replicate, Option, Some}
use Rattle.std.proofs.Common.{None, ◌⊎◌, inl, inr, sym, refl, ap, subst, ◌∙◌}
use Rattle.std.specs.Prelude.{All, IfSome, slice_get, ◌&&◌, ◌||◌}
use Rattle.std.specs.List.{AllZip}
use Rattle.std.specs.Option.{option_map_or, unwrap_or}
use Rattle.std.proofs.lemmas.Bool.{false≢true, and_from}
use Rattle.std.proofs.lemmas.List.{length-map}
use Rattle.std.proofs.lemmas.List.Elements.{All-nil, All-append, All-map, All-replicate, All-cons}
use Rattle.std.proofs.lemmas.Slice.Zip.{AllZip-long}
use Rattle.list_views.proofs.Options.{both_none}
use Rattle.list_views.proofs.Zipped.{zip_left, zip_joined}
use Rattle.jvm_values.specs.declared.types.Ty.{Ty}
use Rattle.jvm_values.specs.declared.types.Slot.{Slot}
use Rattle.jvm_values.specs.declared.types.Slot.TheVariants as slots
use Rattle.jvm_values.specs.declared.heap.Value.{Value}
use Rattle.jvm_values.specs.declared.heap.Value.TheVariants as values
use Rattle.jvm_values.specs.declared.heap.Object.{Object}
use Rattle.jvm_values.specs.declared.heap.Heap.{Heap}
use Rattle.jvm_values.specs.declared.shape.Shape.{Shape}
use Rattle.jvm_values.specs.declared.typing.PlaceType.{PlaceType}
use Rattle.jvm_values.specs.declared.typing.PlaceType.TheVariants as places
use Rattle.jvm_values.specs.declared.state.Mode.TheVariants.{Normal}
use Rattle.jvm_values.specs.States.{MachineState}
use Rattle.jvm_values.specs.Heaps.{target, HasShape, IsInHeap}
use Rattle.jvm_values.specs.TypedHeaps.{WorldTypes, type_of, Holds}
use Rattle.jvm_values.proofs.Typed.{value_in_heap}
use Rattle.input_desc.specs.ClassWorldWorld.{World}
use Rattle.input_desc.specs.ClassWorldWorldTypes.{types_of}
use Rattle.input_desc.specs.ClassWorldWorldLaws.{world_laws}
use Rattle.input_desc.specs.ClassWorldTypes.{is_sub}
use Rattle.input_desc.specs.ClassProgramMethod.{Method}
use Rattle.input_desc.specs.ClassProgramPrograms.{Program}
use Rattle.abs_cells.specs.declared.cells.Cell.{Cell}
use Rattle.abs_cells.specs.Cells.{is_known, shape_of, cell_in, are_compatible, HasCell, AreEqual}
use Rattle.abs_cells.specs.Fits.{Meaning, FitsFrame, FitsMode, Describes, with_statics}
use Rattle.code_verify.specs.FrameTypesTables.{CodeTypes}
use Rattle.code_verify.specs.FrameTypesPlaces.{IsWithin}
use Rattle.code_verify.specs.Operands.{place_of}
use Rattle.code_verify.specs.Typings.{IsTypingOf, entry_frame}
use Rattle.code_verify.specs.TypedStates.{HasPlaceType, HasStack, IsRunning, AreTypedFrames}
use Rattle.input_desc.specs.InputTextDescText.{DescText}
use Rattle.input_desc.specs.InputTextDescFault.TheVariants.{ParamCount, StaticCount}
use Rattle.input_desc.specs.declared.desc.Input.{Input}
use Rattle.input_desc.specs.declared.desc.Input.TheVariants.{Int, Ref}
use Rattle.input_desc.specs.declared.desc.Desc.{Desc}
use Rattle.input_desc.specs.Given.{params_of, statics_of, field_slot, argument_slot, slots_of}
use Rattle.input_desc.specs.Descs.{desc_fault, IsDescribed}
use Rattle.input_desc.specs.Fitting.{FitsInput, FitsDescription}
use Rattle.input_desc.specs.Initial.{cell_of, cells_from, are_alike, locals_of, initial_locals, initial_of}
use Rattle.input_desc.proofs.Faultless.{counted}
use Rattle.input_desc.proofs.GoodDescs.{texts_count}
use Rattle.input_desc.proofs.TypedInputs.{split}
use Rattle.input_root.specs.Roots.{input_values, FittingStatesAreTyped, FittingStatesAreDescribed}
use Rattle.input_desc.proofs.Zipped.{zip_replicate, zip_map}
use Rattle.input_desc.proofs.Wider.{Laws, has_wider}
use Rattle.input_root.proofs.Holding.{all_hold, input_erased}
use Rattle.input_root.proofs.Listed.{listed, listed_kept, listed_in_both}
use Rattle.input_root.proofs.Found.{cell_found}
use Rattle.input_root.proofs.Shown.{locals_shown}

-- ---- what is known of the inputs

-- the counts of a description without a fault
counts : (p : Program) (text : DescText) → desc_fault p text ≡ None → (length text.params ≡ length (params_of p))
    × (length text.statics ≡ length (statics_of p))
unfolding desc_fault
counts p text e =
    let a = both_none _ _ e in
    let b = both_none _ _ a.1 in (
      counted (length text.params) (length (params_of p)) ParamCount a.0,
      counted (length text.statics) (length (statics_of p))
          StaticCount b.0,
    )

params_are : (p : Program) (method : Method) → slice_get p.methods 0 ≡ Some method → params_of p ≡ method.params
params_are p method e = ap (λ o. option_map_or (λ m. m.params) o []) e

-- each argument has its parameter's type
args_hold : (p : Program) (text : DescText) (desc : Desc) (state : MachineState) → Laws p.world → desc_fault p text ≡ None
    → IsDescribed p text desc → (fits : FitsDescription p desc state)
    → AllZip (Holds (types_of p.world) state.heap) (map argument_slot (params_of p)) fits.args
args_hold p text desc state laws e is fits =
    let all = all_hold p.world state.heap (slots_of p) (text.params ++ text.statics) desc.inputs (fits.args ++ state.statics) laws
    (let c = counts p text e in texts_count p text c.0 c.1) is.inputs_are fits.inputs in
    let count : length fits.args ≡ length (map argument_slot (params_of p)) = fits.count
    ∙ ap length (sym (params_are p fits.method fits.entry)) ∙ sym (length-map (params_of p) argument_slot) in
    (split (Holds (types_of p.world) state.heap) (map argument_slot (params_of p)) (statics_of p) fits.args state.statics count all).0

-- ---- types of places

argument_place : (types : WorldTypes) (heap : Heap) (slot : Slot) (value : Value) → Holds types heap (argument_slot slot) value
    → HasPlaceType types heap (place_of types slot) (Some value)
argument_place types heap (slots.Num kind) (values.Int n) h = h
argument_place types heap (slots.Num kind) values.Null h = absurd h
argument_place types heap (slots.Num kind) (values.Ref r) h = absurd h
argument_place types heap (slots.Ref t) value h = h

argument_in_heap : (types : WorldTypes) (heap : Heap) (slot : Slot) (value : Value) → Holds types heap (argument_slot slot) value
    → IsInHeap (length heap.objects) value
argument_in_heap types heap (slots.Num kind) (values.Int n) h = λ a e. absurd cc
argument_in_heap types heap (slots.Num kind) values.Null h = absurd h
argument_in_heap types heap (slots.Num kind) (values.Ref r) h = absurd h
argument_in_heap types heap (slots.Ref t) value h = value_in_heap types heap value (types.erase t) h

argument_places : (types : WorldTypes) (heap : Heap) (params : List Slot) (args : List Value)
    → AllZip (Holds types heap) (map argument_slot params) args
    → AllZip (HasPlaceType types heap) (map (place_of types) params) (map Some args)
argument_places types heap [] [] h = tt
argument_places types heap [] (arg ∷ args) h = absurd h
argument_places types heap (slot ∷ params) [] h = absurd h
argument_places types heap (slot ∷ params) (arg ∷ args) h =
    (argument_place types heap slot arg h.0, argument_places types heap params args h.1)

arguments_in_heap : (types : WorldTypes) (heap : Heap) (params : List Slot) (args : List Value)
    → AllZip (Holds types heap) (map argument_slot params) args → All (IsInHeap (length heap.objects)) args
arguments_in_heap types heap params [] h = All-nil (IsInHeap (length heap.objects))
arguments_in_heap types heap [] (arg ∷ args) h = absurd h
arguments_in_heap types heap (slot ∷ params) (arg ∷ args) h = All-cons (IsInHeap (length heap.objects)) arg args
    (argument_in_heap types heap slot arg h.0) (arguments_in_heap types heap params args h.1)

-- what a place holds, a wider one holds too
wider : (world : World) (heap : Heap) (a b : PlaceType) (local : Option Value) → Laws world → IsWithin (types_of world) a b
    → HasPlaceType (types_of world) heap a local → HasPlaceType (types_of world) heap b local
wider world heap a places.Unset local laws w h = tt
wider world heap places.Int places.Int local laws w h = h
wider world heap places.Null places.Null local laws w h = h
wider world heap places.Null (places.Ref t) None laws w h = absurd h
wider world heap places.Null (places.Ref t) (Some (values.Int n)) laws w h = absurd h
wider world heap places.Null (places.Ref t) (Some values.Null) laws w h = tt
wider world heap places.Null (places.Ref t) (Some (values.Ref r)) laws w h = absurd h
wider world heap (places.Ref s) (places.Ref t) None laws w h = absurd h
wider world heap (places.Ref s) (places.Ref t) (Some value) laws w h = has_wider world heap value s t laws h w
wider world heap places.Unset places.Int local laws w h = absurd w
wider world heap places.Unset places.Null local laws w h = absurd w
wider world heap places.Unset (places.Ref t) local laws w h = absurd w
wider world heap places.Int places.Null local laws w h = absurd w
wider world heap places.Int (places.Ref t) local laws w h = absurd w
wider world heap places.Null places.Int local laws w h = absurd w
wider world heap (places.Ref s) places.Int local laws w h = absurd w
wider world heap (places.Ref s) places.Null local laws w h = absurd w

all_wider : (world : World) (heap : Heap) (narrow wide : List PlaceType) (locals : List (Option Value)) → Laws world
    → AllZip (IsWithin (types_of world)) narrow wide → AllZip (HasPlaceType (types_of world) heap) narrow locals
    → AllZip (HasPlaceType (types_of world) heap) wide locals
all_wider world heap [] [] [] laws w h = tt
all_wider world heap [] [] (local ∷ locals) laws w h = absurd h
all_wider world heap [] (b ∷ wide) locals laws w h = absurd w
all_wider world heap (a ∷ narrow) [] locals laws w h = absurd w
all_wider world heap (a ∷ narrow) (b ∷ wide) [] laws w h = absurd h
all_wider world heap (a ∷ narrow) (b ∷ wide) (local ∷ locals) laws w h =
    (wider world heap a b local laws w.0 h.0, all_wider world heap narrow wide locals laws w.1 h.1)

-- ---- a typed state

empty_stack : (types : WorldTypes) (heap : Heap) (there : List PlaceType) → AllZip (IsWithin types) [] there → HasStack types heap there []
empty_stack types heap [] h = tt
empty_stack types heap (place ∷ there) h = absurd h

running : (p : Program) (text : DescText) (desc : Desc) (typing : ℕ → CodeTypes) (state : MachineState) → Laws p.world
    → IsTypingOf p typing → desc_fault p text ≡ None → IsDescribed p text desc → (fits : FitsDescription p desc state)
    → IsRunning p typing state.heap fits.frame
running p text desc typing state laws types_are e is fits =
    let types = types_of p.world in
    let heap = state.heap in
    let method = fits.method in
    let frame = fits.frame in
    let args = fits.args in
    let start = fits.start in
    let held = args_hold p text desc state laws e is fits in
    let taken = (types_are.each 0 method fits.entry).is_typing.entry in
    let params = params_are p method fits.entry in
    let held_here : AllZip (Holds types heap) (map argument_slot method.params) args = subst
    (λ ps. AllZip (Holds types heap) (map argument_slot ps) args) params held in
    let front = argument_places types heap method.params args held_here in
    let behind : AllZip (HasPlaceType types heap) (replicate (method.max_locals - length method.params) places.Unset)
    (replicate (method.max_locals - length method.params) None) = zip_replicate (HasPlaceType types heap)
    (method.max_locals - length method.params) places.Unset None tt in
    let moved : AllZip (HasPlaceType types heap) (replicate (method.max_locals - length method.params) places.Unset)
    (replicate (method.max_locals - length args) None) = subst
    (λ n. AllZip (HasPlaceType types heap) (replicate (method.max_locals - length method.params) places.Unset)
    (replicate (method.max_locals - n) None)) (sym fits.count) behind in
    let narrow = zip_joined (HasPlaceType types heap) (map (place_of types) method.params)
    (replicate (method.max_locals - length method.params) places.Unset) (map Some args)
    (replicate (method.max_locals - length args) None) front moved in
    let wide = all_wider p.world heap (entry_frame types method).locals taken.there.locals
    (map Some args ++ replicate (method.max_locals - length args) None) laws taken.wide.locals narrow in
    let within : All (λ local. IfSome local (IsInHeap (length heap.objects)))
    (map Some args ++ replicate (method.max_locals - length args) None) =
    All-append (λ local. IfSome local (IsInHeap (length heap.objects))) (map Some args) (replicate (method.max_locals - length args) None)
    (All-map (λ local. IfSome local (IsInHeap (length heap.objects))) Some args
    (arguments_in_heap types heap method.params args held_here))
    (All-replicate (λ local. IfSome local (IsInHeap (length heap.objects))) (method.max_locals - length args) None tt) in
    let entered : typing frame.method frame.pc ≡ Some taken.there = ap (λ n. typing n frame.pc) start.number
    ∙ ap (typing 0) start.place ∙ taken.is_there in
    record {
      there = taken.there;
      typed = record {
        method = method;
        is_method = ap (slice_get p.methods) start.number ∙ fits.entry;
        count = start.room;
        is_there = entered;
        locals = subst (λ ls. AllZip (HasPlaceType types heap) taken.there.locals ls) (sym start.locals) wide;
        local_references = subst (λ ls. All (λ local. IfSome local (IsInHeap (length heap.objects))) ls) (sym start.locals) within;
        stack_references = subst (λ vs. All (IsInHeap (length heap.objects)) vs) (sym start.stack)
            (All-nil (IsInHeap (length heap.objects)));
      };
      stack = subst (λ vs. HasStack types heap taken.there.stack vs) (sym start.stack)
          (empty_stack types heap taken.there.stack taken.wide.stack);
    }

pub typed : FittingStatesAreTyped
typed p desc typing state closed types_are own fits =
    let laws = world_laws p.world closed.known.linked in
    let run = running p own.text desc typing state laws types_are own.faultless own.described fits in
    let frames : AreTypedFrames p typing state.heap Normal (fits.frame ∷ []) = (run, tt) in
    record {
      heap = fits.typed;
      statics = zip_map field_slot (Holds (types_of p.world) state.heap) p.statics state.statics fits.statics;
      frames = subst (λ m. AreTypedFrames p typing state.heap m state.frames) (sym fits.normal)
          (subst (λ fs. AreTypedFrames p typing state.heap Normal fs) (sym fits.one) frames);
    }

-- ---- a described state

value_is : (given : List Value) (k : ℕ) (v : Value) → slice_get given k ≡ Some v → input_values given k ≡ v
value_is given k v e = ap (λ o. unwrap_or o values.Null) e

-- what is known of an id that has a cell: its input, and its value
record IsMeant (types : WorldTypes) (heap : Heap) (inputs : List Input) (given : List Value) (id : ℕ) (cell : Cell) : Type 0 where
  input : Input
  there : slice_get inputs id ≡ Some input
  cell_is : cell ≡ cell_of input
  stands : slice_get given id ≡ Some (input_values given id)
  fits : FitsInput types heap input (input_values given id)

meant : (types : WorldTypes) (heap : Heap) (inputs : List Input) (given : List Value) (id : ℕ) (cell : Cell)
    → AllZip (FitsInput types heap) inputs given → cell_in (cells_from 0 inputs) id ≡ Some cell → IsMeant types heap inputs given id cell
meant types heap inputs given id cell all e =
    let found = cell_found inputs id cell e in
    let beside = zip_left (FitsInput types heap) inputs given id found.input all found.there in
    let same = value_is given id beside.0 beside.1.0 in
    record {
      input = found.input;
      there = found.there;
      cell_is = found.cell_is;
      stands = beside.1.0 ∙ ap Some (sym same);
      fits = subst (λ v. FitsInput types heap found.input v) (sym same) beside.1.1;
    }

describes : (types : WorldTypes) (heap : Heap) (meaning : Meaning) (input : Input) (value : Value)
    → FitsInput types heap input value → Describes types heap meaning (cell_of input) value
describes types heap meaning (Int interval) value h = h
describes types heap meaning (Ref ty null shape) (values.Int n) h = absurd h.1.0
describes types heap meaning (Ref ty null shape) values.Null h = inl (h.0 refl, refl)
describes types heap meaning (Ref ty null shape) (values.Ref r) h = inr
    (record { place = r; object = h.1.0.0; names = refl; stands = h.1.0.1.0; holds = h.1.0.1.1 })

shaped : (types : WorldTypes) (heap : Heap) (input : Input) (value : Value) (shape : Shape) → FitsInput types heap input value
    → shape_of (cell_of input) ≡ Some shape → HasShape shape heap value
shaped types heap (Int interval) value shape h e = absurd cc
shaped types heap (Ref ty null own) value shape h e = let same : own ≡ shape = cc in subst (λ s. HasShape s heap value) same h.1.1

-- an input that is never of a known class
pub not_known : (input : Input) → is_known (cell_of input) ≡ false
not_known (Int interval) = refl
not_known (Ref ty null shape) = refl

-- two inputs that stand for one object may do so by their types
alike : (world : World) (inputs : List Input) (i j : ℕ) (s t : Ty) (m n : Bool) (g h : Shape)
    → slice_get inputs i ≡ Some (Ref s m g) → slice_get inputs j ≡ Some (Ref t n h) → (is_sub world s t || is_sub world t s) ≡ true
    → are_alike world inputs (i, j) ≡ true
alike world inputs i j s t m n g h e f k =
    ap (λ o. option_map_or (λ a. option_map_or (λ b. are_compatible (is_sub world) (cell_of a) (cell_of b)) (slice_get inputs j)
    false) o false) e
    ∙ ap (λ o. option_map_or (λ b. are_compatible (is_sub world) (cell_of (Ref s m g)) (cell_of b)) o false) f
    ∙ and_from (is_sub world s t || is_sub world t s) (true && true) k refl

either_way : (s t : Bool) → (s ≡ true) ⊎ (t ≡ true) → ((s || t) ≡ true) × ((t || s) ≡ true)
either_way true true h = (refl, refl)
either_way true false h = (refl, refl)
either_way false true h = (refl, refl)
either_way false false (inl e) = absurd (false≢true e)
either_way false false (inr e) = absurd (false≢true e)

-- what is known of an input that stands for an object
record StandsFor (types : WorldTypes) (heap : Heap) (input : Input) (o : ℕ) : Type 0 where
  own : Ty
  null : Bool
  shape : Shape
  is : input ≡ Ref own null shape
  object : Object
  there : slice_get heap.objects o ≡ Some object
  below : types.sub (type_of object) own ≡ true

stands_for : (types : WorldTypes) (heap : Heap) (input : Input) (value : Value) (o : ℕ) → FitsInput types heap input value
    → target value ≡ Some o → StandsFor types heap input o
stands_for types heap (Int interval) value o h e = absurd (no_target value h.1.0 e)
  where
    no_target : (value : Value) → value ≡ values.Int h.0 → target value ≡ Some o → ⊥
    no_target value f e = let none : None ≡ Some o = sym (ap target f) ∙ e in cc
stands_for types heap (Ref ty null shape) (values.Int n) o h e = absurd h.1.0
stands_for types heap (Ref ty null shape) values.Null o h e = absurd (let none : target values.Null ≡ Some o = e in cc)
stands_for types heap (Ref ty null shape) (values.Ref r) o h e =
    let same : r ≡ o = let k : Some r ≡ Some o = e in cc in
    record {
      own = ty;
      null = null;
      shape = shape;
      is = refl;
      object = h.1.0.0;
      there = ap (slice_get heap.objects) (sym same)
          ∙ h.1.0.1.0;
      below = h.1.0.1.1;
    }

aliased : (p : Program) (text : DescText) (desc : Desc) (state : MachineState) → Laws p.world → IsDescribed p text desc
    → (fits : FitsDescription p desc state) → (a b o : ℕ) → HasCell (λ _. true) (initial_of p desc) a
    → HasCell (λ _. true) (initial_of p desc) b → a ≢ b → target (input_values (fits.args ++ state.statics) a) ≡ Some o
    → target (input_values (fits.args ++ state.statics) b) ≡ Some o → AreEqual (initial_of p desc) a b
unfolding initial_of
aliased p text desc state laws is fits a b o has_a has_b apart at_a at_b =
    let types = types_of p.world in
    let given = fits.args ++ state.statics in
    let first = meant types state.heap desc.inputs given a has_a.cell fits.inputs has_a.is in
    let second = meant types state.heap desc.inputs given b has_b.cell fits.inputs has_b.is in
    let pair = fits.same a b o (input_values given a) (input_values given b) apart first.stands second.stands at_a at_b in
    let one = stands_for types state.heap first.input (input_values given a) o first.fits at_a in
    let other = stands_for types state.heap second.input (input_values given b) o second.fits at_b in
    let at_one : slice_get desc.inputs a ≡ Some (Ref one.own one.null one.shape) = first.there ∙ ap Some one.is in
    let at_other : slice_get desc.inputs b ≡ Some (Ref other.own other.null other.shape) = second.there ∙ ap Some other.is in
    let same_object : one.object ≡ other.object = let k : Some one.object ≡ Some other.object = sym one.there ∙ other.there in cc in
    let below_other : is_sub p.world (type_of one.object) other.own ≡ true = ap (λ x. is_sub p.world (type_of x) other.own)
    same_object ∙ other.below in
    let chained = laws.chain (type_of one.object) one.own other.own one.below below_other
    (input_erased p.world (slots_of p) (text.params ++ text.statics) desc.inputs a one.own one.null one.shape is.inputs_are at_one)
    (input_erased p.world (slots_of p) (text.params ++ text.statics) desc.inputs b other.own other.null other.shape is.inputs_are
    at_other) in
    let ways = either_way (is_sub p.world one.own other.own) (is_sub p.world other.own one.own) chained in
    listed a b [] _ (listed_kept (are_alike p.world desc.inputs) a b desc.same
    (alike p.world desc.inputs a b one.own other.own one.null other.null one.shape other.shape at_one at_other ways.0)
    (alike p.world desc.inputs b a other.own one.own other.null one.null other.shape one.shape at_other at_one ways.1) pair)

shown : (p : Program) (desc : Desc) (state : MachineState) (fits : FitsDescription p desc state)
    → AllZip (FitsFrame (input_values (fits.args ++ state.statics))) (initial_of p desc).frames (with_statics state.statics state.frames)
unfolding initial_of
shown p desc state fits =
    let method = fits.method in
    let args = fits.args in
    let start = fits.start in
    let meaning = input_values (args ++ state.statics) in
    let args_count : length (params_of p) ≡ length args = ap length (params_are p method fits.entry) ∙ sym fits.count in
    let statics_count : length (statics_of p) ≡ length state.statics = sym
    (AllZip-long (Holds (types_of p.world) state.heap) (statics_of p) state.statics fits.statics) in
    let locals_count : locals_of p ≡ method.max_locals = ap (λ o. option_map_or (λ m. m.max_locals) o 0) fits.entry in
    let ids : initial_locals (locals_of p) (length (params_of p)) (length (statics_of p)) ≡ initial_locals method.max_locals
    (length args) (length state.statics) =
    ap (λ n. initial_locals n (length (params_of p)) (length (statics_of p))) locals_count
    ∙ ap (λ n. initial_locals method.max_locals n (length (statics_of p))) args_count
    ∙ ap (λ n. initial_locals method.max_locals (length args) n) statics_count in
    let at = locals_shown meaning method.max_locals args state.statics (value_is (args ++ state.statics)) in
    let locals : (n id : ℕ) → slice_get (initial_locals (locals_of p) (length (params_of p)) (length (statics_of p))) n ≡ Some
    (Some id) → slice_get (fits.frame.locals ++ map Some state.statics) n ≡ Some (Some (meaning id)) = λ n id e.
    ap (λ ls. slice_get (ls ++ map Some state.statics) n) start.locals ∙ at n id (sym (ap (λ ls. slice_get ls n) ids) ∙ e) in
    subst (λ fs. AllZip (FitsFrame meaning) (initial_of p desc).frames (with_statics state.statics fs)) (sym fits.one)
    (record { method = start.number; pc = start.place; locals = locals; stack = start.stack }, tt)

pub described : FittingStatesAreDescribed
unfolding initial_of
described p desc state closed own fits =
    let types = types_of p.world in
    let given = fits.args ++ state.statics in
    let laws = world_laws p.world closed.known.linked in
    record {
      positions = shown p desc state fits;
      mode = subst (λ m. FitsMode (input_values given) None m) (sym fits.normal) tt;
      cells = λ id cell f.
          let known = meant types state.heap desc.inputs given id cell fits.inputs f in
          subst (λ c. Describes types state.heap (input_values given) c (input_values given id)) (sym known.cell_is)
          (describes types state.heap (input_values given) known.input (input_values given id) known.fits);
      aliases = aliased p own.text desc state laws own.described fits;
      meeting = λ a b o has_a has_b apart at_a at_b.
          let first = meant types state.heap desc.inputs given a has_a.cell fits.inputs has_a.is in
          let second = meant types state.heap desc.inputs given b has_b.cell fits.inputs has_b.is in
          listed_in_both a b desc.same desc.share []
          (fits.share a b o (input_values given a) (input_values given b) apart first.stands second.stands at_a at_b);
      inside = λ k b o has_k has_b at_k at_b.
          let known = meant types state.heap desc.inputs given k has_k.cell fits.inputs has_k.is in
          absurd (false≢true (sym (ap is_known known.cell_is ∙ not_known known.input) ∙ has_k.sort_is));
      shapes = λ id cell shape f g.
          let known = meant types state.heap desc.inputs given id cell fits.inputs f in
          shaped types state.heap known.input (input_values given id) shape known.fits (sym (ap shape_of known.cell_is) ∙ g);
    }
