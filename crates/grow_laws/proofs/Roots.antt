-- The state that a description begins with: its frame stands as the typing says at the entry method's start, and each
-- input stands in a local.
use Rattle.std.proofs.Common.{◌≡◌, ◌∙◌, ◌+◌, ◌-◌, ◌<◌, ℕ, zero, suc, true, false, List, [], ◌∷◌, ◌++◌}
use Rattle.std.proofs.Common.{length, take, drop, map, filter, Option, Some, None, slice_get, inl, inr, refl, sym, ap, subst}
use Rattle.std.proofs.Common.{arith, append_assoc, length-append, not}
use Rattle.std.specs.Prelude.{replicate}
use Rattle.std.specs.Int.{int_max, int_min}
use Rattle.std.specs.List.{AllZip}
use Rattle.std.specs.Option.{option_map, option_map_or}
use Rattle.std.proofs.lemmas.Bool.{cases_lt}
use Rattle.std.proofs.lemmas.List.{length-map}
use Rattle.std.proofs.lemmas.Option.{none-some}
use Rattle.std.proofs.lemmas.Slice.Zip.{AllZip-long}
use Rattle.lin_core.specs.Intervals.{interval_of}
use Rattle.lin_core.specs.declared.intervals.Interval.{Interval}
use Rattle.list_views.proofs.Items.{get_before, get_behind}
use Rattle.list_views.proofs.Zipped.{zip_joined}
use Rattle.jvm_values.specs.declared.types.Slot.{Slot}
use Rattle.jvm_values.specs.declared.types.Slot.TheVariants as slots
use Rattle.jvm_values.specs.declared.types.Ty.{Ty}
use Rattle.jvm_values.specs.declared.typing.PlaceType.TheVariants as places
use Rattle.jvm_values.specs.Kinds.{least_of, greatest_of}
use Rattle.jvm_values.specs.TypedHeaps.{WorldTypes}
use Rattle.jvm_values.proofs.Options.{some_is}
use Rattle.abs_cells.specs.AbstractStates.{AbstractState}
use Rattle.abs_cells.specs.Cells.{is_int, cell_in, cell_at, HasCell}
use Rattle.abs_cells.specs.Sound.{given_ids, IsSound}
use Rattle.abs_heap.proofs.Placing.{cell_here, cell_later}
use Rattle.abs_reach.specs.Reached.{IsReached}
use Rattle.class_world.specs.World.{World}
use Rattle.class_world.specs.WorldTypes.{types_of}
use Rattle.class_program.specs.declared.program.Method.{Method}
use Rattle.class_program.specs.Programs.{Program, IsClosed}
use Rattle.class_program.proofs.GoodPrograms.{good_program}
use Rattle.frame_types.specs.Tables.{CodeTypes}
use Rattle.code_verify.specs.Operands.{place_of}
use Rattle.code_verify.specs.Typings.{IsTyping, IsTypingOf, entry_frame}
use Rattle.input_text.specs.declared.texts.InputText.{InputText}
use Rattle.input_text.specs.declared.texts.InputText.TheVariants as texts
use Rattle.input_desc.specs.declared.desc.Desc.{Desc}
use Rattle.input_desc.specs.declared.desc.Input.{Input}
use Rattle.input_desc.specs.declared.desc.Input.TheVariants.{Int, Ref}
use Rattle.input_desc.specs.Descs.{type_for, input_of, inputs_from, IsOwnDesc}
use Rattle.input_desc.specs.Given.{params_of, statics_of, argument_slot, slots_of}
use Rattle.input_desc.specs.Initial.{cell_of, cells_from, with_pairs, are_alike, locals_of, given_from, initial_locals, initial_of}
use Rattle.input_desc.proofs.Zipped.{zip_replicate}
use Rattle.input_root.proofs.Found.{cell_found}
use Rattle.place_sorts.specs.AbsExpandBadStates.{IsOfPlace, IsOfField, IsRunningPlaced}
use Rattle.place_sorts.specs.Growing.{IsGrowing}
use Rattle.place_sorts.proofs.Landing.{locals_wide, running_lands}
use Rattle.place_sorts.proofs.Waiting.{at_calls}

-- ---- lists

got_within : {X : Type 0} (xs : List X) (n : ℕ) (x : X) → slice_get xs n ≡ Some x → n < length xs
got_within [] n x e = absurd (none-some x e)
got_within (y ∷ xs) zero x e = omega arith
got_within (y ∷ xs) (suc n) x e = let l = got_within xs n x e in omega (arith, l)

split_at : {A B : Type 0} (R : A → B → Type 0) (xs ys : List A) (zs : List B) → AllZip R (xs ++ ys) zs
    → AllZip R xs (take (length xs) zs) × AllZip R ys (drop (length xs) zs)
split_at R [] ys zs h = (tt, h)
split_at R (x ∷ xs) ys [] h = absurd h
split_at R (x ∷ xs) ys (z ∷ zs) h = let rest = split_at R xs ys zs h.1 in ((h.0, rest.0), rest.1)

front_get : {A : Type 0} (count : ℕ) (xs : List A) (n : ℕ) (x : A) → slice_get (take count xs) n ≡ Some x → slice_get xs n ≡ Some x
front_get zero xs n x e = absurd (none-some x e)
front_get (suc count) [] n x e = absurd (none-some x e)
front_get (suc count) (y ∷ xs) zero x e = e
front_get (suc count) (y ∷ xs) (suc n) x e = front_get count xs n x e

back_get : {A : Type 0} (n : ℕ) (xs : List A) (k j : ℕ) → j ≡ n + k → slice_get (drop n xs) k ≡ slice_get xs j
back_get zero xs k j e = ap (slice_get xs) (omega (arith, e))
back_get (suc n) [] k j e = refl
back_get (suc n) (x ∷ xs) k zero e = absurd (omega (arith, e))
back_get (suc n) (x ∷ xs) k (suc j) e = back_get n xs k j (omega (arith, e))

take_front : {A : Type 0} (xs ys : List A) (n : ℕ) → length xs ≡ n → take n (xs ++ ys) ≡ xs
take_front [] ys zero e = refl
take_front [] ys (suc n) e = absurd (omega (arith, e))
take_front (x ∷ xs) ys zero e = absurd (omega (arith, e))
take_front (x ∷ xs) ys (suc n) e = ap (λ zs. x ∷ zs) (take_front xs ys n (omega (arith, e)))

drop_front : {A : Type 0} (xs ys : List A) (n : ℕ) → length xs ≡ n → drop n (xs ++ ys) ≡ ys
drop_front [] ys zero e = refl
drop_front [] ys (suc n) e = absurd (omega (arith, e))
drop_front (x ∷ xs) ys zero e = absurd (omega (arith, e))
drop_front (x ∷ xs) ys (suc n) e = drop_front xs ys n (omega (arith, e))

given_at : (from count k j : ℕ) → k < count → j ≡ from + k → slice_get (given_from from count) k ≡ Some (Some j)
given_at from zero k j l e = absurd (omega (arith, l))
given_at from (suc count) zero j l e = let same : from ≡ j = omega (arith, e) in ap (λ (n : ℕ). Some (Some n)) same
given_at from (suc count) (suc k) j l e = given_at (from + 1) count k j (omega (arith, l)) (omega (arith, e))

place_in : (locals : List (Option ℕ)) (n id : ℕ) → slice_get locals n ≡ Some (Some id) → (m : ℕ)
    × (slice_get (given_ids locals) m ≡ Some id)
place_in [] n id e = absurd (none-some (Some id) e)
place_in (None ∷ locals) zero id e = absurd (none-some id (some_is e))
place_in (Some x ∷ locals) zero id e = (0, some_is e)
place_in (None ∷ locals) (suc n) id e = place_in locals n id e
place_in (Some x ∷ locals) (suc n) id e = let rest = place_in locals n id e in (suc rest.0, rest.1)

-- ---- inputs

-- an input is an int exactly for a number
abbrev IsSlotInput : Slot → Input → Type 0
IsSlotInput (slots.Num kind) input = is_int (cell_of input) ≡ true
IsSlotInput (slots.Ref t) input = is_int (cell_of input) ≡ false

one_sorted : (world : World) (slot : Slot) (text : InputText) (input : Input) → Some input ≡ input_of world slot text
    → IsSlotInput slot input
one_sorted world (slots.Num kind) (texts.Int lo hi) input e = by
    (interval_of (int_max (least_of kind) lo) (int_min (greatest_of kind) hi)) e
  where
    by : (found : Option Interval) → Some input ≡ option_map Int found → is_int (cell_of input) ≡ true
    by None f = absurd (none-some input (sym f))
    by (Some interval) f = ap (λ (i : Input). is_int (cell_of i)) (some_is f)
one_sorted world (slots.Num kind) (texts.Ref ty null shape) input e = absurd (none-some input (sym e))
one_sorted world (slots.Ref t) (texts.Int lo hi) input e = absurd (none-some input (sym e))
one_sorted world (slots.Ref t) (texts.Ref ty null shape) input e = by (type_for world (slots.Ref t) ty) e
  where
    by : (found : Option Ty) → Some input ≡ option_map (λ s. Ref s null shape) found → is_int (cell_of input) ≡ false
    by None f = absurd (none-some input (sym f))
    by (Some s) f = ap (λ (i : Input). is_int (cell_of i)) (some_is f)

all_sorted : (world : World) (wanted : List Slot) (given : List InputText) (inputs : List Input)
    → map Some inputs ≡ inputs_from world wanted given → length inputs ≡ length wanted → AllZip IsSlotInput wanted inputs
all_sorted world [] given [] e l = tt
all_sorted world [] given (input ∷ inputs) e l = absurd (omega (arith, l))
all_sorted world (slot ∷ wanted) given [] e l = absurd (omega (arith, l))
all_sorted world (slot ∷ wanted) [] (input ∷ inputs) e l = absurd (cc)
all_sorted world (slot ∷ wanted) (text ∷ given) (input ∷ inputs) e l =
    let first : Some input ≡ input_of world slot text = cc in
    let rest : map Some inputs ≡ inputs_from world wanted given = cc in
    (one_sorted world slot text input first, all_sorted world wanted given inputs rest (omega (arith, l)))

cell_there : (n : ℕ) (inputs : List Input) (k j : ℕ) (input : Input) → j ≡ n + k → slice_get inputs k ≡ Some input
    → cell_in (cells_from n inputs) j ≡ Some (cell_of input)
cell_there n [] k j input e f = absurd (none-some input f)
cell_there n (x ∷ inputs) zero j input e f = cell_here (n, cell_of x) (cells_from (n + 1) inputs) j (omega (arith, e))
    ∙ ap (λ (i : Input). Some (cell_of i)) (some_is f)
cell_there n (x ∷ inputs) (suc k) j input e f =
    cell_later (n, cell_of x) (cells_from (n + 1) inputs) j (λ q. omega (arith, e, q))
    ∙ cell_there (n + 1) inputs k j input (omega (arith, e)) f

-- ids with cells of their inputs
module _ (state : AbstractState) where
  slot_given : (slot : Slot) (id : ℕ) (input : Input) → IsSlotInput slot input → cell_at state id ≡ Some (cell_of input)
      → IsOfField state slot (Some id)
  slot_given (slots.Num kind) id input s e = record { cell = cell_of input; is = e; sort_is = s }
  slot_given (slots.Ref t) id input s e = record { cell = cell_of input; is = e; sort_is = ap not s }

  slots_given : (wanted : List Slot) (inputs : List Input) (from : ℕ) → AllZip IsSlotInput wanted inputs
      → ((k : ℕ) (input : Input) → slice_get inputs k ≡ Some input → cell_at state (from + k) ≡ Some (cell_of input))
      → AllZip (IsOfField state) wanted (given_from from (length inputs))
  slots_given [] [] from a h = tt
  slots_given [] (input ∷ inputs) from a h = absurd a
  slots_given (slot ∷ wanted) [] from a h = absurd a
  slots_given (slot ∷ wanted) (input ∷ inputs) from a h = (
    slot_given slot from input a.0 (let same : from ≡ from + 0 = omega arith in ap (cell_at state) same ∙ h 0 input refl),
    slots_given wanted inputs (from + 1) a.1
        (λ k other e. let same : (from + 1) + k ≡ from + suc k = omega arith in ap (cell_at state) same ∙ h (suc k) other e),
  )

  param_places : (types : WorldTypes) (params : List Slot) (locals : List (Option ℕ))
      → AllZip (IsOfField state) (map argument_slot params) locals → AllZip (IsOfPlace state) (map (place_of types) params) locals
  param_places types [] [] h = tt
  param_places types [] (local ∷ locals) h = absurd h
  param_places types (slot ∷ params) [] h = absurd h
  param_places types (slots.Num kind ∷ params) (None ∷ locals) h = absurd h.0
  param_places types (slots.Num kind ∷ params) (Some id ∷ locals) h = (h.0, param_places types params locals h.1)
  param_places types (slots.Ref t ∷ params) (None ∷ locals) h = absurd h.0
  param_places types (slots.Ref t ∷ params) (Some id ∷ locals) h = (h.0, param_places types params locals h.1)

-- ---- the root

module _ (p : Program) (typing : ℕ → CodeTypes) (desc : Desc) (typed : IsTypingOf p typing) (own : IsOwnDesc p desc) (m : Method)
    (is_m : slice_get p.methods 0 ≡ Some m) where
  abbrev Types : WorldTypes
  Types = types_of p.world

  abbrev Params : ℕ
  Params = length (params_of p)

  abbrev Statics : ℕ
  Statics = length (statics_of p)

  abbrev Locals : List (Option ℕ)
  Locals = initial_locals (locals_of p) Params Statics

  abbrev Root : AbstractState
  Root = record {
    frames = record { method = 0; pc = 0; locals = Locals; stack = [] } ∷ [];
    throwing = None;
    cells = cells_from 0 desc.inputs;
    eq = with_pairs [] (filter (are_alike p.world desc.inputs) desc.same);
    share = with_pairs (with_pairs [] desc.same) desc.share;
  }

  params_are : params_of p ≡ m.params
  params_are = ap (λ (o : Option Method). option_map_or (λ (x : Method). x.params) o []) is_m

  places_are : locals_of p ≡ m.max_locals
  places_are = ap (λ (o : Option Method). option_map_or (λ (x : Method). x.max_locals) o 0) is_m

  input_count : length desc.inputs ≡ Params + Statics
  input_count = own.good.count ∙ length-append (map argument_slot (params_of p)) (statics_of p)
      ∙ ap (λ (n : ℕ). n + Statics) (length-map (params_of p) argument_slot)

  sorted : AllZip IsSlotInput (map argument_slot (params_of p) ++ statics_of p) desc.inputs
  sorted = all_sorted p.world (slots_of p) _ desc.inputs own.described.inputs_are own.good.count

  parted : AllZip IsSlotInput (map argument_slot (params_of p)) (take (length (map argument_slot (params_of p))) desc.inputs)
      × AllZip IsSlotInput (statics_of p) (drop (length (map argument_slot (params_of p))) desc.inputs)
  parted = split_at IsSlotInput (map argument_slot (params_of p)) (statics_of p) desc.inputs sorted

  abbrev Long : ℕ
  Long = length (map argument_slot (params_of p))

  long : Long ≡ Params
  long = length-map (params_of p) argument_slot

  front : AllZip (IsOfField Root) (map argument_slot (params_of p)) (given_from 0 Params)
  front =
      let count : length (take Long desc.inputs) ≡ Params = AllZip-long IsSlotInput (map argument_slot (params_of p))
      (take Long desc.inputs) parted.0 ∙ long in
      subst (λ (n : ℕ). AllZip (IsOfField Root) (map argument_slot (params_of p)) (given_from 0 n)) count
      (slots_given Root (map argument_slot (params_of p)) (take Long desc.inputs) 0 parted.0
      (λ k input e. cell_there 0 desc.inputs k (0 + k) input refl (front_get Long desc.inputs k input e)))

  behind : AllZip (IsOfField Root) (statics_of p) (given_from Params Statics)
  behind =
      let count : length (drop Long desc.inputs) ≡ Statics = AllZip-long IsSlotInput (statics_of p) (drop Long desc.inputs) parted.1 in
      subst (λ (n : ℕ). AllZip (IsOfField Root) (statics_of p) (given_from Params n)) count
      (slots_given Root (statics_of p) (drop Long desc.inputs) Params parted.1 (λ k input e.
      let same : Params + k ≡ 0 + (Params + k) = omega arith in
      let at : Params + k ≡ Long + k = ap (λ (n : ℕ). n + k) (sym long) in
      cell_there 0 desc.inputs (Params + k) (Params + k) input same (sym (back_get Long desc.inputs k (Params + k) at) ∙ e)))

  abbrev Prefix : List (Option ℕ)
  Prefix = given_from 0 (length m.params) ++ replicate (m.max_locals - length m.params) None

  is_typing : IsTyping p m (typing 0)
  is_typing = (typed.each 0 m is_m).is_typing

  narrow : AllZip (IsOfPlace Root) (entry_frame Types m).locals Prefix
  narrow =
      let given : AllZip (IsOfField Root) (map argument_slot m.params) (given_from 0 (length m.params)) =
      subst (λ (ps : List Slot). AllZip (IsOfField Root) (map argument_slot ps) (given_from 0 (length ps))) params_are front in
      zip_joined (IsOfPlace Root) (map (place_of Types) m.params) (replicate (m.max_locals - length m.params) places.Unset)
      (given_from 0 (length m.params)) (replicate (m.max_locals - length m.params) None)
      (param_places Root Types m.params (given_from 0 (length m.params)) given)
      (zip_replicate (IsOfPlace Root) (m.max_locals - length m.params) places.Unset None tt)

  count : length Prefix ≡ m.max_locals
  count =
      let takes = is_typing.entry in
      AllZip-long (IsOfPlace Root) takes.there.locals Prefix
      (locals_wide Types Root (entry_frame Types m).locals takes.there.locals Prefix takes.wide.locals narrow)
      ∙ (is_typing.each 0 takes.there takes.is_there).limits.proper.count

  locals_are : Locals ≡ Prefix ++ given_from Params Statics
  locals_are =
      ap (λ (n : ℕ). initial_locals n Params Statics) places_are
      ∙ ap (λ (ps : List Slot). given_from 0 (length ps)
      ++ (replicate (m.max_locals - length ps) None ++ given_from Params Statics)) params_are
      ∙ sym (append_assoc (given_from 0 (length m.params)) (replicate (m.max_locals - length m.params) None) (given_from Params Statics))

  placed : IsRunningPlaced p typing Root (statics_of p) (record { method = 0; pc = 0; locals = Locals; stack = [] })
  placed =
      let rest = given_from Params Statics in
      let long_rest : length rest ≡ length (statics_of p) = AllZip-long (IsOfField Root) (statics_of p) rest behind in
      running_lands p typing Root (statics_of p) m 0 0 (entry_frame Types m) Locals [] is_m is_typing.entry
      (ap length locals_are ∙ length-append Prefix rest ∙ ap (λ (n : ℕ). n + length rest) count
      ∙ ap (λ (n : ℕ). m.max_locals + n) long_rest)
      (subst (AllZip (IsOfPlace Root) (entry_frame Types m).locals)
      (sym (ap (take m.max_locals) locals_are ∙ take_front Prefix rest m.max_locals count)) narrow)
      (subst (AllZip (IsOfField Root) (statics_of p))
      (sym (ap (drop m.max_locals) locals_are ∙ drop_front Prefix rest m.max_locals count)) behind) tt refl

  -- each input stands in a local
  local_of : (id : ℕ) → id < Params + Statics → (n : ℕ) × (slice_get Locals n ≡ Some (Some id))
  local_of id l = elim (cases_lt id Params) [
    | inl low ↦ (
      id,
      get_before (given_from 0 Params) (replicate (locals_of p - Params) None ++ given_from Params Statics) id
          (Some id) (given_at 0 Params id id low (omega arith)),
    )
    | inr high ↦
        let gap = replicate (locals_of p - Params) None in
        let k = id - Params in
        let at : slice_get (given_from Params Statics) k ≡ Some (Some id) = given_at Params Statics k id (omega (arith, l, high))
        (omega (arith, high)) in (
          length (given_from 0 Params) + (length gap + k),
          get_behind (given_from 0 Params) (gap ++ given_from Params Statics) (length gap + k)
              ∙ (get_behind gap (given_from Params Statics) k ∙ at),
        )
  ]

  reached : (id : ℕ) → HasCell (λ _. true) Root id → IsReached Root id
  reached id h =
      let found = cell_found desc.inputs id h.cell h.is in
      let low = got_within desc.inputs id found.input found.there in
      let at = local_of id (omega (arith, low, input_count)) in
      let place = place_in Locals at.0 id at.1 in
      record {
        place = place.0;
        start = id;
        stands = get_before ((given_ids Locals ++ []) ++ []) [] place.0 id
            (get_before (given_ids Locals ++ []) [] place.0 id (get_before (given_ids Locals) [] place.0 id place.1));
        reaches = record { path = []; leads = refl };
      }

  grows : IsSound Types Root → IsGrowing p typing Root
  grows sound = record {
    good = record { sound = sound; placed = (placed, tt); called = at_calls p Root.frames tt };
    waiting = tt;
    reached = reached;
  }

pub root_grows : (p : Program) (typing : ℕ → CodeTypes) (desc : Desc) → IsClosed p → IsTypingOf p typing → IsOwnDesc p desc
    → IsSound (types_of p.world) (initial_of p desc) → IsGrowing p typing (initial_of p desc)
unfolding initial_of
root_grows p typing desc closed typed own sound = let first = (good_program p closed).first in grows p typing desc typed own first.0
    first.1 sound
