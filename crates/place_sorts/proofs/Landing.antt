-- Frames that go on at places of a typing: ids of the sorts that come there are of the sorts there.
use Rattle.std.proofs.Common.{◌≡◌, ◌∙◌, ◌+◌, ◌-◌, ◌<◌, ℕ, zero, suc, Bool, true, List, [], ◌∷◌, ◌++◌}
use Rattle.std.proofs.Common.{length, map, take, drop, reverse, Option, Some, None, slice_get, refl, sym, subst, arith}
use Rattle.std.specs.Prelude.{replicate, zip}
use Rattle.std.specs.List.{AllByRecursion, AllZip}
use Rattle.std.proofs.lemmas.Bool.{false≢true}
use Rattle.std.proofs.lemmas.List.{take_all, drop_all, reverse-append}
use Rattle.std.proofs.lemmas.Option.{none-some}
use Rattle.std.proofs.lemmas.Slice.Zip.{AllZip-long}
use Rattle.list_views.proofs.Options.{cond_guarded}
use Rattle.list_views.proofs.Quantified.{all_front, all_back}
use Rattle.jvm_values.proofs.Options.{some_is}
use Rattle.jvm_values.specs.declared.types.Slot.{Slot}
use Rattle.jvm_values.specs.declared.types.Slot.TheVariants as slots
use Rattle.jvm_values.specs.declared.typing.PlaceType.{PlaceType}
use Rattle.jvm_values.specs.declared.typing.PlaceType.TheVariants as places
use Rattle.jvm_values.specs.States.{PlaceTypes}
use Rattle.jvm_values.specs.TypedHeaps.{WorldTypes}
use Rattle.jvm_run.proofs.Lists.{zip_append, zip_through}
use Rattle.abs_cells.specs.declared.cells.Cell.{Cell}
use Rattle.abs_cells.specs.AbstractStates.{AbstractState}
use Rattle.abs_cells.specs.Cells.{is_int, HasCell}
use Rattle.abs_reach.specs.Instances.{is_no_int}
use Rattle.class_world.specs.WorldTypes.{types_of}
use Rattle.class_program.specs.declared.program.Method.{Method}
use Rattle.class_program.specs.Programs.{Program}
use Rattle.frame_types.specs.Places.{IsWithin}
use Rattle.frame_types.specs.Tables.{CodeTypes, Takes}
use Rattle.code_verify.specs.declared.want.Want.{Want}
use Rattle.code_verify.specs.declared.want.Want.TheVariants as wants
use Rattle.code_verify.specs.Operands.{fits, want_of, place_of}
use Rattle.code_verify.specs.Rows.{taken}
use Rattle.code_verify.specs.Typings.{IsTyping, entry_frame}
use Rattle.abs_turns.specs.Table.{called_frame}
use Rattle.abs_expand.specs.BadStates.{IsOfPlace, IsOfField, HasStackOf, HasRunningStack, IsRunningPlaced}

-- ---- wider types

wide_place : (types : WorldTypes) (state : AbstractState) (narrow wide : PlaceType) (local : Option ℕ) → IsWithin types narrow wide
    → IsOfPlace state narrow local → IsOfPlace state wide local
wide_place types state narrow places.Unset local w h = tt
wide_place types state places.Unset places.Int local w h = absurd w
wide_place types state places.Int places.Int local w h = h
wide_place types state places.Null places.Int local w h = absurd w
wide_place types state (places.Ref s) places.Int local w h = absurd w
wide_place types state places.Unset places.Null local w h = absurd w
wide_place types state places.Int places.Null local w h = absurd w
wide_place types state places.Null places.Null local w h = h
wide_place types state (places.Ref s) places.Null local w h = absurd w
wide_place types state places.Unset (places.Ref t) local w h = absurd w
wide_place types state places.Int (places.Ref t) local w h = absurd w
wide_place types state places.Null (places.Ref t) None w h = absurd h
wide_place types state places.Null (places.Ref t) (Some id) w h = h
wide_place types state (places.Ref s) (places.Ref t) None w h = absurd h
wide_place types state (places.Ref s) (places.Ref t) (Some id) w h = h

pub locals_wide : (types : WorldTypes) (state : AbstractState) (narrow wide : List PlaceType) (locals : List (Option ℕ))
    → AllZip (IsWithin types) narrow wide → AllZip (IsOfPlace state) narrow locals → AllZip (IsOfPlace state) wide locals
locals_wide types state narrow wide locals w h = zip_through (IsWithin types) (IsOfPlace state) (IsOfPlace state)
    (wide_place types state) narrow wide locals w h

stack_wide : (types : WorldTypes) (state : AbstractState) (narrow wide : List PlaceType) (stack : List ℕ)
    → AllZip (IsWithin types) narrow wide → HasStackOf state narrow stack → HasStackOf state wide stack
stack_wide types state narrow wide stack w h =
    zip_through (IsWithin types) (λ place id. IsOfPlace state place (Some id)) (λ place id. IsOfPlace state place (Some id))
    (λ a b id. wide_place types state a b (Some id)) narrow wide stack w h

-- ---- a frame at a place that takes its types

pub running_lands : (p : Program) (typing : ℕ → CodeTypes) (state : AbstractState) (statics : List Slot) (m : Method)
    (number to : ℕ) (after : PlaceTypes) (locals : List (Option ℕ)) (stack : List ℕ)
    → slice_get p.methods number ≡ Some m → Takes (types_of p.world) (typing number) (record { to = to; frame = after })
    → length locals ≡ m.max_locals + length statics → AllZip (IsOfPlace state) after.locals (take m.max_locals locals)
    → AllZip (IsOfField state) statics (drop m.max_locals locals)
    → HasStackOf state after.stack stack → state.throwing ≡ None
    → IsRunningPlaced p typing state statics (record { method = number; pc = to; locals = locals; stack = stack })
running_lands p typing state statics m number to after locals stack is takes count given fields has unthrown = record {
  there = takes.there;
  placed = record {
    method = m;
    is_method = is;
    is_there = takes.is_there;
    count = count;
    locals = locals_wide (types_of p.world) state after.locals takes.there.locals (take m.max_locals locals) takes.wide.locals given;
    fields = fields;
  };
  stack =
      subst (λ (thrown : Option ℕ). HasRunningStack state thrown takes.there.stack stack) (sym unthrown)
      (stack_wide (types_of p.world) state after.stack takes.there.stack stack takes.wide.stack has);
}

-- ---- the frame of a call

-- an id is such as a slot says
abbrev pub IsPassed : WorldTypes → AbstractState → Slot → ℕ → Type 0
IsPassed types state slot id = IsOfPlace state (place_of types slot) (Some id)

entered_locals : (types : WorldTypes) (state : AbstractState) (params : List Slot) (arguments : List ℕ)
    → AllZip (IsPassed types state) params arguments
    → AllZip (IsOfPlace state) (map (place_of types) params) (map Some arguments)
entered_locals types state [] [] h = tt
entered_locals types state [] (id ∷ rest) h = absurd h
entered_locals types state (slot ∷ params) [] h = absurd h
entered_locals types state (slot ∷ params) (id ∷ rest) h = (h.0, entered_locals types state params rest h.1)

unset_locals : (state : AbstractState) (count : ℕ) → AllZip (IsOfPlace state) (replicate count places.Unset) (replicate count None)
unset_locals state zero = tt
unset_locals state (suc count) = (tt, unset_locals state count)

-- the frame of a method that begins with ids such as its parameters say; below it there is another frame
pub called_lands : (p : Program) (typing : ℕ → CodeTypes) (state : AbstractState) (m : Method) (number : ℕ) (arguments : List ℕ)
    → slice_get p.methods number ≡ Some m → IsTyping p m (typing number)
    → AllZip (IsPassed (types_of p.world) state) m.params arguments → state.throwing ≡ None
    → IsRunningPlaced p typing state [] (called_frame number m arguments)
called_lands p typing state m number arguments is typed h unthrown =
    let types = types_of p.world in
    let same : length m.params ≡ length arguments = sym (AllZip-long (IsPassed types state) m.params arguments h) in
    let rest : AllZip (IsOfPlace state) (replicate (m.max_locals - length m.params) places.Unset)
    (replicate (m.max_locals - length arguments) None) =
    subst (λ (n : ℕ). AllZip (IsOfPlace state) (replicate (m.max_locals - length m.params) places.Unset)
    (replicate (m.max_locals - n) None)) same (unset_locals state (m.max_locals - length m.params)) in
    let locals : List (Option ℕ) = map Some arguments ++ replicate (m.max_locals - length arguments) None in
    let has : AllZip (IsOfPlace state) (entry_frame types m).locals locals =
    zip_append (IsOfPlace state) (map (place_of types) m.params) (map Some arguments)
    (replicate (m.max_locals - length m.params) places.Unset) (replicate (m.max_locals - length arguments) None)
    (entered_locals types state m.params arguments h) rest in
    let takes = typed.entry in
    let wide : AllZip (IsOfPlace state) takes.there.locals locals = locals_wide types state (entry_frame types m).locals
    takes.there.locals locals takes.wide.locals has in
    let count : length locals ≡ m.max_locals = AllZip-long (IsOfPlace state) takes.there.locals locals wide
    ∙ (typed.each 0 takes.there takes.is_there).limits.proper.count in
    running_lands p typing state [] m number 0 (entry_frame types m) locals [] is takes (omega (arith, count))
    (subst (AllZip (IsOfPlace state) (entry_frame types m).locals) (sym (take_all m.max_locals locals (omega (arith, count)))) has)
    (subst (AllZip (IsOfField state) []) (sym (drop_all m.max_locals locals (omega (arith, count)))) tt) tt unthrown

-- ---- operands

-- what is asked for is an int, or a reference or null
abbrev pub sort_of_want : Want → Cell → Bool
sort_of_want wants.Int = is_int
sort_of_want wants.Reference = is_no_int
sort_of_want (wants.Below t) = is_no_int
sort_of_want (wants.BelowBoth s t) = is_no_int
sort_of_want wants.Array = is_no_int
sort_of_want (wants.Numbers for) = is_no_int
sort_of_want wants.References = is_no_int

pub wanted_sort : (types : WorldTypes) (state : AbstractState) (want : Want) (place : PlaceType) (id : ℕ)
    → fits types want place ≡ true → IsOfPlace state place (Some id) → HasCell (sort_of_want want) state id
wanted_sort types state wants.Int places.Unset id f h = absurd (false≢true f)
wanted_sort types state wants.Int places.Int id f h = h
wanted_sort types state wants.Int places.Null id f h = absurd (false≢true f)
wanted_sort types state wants.Int (places.Ref t) id f h = absurd (false≢true f)
wanted_sort types state wants.Reference places.Unset id f h = absurd (false≢true f)
wanted_sort types state wants.Reference places.Int id f h = absurd (false≢true f)
wanted_sort types state wants.Reference places.Null id f h = h
wanted_sort types state wants.Reference (places.Ref t) id f h = h
wanted_sort types state (wants.Below s) places.Unset id f h = absurd (false≢true f)
wanted_sort types state (wants.Below s) places.Int id f h = absurd (false≢true f)
wanted_sort types state (wants.Below s) places.Null id f h = h
wanted_sort types state (wants.Below s) (places.Ref t) id f h = h
wanted_sort types state (wants.BelowBoth r s) places.Unset id f h = absurd (false≢true f)
wanted_sort types state (wants.BelowBoth r s) places.Int id f h = absurd (false≢true f)
wanted_sort types state (wants.BelowBoth r s) places.Null id f h = h
wanted_sort types state (wants.BelowBoth r s) (places.Ref t) id f h = h
wanted_sort types state wants.Array places.Unset id f h = absurd (false≢true f)
wanted_sort types state wants.Array places.Int id f h = absurd (false≢true f)
wanted_sort types state wants.Array places.Null id f h = h
wanted_sort types state wants.Array (places.Ref t) id f h = h
wanted_sort types state (wants.Numbers for) places.Unset id f h = absurd (false≢true f)
wanted_sort types state (wants.Numbers for) places.Int id f h = absurd (false≢true f)
wanted_sort types state (wants.Numbers for) places.Null id f h = h
wanted_sort types state (wants.Numbers for) (places.Ref t) id f h = h
wanted_sort types state wants.References places.Unset id f h = absurd (false≢true f)
wanted_sort types state wants.References places.Int id f h = absurd (false≢true f)
wanted_sort types state wants.References places.Null id f h = h
wanted_sort types state wants.References (places.Ref t) id f h = h

-- what a slot says of an operand that it asks for
pub slot_passed : (types : WorldTypes) (state : AbstractState) (slot : Slot) (id : ℕ)
    → HasCell (sort_of_want (want_of slot)) state id → IsPassed types state slot id
slot_passed types state (slots.Num kind) id h = h
slot_passed types state (slots.Ref t) id h = h

-- the topmost id is what is asked for, and below it stands what is left
pub record Popped (types : WorldTypes) (state : AbstractState) (want : Want) (asks : List Want) (below wanted : List PlaceType)
    (id : ℕ) (rest : List ℕ) : Type 0 where
  pub place : PlaceType
  pub fit : fits types want place ≡ true
  pub placed : IsOfPlace state place (Some id)
  pub sort : HasCell (sort_of_want want) state id
  pub under : List PlaceType
  pub others : taken types asks under ≡ Some below
  pub typed : HasStackOf state under rest

pub pop : (types : WorldTypes) (state : AbstractState) (want : Want) (asks : List Want) (below wanted : List PlaceType) (id : ℕ)
    (rest : List ℕ) → taken types (want ∷ asks) wanted ≡ Some below
    → HasStackOf state wanted (id ∷ rest) → Popped types state want asks below wanted id rest
pop types state want asks below [] id rest e h = absurd h
pop types state want asks below (place ∷ under) id rest e h =
    let g = cond_guarded (fits types want place) (taken types asks under) below e in
    record {
      place = place;
      fit = g.0;
      placed = h.0;
      sort = wanted_sort types state want place id g.0 h.0;
      under = under;
      others =
          g.1;
      typed = h.1;
    }

-- nothing more is asked for
pub left_typed : (types : WorldTypes) (state : AbstractState) (below wanted : List PlaceType) (stack : List ℕ)
    → taken types [] wanted ≡ Some below → HasStackOf state wanted stack → HasStackOf state below stack
left_typed types state below wanted stack e h = subst (λ (ps : List PlaceType). HasStackOf state ps stack) (some_is e) h

-- what is asked for under other operands
pub record AskedAt (types : WorldTypes) (want : Want) (wanted : List PlaceType) (n : ℕ) : Type 0 where
  pub place : PlaceType
  pub is : slice_get wanted n ≡ Some place
  pub fit : fits types want place ≡ true

pub asked_at : (types : WorldTypes) (want : Want) (first more : List Want) (below wanted : List PlaceType)
    → taken types (first ++ want ∷ more) wanted ≡ Some below → AskedAt types want wanted (length first)
asked_at types want [] more below [] e = absurd (none-some below e)
asked_at types want [] more below (place ∷ wanted) e = record
    { place = place; is = refl; fit = (cond_guarded (fits types want place) (taken types more wanted) below e).0 }
asked_at types want (one ∷ first) more below [] e = absurd (none-some below e)
asked_at types want (one ∷ first) more below (place ∷ wanted) e =
    let g = cond_guarded (fits types one place) (taken types (first ++ want ∷ more) wanted) below e in
    let rest = asked_at types want first more below wanted g.1 in
    record { place = rest.place; is = rest.is; fit = rest.fit }

-- ---- tested operands

all_turned_back : {X : Type 0} (P : X → Type 0) (xs : List X) → AllByRecursion P (reverse xs) → AllByRecursion P xs
all_turned_back P [] a = tt
all_turned_back P (x ∷ xs) a =
    let both = subst (AllByRecursion P) (reverse-append (x ∷ []) xs) a in
    ((all_back P (reverse xs) (x ∷ []) both).0, all_turned_back P xs (all_front P (reverse xs) (x ∷ []) both))

taken_pair : (P : PlaceType × ℕ → Type 0) (count n : ℕ) (wanted : List PlaceType) (stack : List ℕ) (place : PlaceType) (id : ℕ)
    → AllByRecursion P (take count (zip wanted stack)) → n < count
    → slice_get wanted n ≡ Some place → slice_get stack n ≡ Some id → P (place, id)
taken_pair P zero n wanted stack place id a l e f = absurd (omega (arith, l))
taken_pair P (suc count) n [] stack place id a l e f = absurd (none-some place e)
taken_pair P (suc count) n (s ∷ wanted) [] place id a l e f = absurd (none-some id f)
taken_pair P (suc count) zero (s ∷ wanted) (x ∷ stack) place id a l e f = subst (λ (q : PlaceType). P (q, id)) (some_is e)
    (subst (λ (y : ℕ). P (s, y)) (some_is f) a.0)
taken_pair P (suc count) (suc n) (s ∷ wanted) (x ∷ stack) place id a l e f = taken_pair P count n wanted stack place id a.1
    (omega (arith, l)) e f

-- what holds of the operands of a form holds of the one under so many others
pub operand_at : (P : PlaceType × ℕ → Type 0) (count n : ℕ) (wanted : List PlaceType) (stack : List ℕ) (place : PlaceType) (id : ℕ)
    → AllByRecursion P (reverse (take count (zip wanted stack))) → n < count
    → slice_get wanted n ≡ Some place → slice_get stack n ≡ Some id → P (place, id)
operand_at P count n wanted stack place id a l e f = taken_pair P count n wanted stack place id
    (all_turned_back P (take count (zip wanted stack)) a) l e f
