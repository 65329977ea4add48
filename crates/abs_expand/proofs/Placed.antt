-- Tests of positions: what they say of a state, and lists the other way round.
use Rattle.std.proofs.Common.{◌≡◌, ◌≢◌, ◌≤◌, ◌<◌, ◌+◌, ◌-◌, ◌==◌, ◌∙◌, ◌&&◌, ℕ, Bool, true, false, if◌then◌else◌, List, [], ◌∷◌, ◌++◌}
use Rattle.std.proofs.Common.{length, map, take, drop, reverse, inl, inr, Option, Some, None, slice_get, get_or, refl, sym, ap, subst}
use Rattle.std.proofs.Common.{arith}
use Rattle.std.specs.Prelude.{option_and_then, is_some}
use Rattle.std.specs.List.{AllZip, AllByRecursion, list_all}
use Rattle.std.specs.Option.{option_map_or}
use Rattle.std.proofs.lemmas.Bool.{false≢true, cases_eq, and_parts, and_from, eqb-true, eq-eqb, ne_eqb}
use Rattle.std.proofs.lemmas.List.{reverse-append, reverse-reverse, length-reverse, length-map, length-take-le, drop_all, take_more}
use Rattle.std.proofs.lemmas.List.{take_all, take-append-le}
use Rattle.std.proofs.lemmas.List.Elements.{All-from_recursion, recursion_from_All}
use Rattle.std.proofs.Math.Bool.{and-true}
use Rattle.std.proofs.lemmas.Option.{none-some}
use Rattle.list_views.proofs.Options.{then_some}
use Rattle.list_views.proofs.Truths.{and_swapped}
use Rattle.list_views.proofs.Reversed.{reverse-take}
use Rattle.jvm_values.specs.declared.types.Slot.{Slot}
use Rattle.jvm_values.specs.declared.types.Slot.TheVariants as slots
use Rattle.jvm_values.specs.declared.typing.PlaceType.{PlaceType}
use Rattle.jvm_values.specs.declared.typing.PlaceType.TheVariants as places
use Rattle.jvm_values.specs.States.{PlaceTypes}
use Rattle.jvm_values.proofs.Options.{some_is}
use Rattle.abs_cells.specs.AbstractStates.{AbstractFrame, AbstractState}
use Rattle.abs_cells.specs.declared.cells.Cell.{Cell}
use Rattle.abs_cells.specs.Cells.{is_int}
use Rattle.abs_cells.proofs.Checking.{has_cell_from, has_cell_to, all_reversed}
use Rattle.abs_reach.specs.Instances.{is_no_int}
use Rattle.abs_reach.specs.abs_sound.Zips.{all_zip}
use Rattle.abs_reach.proofs.Zipped.{zip_apart, zip_gives, zip_given}
use Rattle.class_program.specs.declared.program.Method.{Method}
use Rattle.class_program.specs.declared.program.StaticField.{StaticField}
use Rattle.class_program.specs.Programs.{Program}
use Rattle.abs_plans.specs.FrameTypesTables.{CodeTypes}
use Rattle.abs_expand.specs.BadStates.{IsOfPlace, IsOfField, HasStackOf, IsPlaced, statics_under, call_at, HasCallersStack}
use Rattle.abs_expand.specs.BadStates.{IsCallerPlaced, AreCallersPlaced, HasRunningStack, IsRunningPlaced, ArePlaced, below_running}
use Rattle.abs_expand.specs.BadStates.{AreAtCalls}
use Rattle.abs_expand.specs.inner.PlaceTests.{is_entry_of, is_of_place, is_of_field, are_of_fields, has_locals, if_locals, placed_at}
use Rattle.abs_expand.specs.inner.PlaceTests.{is_callers_stack, is_running_stack, caller_test, running_test, fields_under, callers_test}
use Rattle.abs_expand.specs.inner.PlaceTests.{placed_test}

-- ---- one position

module _ (state : AbstractState) where
  entry_from : (place : PlaceType) (id : ℕ) → is_entry_of state.cells place id ≡ true → IsOfPlace state place (Some id)
  entry_from places.Unset id e = tt
  entry_from places.Int id e = has_cell_from is_int state id e
  entry_from places.Null id e = has_cell_from is_no_int state id e
  entry_from (places.Ref t) id e = has_cell_from is_no_int state id e

  entry_to : (place : PlaceType) (id : ℕ) → IsOfPlace state place (Some id) → is_entry_of state.cells place id ≡ true
  entry_to places.Unset id h = refl
  entry_to places.Int id h = has_cell_to is_int state id h
  entry_to places.Null id h = has_cell_to is_no_int state id h
  entry_to (places.Ref t) id h = has_cell_to is_no_int state id h

  place_from : (place : PlaceType) (local : Option ℕ) → is_of_place state.cells place local ≡ true → IsOfPlace state place local
  place_from place (Some id) e = entry_from place id e
  place_from places.Unset None e = tt
  place_from places.Int None e = absurd (false≢true e)
  place_from places.Null None e = absurd (false≢true e)
  place_from (places.Ref t) None e = absurd (false≢true e)

  place_to : (place : PlaceType) (local : Option ℕ) → IsOfPlace state place local → is_of_place state.cells place local ≡ true
  place_to place (Some id) h = entry_to place id h
  place_to places.Unset None h = refl
  place_to places.Int None h = absurd h
  place_to places.Null None h = absurd h
  place_to (places.Ref t) None h = absurd h

  field_from : (slot : Slot) (local : Option ℕ) → is_of_field state.cells slot local ≡ true → IsOfField state slot local
  field_from slot None e = absurd (false≢true e)
  field_from (slots.Num kind) (Some id) e = has_cell_from is_int state id e
  field_from (slots.Ref t) (Some id) e = has_cell_from is_no_int state id e

  field_to : (slot : Slot) (local : Option ℕ) → IsOfField state slot local → is_of_field state.cells slot local ≡ true
  field_to (slots.Num kind) None h = absurd h
  field_to (slots.Ref t) None h = absurd h
  field_to (slots.Num kind) (Some id) h = has_cell_to is_int state id h
  field_to (slots.Ref t) (Some id) h = has_cell_to is_no_int state id h

  -- ---- all positions of a list

  pub locals_from : (wanted : List PlaceType) (locals : List (Option ℕ)) → all_zip (is_of_place state.cells) wanted locals ≡ true
      → AllZip (IsOfPlace state) wanted locals
  locals_from = zip_gives (is_of_place state.cells) (IsOfPlace state) place_from

  pub locals_to : (wanted : List PlaceType) (locals : List (Option ℕ)) → AllZip (IsOfPlace state) wanted locals
      → all_zip (is_of_place state.cells) wanted locals ≡ true
  locals_to = zip_given (is_of_place state.cells) (IsOfPlace state) place_to

  pub fields_from : (wanted : List Slot) (locals : List (Option ℕ)) → all_zip (is_of_field state.cells) wanted locals ≡ true
      → AllZip (IsOfField state) wanted locals
  fields_from = zip_gives (is_of_field state.cells) (IsOfField state) field_from

  pub fields_to : (wanted : List Slot) (locals : List (Option ℕ)) → AllZip (IsOfField state) wanted locals
      → all_zip (is_of_field state.cells) wanted locals ≡ true
  fields_to = zip_given (is_of_field state.cells) (IsOfField state) field_to

  pub stack_from : (wanted : List PlaceType) (stack : List ℕ) → all_zip (is_entry_of state.cells) wanted stack ≡ true
      → HasStackOf state wanted stack
  stack_from = zip_gives (is_entry_of state.cells) (λ place id. IsOfPlace state place (Some id)) entry_from

  pub stack_to : (wanted : List PlaceType) (stack : List ℕ) → HasStackOf state wanted stack
      → all_zip (is_entry_of state.cells) wanted stack ≡ true
  stack_to = zip_given (is_entry_of state.cells) (λ place id. IsOfPlace state place (Some id)) entry_to

-- ---- the other way round

and_apart : (a b c : Bool) → (a && (b && c)) ≡ ((a && b) && c)
and_apart true b c = refl
and_apart false b c = refl

zip_behind : {A B : Type 0} (test : A → B → Bool) (xs : List A) (ys : List B) (x : A) (y : B) → length xs ≡ length ys
    → all_zip test (xs ++ x ∷ []) (ys ++ y ∷ []) ≡ (all_zip test xs ys && test x y)
zip_behind test [] [] x y l = and-true (test x y)
zip_behind test [] (b ∷ ys) x y l = absurd (omega (arith, l))
zip_behind test (a ∷ xs) [] x y l = absurd (omega (arith, l))
zip_behind test (a ∷ xs) (b ∷ ys) x y l =
    ap (λ (rest : Bool). test a b && rest) (zip_behind test xs ys x y (omega (arith, l)))
    ∙ and_apart (test a b) (all_zip test xs ys) (test x y)

pub zip_turned : {A B : Type 0} (test : A → B → Bool) (xs : List A) (ys : List B) → length xs ≡ length ys
    → all_zip test (reverse xs) (reverse ys) ≡ all_zip test xs ys
zip_turned test [] [] l = refl
zip_turned test [] (b ∷ ys) l = absurd (omega (arith, l))
zip_turned test (a ∷ xs) [] l = absurd (omega (arith, l))
zip_turned test (a ∷ xs) (b ∷ ys) l =
    let less : length xs ≡ length ys = omega (arith, l) in
    let same = length-reverse xs ∙ less ∙ sym (length-reverse ys) in
    ap (λ zs. all_zip test zs (reverse (b ∷ ys))) (reverse-append (a ∷ []) xs)
    ∙ ap (λ zs. all_zip test (reverse xs ++ a ∷ []) zs) (reverse-append (b ∷ []) ys)
    ∙ zip_behind test (reverse xs) (reverse ys) a b same
    ∙ ap (λ (rest : Bool). rest && test a b) (zip_turned test xs ys (omega (arith, l)))
    ∙ and_swapped (all_zip test xs ys) (test a b)

pub zip_turned_apart : {A B : Type 0} (test : A → B → Bool) (xs : List A) (ys : List B) → length xs ≢ length ys
    → all_zip test (reverse xs) (reverse ys) ≡ false
zip_turned_apart test xs ys n = zip_apart test (reverse xs) (reverse ys) (λ e. n (sym (length-reverse xs) ∙ e ∙ length-reverse ys))

pub zip_turned_any : {A B : Type 0} (test : A → B → Bool) (xs : List A) (ys : List B) → all_zip test (reverse xs) (reverse ys)
    ≡ all_zip test xs ys
zip_turned_any test xs ys = elim (cases_eq (length xs) (length ys)) [
  | inl e ↦ zip_turned test xs ys e
  | inr n ↦ zip_turned_apart test xs ys n ∙ sym (zip_apart test xs ys n)
]

-- a stack without so many of its topmost entries, from the bottom
pub stack_at : {A B : Type 0} (test : A → B → Bool) (types places taken : List A) (stack : List B) (count : ℕ)
    → places ≡ reverse types → count ≤ length places → taken ≡ take (length places - count) places → all_zip test taken stack
    ≡ all_zip test (drop count types) (reverse stack)
stack_at test types places taken stack count p l t =
    let back : reverse places ≡ types = ap reverse p ∙ reverse-reverse types in
    let turned : reverse taken ≡ drop count types = ap reverse t ∙ reverse-take (length places - count) places
    ∙ ap (λ (n : ℕ). drop n (reverse places)) (omega (arith, l)) ∙ ap (drop count) back in
    sym (zip_turned_any test taken stack) ∙ ap (λ zs. all_zip test zs (reverse stack)) turned

-- nothing is left of it
none_left : {A B : Type 0} (test : A → B → Bool) (ys : List B) → all_zip test [] ys ≡ (length ys == 0)
none_left test [] = refl
none_left test (y ∷ ys) = sym (ne_eqb (length (y ∷ ys)) 0 (λ e. omega (arith, e)))

-- ---- frames

if_some : {A : Type 0} (b : Bool) (x y : A) → (if b then Some x else None) ≡ Some y → (b ≡ true) × (x ≡ y)
if_some true x y e = (refl, some_is e)
if_some false x y e = absurd (none-some y e)

abbrev slots_of : List StaticField → List Slot
slots_of statics = map (λ (field : StaticField). field.slot) statics

slots_count : (statics : List StaticField) → length (slots_of statics) ≡ length statics
slots_count statics = length-map statics (λ (field : StaticField). field.slot)

module _ (p : Program) (typing : ℕ → CodeTypes) (state : AbstractState) where
  placed_from : (statics : List StaticField) (frame : AbstractFrame) (there : PlaceTypes)
      → placed_at p typing state.cells statics frame ≡ Some there → IsPlaced p typing state (slots_of statics) frame there
  placed_from statics frame there e =
      let m = then_some (λ (method : Method). option_and_then (if_locals state.cells statics frame.locals method)
      (typing frame.method frame.pc)) (slice_get p.methods frame.method) there e in
      let t = then_some (if_locals state.cells statics frame.locals m.0) (typing frame.method frame.pc) there m.1.1 in
      let i = if_some (has_locals state.cells m.0.max_locals t.0.locals statics frame.locals) t.0 there t.1.1 in
      let h = and_parts (length frame.locals == m.0.max_locals + length statics) (all_zip (is_of_place state.cells) t.0.locals
      (take m.0.max_locals frame.locals) && are_of_fields state.cells statics (drop m.0.max_locals frame.locals)) i.0 in
      let k = and_parts (all_zip (is_of_place state.cells) t.0.locals (take m.0.max_locals frame.locals))
      (are_of_fields state.cells statics (drop m.0.max_locals frame.locals)) h.1 in
      subst (IsPlaced p typing state (slots_of statics) frame) i.1 (record {
        method = m.0;
        is_method = m.1.0;
        is_there = t.1.0;
        count = omega (arith, eqb-true (length frame.locals) (m.0.max_locals + length statics) h.0, slots_count statics);
        locals = locals_from state t.0.locals (take m.0.max_locals frame.locals) k.0;
        fields = fields_from state (slots_of statics) (drop m.0.max_locals frame.locals) k.1;
      })

  placed_to : (statics : List StaticField) (frame : AbstractFrame) (there : PlaceTypes)
      → IsPlaced p typing state (slots_of statics) frame there → placed_at p typing state.cells statics frame ≡ Some there
  placed_to statics frame there h =
      let counted : length frame.locals ≡ h.method.max_locals + length statics = omega (arith, h.count, slots_count statics) in
      let all : has_locals state.cells h.method.max_locals there.locals statics frame.locals ≡ true =
      and_from (length frame.locals == h.method.max_locals + length statics) (all_zip (is_of_place state.cells) there.locals
      (take h.method.max_locals frame.locals) && are_of_fields state.cells statics (drop h.method.max_locals frame.locals))
      (eq-eqb (length frame.locals) (h.method.max_locals + length statics) counted)
      (and_from (all_zip (is_of_place state.cells) there.locals (take h.method.max_locals frame.locals))
      (are_of_fields state.cells statics (drop h.method.max_locals frame.locals))
      (locals_to state there.locals (take h.method.max_locals frame.locals) h.locals)
      (fields_to state (slots_of statics) (drop h.method.max_locals frame.locals) h.fields)) in
      ap (option_and_then (λ (method : Method). option_and_then (if_locals state.cells statics frame.locals method)
      (typing frame.method frame.pc))) h.is_method
      ∙ ap (option_and_then (if_locals state.cells statics frame.locals h.method)) h.is_there
      ∙ ap (λ (b : Bool). if b then Some there else None) all

  -- ---- stacks

  callers_stack_from : (count : Option ℕ) (there : PlaceTypes) (stack : List ℕ) → is_callers_stack state.cells count there stack
      ≡ true → HasCallersStack state count there.stack stack
  callers_stack_from None there stack e = tt
  callers_stack_from (Some count) there stack e = stack_from state (drop count there.stack) stack e

  callers_stack_to : (count : Option ℕ) (there : PlaceTypes) (stack : List ℕ) → HasCallersStack state count there.stack stack
      → is_callers_stack state.cells count there stack ≡ true
  callers_stack_to None there stack h = refl
  callers_stack_to (Some count) there stack h = stack_to state (drop count there.stack) stack h

  no_entries : (stack : List ℕ) → (length stack == 0) ≡ true → stack ≡ []
  no_entries [] e = refl
  no_entries (x ∷ stack) e = absurd (false≢true (sym (ne_eqb (length (x ∷ stack)) 0 (λ f. omega (arith, f))) ∙ e))

  running_stack_from : (thrown : Option ℕ) (there : PlaceTypes) (stack : List ℕ) → is_running_stack state.cells thrown there stack
      ≡ true → HasRunningStack state thrown there.stack stack
  running_stack_from None there stack e = stack_from state there.stack stack e
  running_stack_from (Some x) there stack e = no_entries stack e

  running_stack_to : (thrown : Option ℕ) (there : PlaceTypes) (stack : List ℕ) → HasRunningStack state thrown there.stack stack
      → is_running_stack state.cells thrown there stack ≡ true
  running_stack_to None there stack h = stack_to state there.stack stack h
  running_stack_to (Some x) there stack h = ap (λ (xs : List ℕ). length xs == 0) h

  -- ---- callers

  caller_from : (statics : List StaticField) (frame : AbstractFrame) → caller_test p typing state.cells statics frame ≡ true
      → IsCallerPlaced p typing state (slots_of statics) frame
  caller_from statics frame e = at (placed_at p typing state.cells statics frame) refl e
    where
      at : (found : Option PlaceTypes) → placed_at p typing state.cells statics frame ≡ found
          → option_map_or (λ (there : PlaceTypes). is_callers_stack state.cells (call_at p frame) there frame.stack) found false
          ≡ true → IsCallerPlaced p typing state (slots_of statics) frame
      at None f g = absurd (false≢true g)
      at (Some there) f g = record {
        there = there;
        placed = placed_from statics frame there f;
        stack = callers_stack_from (call_at p frame) there frame.stack g;
      }

  caller_to : (statics : List StaticField) (frame : AbstractFrame) → IsCallerPlaced p typing state (slots_of statics) frame
      → caller_test p typing state.cells statics frame ≡ true
  caller_to statics frame h =
      ap (λ (found : Option PlaceTypes). option_map_or (λ (there : PlaceTypes). is_callers_stack state.cells (call_at p frame) there
      frame.stack) found false) (placed_to statics frame h.there h.placed)
      ∙ callers_stack_to (call_at p frame) h.there frame.stack h.stack

  under_is : (below : List AbstractFrame) → slots_of (fields_under p (length below)) ≡ statics_under p below
  under_is [] = refl
  under_is (frame ∷ below) = ap (λ (b : Bool). slots_of (if b then p.statics else []))
      (ne_eqb (length (frame ∷ below)) 0 (λ e. omega (arith, e)))

  callers_from : (frames : List AbstractFrame) → callers_test p typing state.cells frames ≡ true → AreCallersPlaced p typing state frames
  callers_from [] e = tt
  callers_from (frame ∷ below) e =
      let h = and_parts (caller_test p typing state.cells (fields_under p (length below)) frame)
      (callers_test p typing state.cells below) e in (
        subst (λ (statics : List Slot). IsCallerPlaced p typing state statics frame) (under_is below)
            (caller_from (fields_under p (length below)) frame h.0),
        callers_from below h.1,
      )

  callers_to : (frames : List AbstractFrame) → AreCallersPlaced p typing state frames → callers_test p typing state.cells frames ≡ true
  callers_to [] h = refl
  callers_to (frame ∷ below) h =
      and_from (caller_test p typing state.cells (fields_under p (length below)) frame) (callers_test p typing state.cells below)
      (caller_to (fields_under p (length below)) frame
      (subst (λ (statics : List Slot). IsCallerPlaced p typing state statics frame) (sym (under_is below)) h.0)) (callers_to below h.1)

  -- ---- all frames

  running_from : (statics : List StaticField) (frame : AbstractFrame) → running_test p typing state.cells state.throwing statics frame
      ≡ true → IsRunningPlaced p typing state (slots_of statics) frame
  running_from statics frame e = at (placed_at p typing state.cells statics frame) refl e
    where
      at : (found : Option PlaceTypes) → placed_at p typing state.cells statics frame ≡ found
          → option_map_or (λ (there : PlaceTypes). is_running_stack state.cells state.throwing there frame.stack) found false ≡ true
          → IsRunningPlaced p typing state (slots_of statics) frame
      at None f g = absurd (false≢true g)
      at (Some there) f g = record {
        there = there;
        placed = placed_from statics frame there f;
        stack = running_stack_from state.throwing there frame.stack g;
      }

  running_to : (statics : List StaticField) (frame : AbstractFrame) → IsRunningPlaced p typing state (slots_of statics) frame
      → running_test p typing state.cells state.throwing statics frame ≡ true
  running_to statics frame h =
      ap (λ (found : Option PlaceTypes). option_map_or (λ (there : PlaceTypes). is_running_stack state.cells state.throwing there
      frame.stack) found false) (placed_to statics frame h.there h.placed)
      ∙ running_stack_to state.throwing h.there frame.stack h.stack

  pub all_from : (frames : List AbstractFrame) → placed_test p typing state frames ≡ true → ArePlaced p typing state frames
  all_from [] e = tt
  all_from (frame ∷ below) e =
      let h = and_parts (running_test p typing state.cells state.throwing (fields_under p (length below)) frame)
      (callers_test p typing state.cells below) e in (
        subst (λ (statics : List Slot). IsRunningPlaced p typing state statics frame) (under_is below)
            (running_from (fields_under p (length below)) frame h.0),
        callers_from below h.1,
      )

  pub all_to : (frames : List AbstractFrame) → ArePlaced p typing state frames → placed_test p typing state frames ≡ true
  all_to [] h = refl
  all_to (frame ∷ below) h =
      and_from (running_test p typing state.cells state.throwing (fields_under p (length below)) frame)
      (callers_test p typing state.cells below) (running_to (fields_under p (length below)) frame
      (subst (λ (statics : List Slot). IsRunningPlaced p typing state statics frame) (sym (under_is below)) h.0))
      (callers_to below h.1)

-- ---- frames, the lowest first

-- one frame more from the bottom
pub callers_more : (p : Program) (typing : ℕ → CodeTypes) (listed : List (ℕ × Cell)) (frames : List AbstractFrame) (n : ℕ)
    (frame : AbstractFrame) → n < length frames → frame ≡ get_or frames n frame
    → callers_test p typing listed (reverse (take (n + 1) frames)) ≡ (caller_test p typing listed (fields_under p n) frame
    && callers_test p typing listed (reverse (take n frames)))
callers_more p typing listed frames n frame l is =
    let turned : reverse (take (n + 1) frames) ≡ frame ∷ reverse (take n frames) = ap reverse (take_more frames n frame l
    ∙ ap (λ (x : AbstractFrame). take n frames ++ x ∷ []) (sym is)) ∙ reverse-append (take n frames) (frame ∷ []) in
    let count : length (reverse (take n frames)) ≡ n = length-reverse (take n frames) ∙ length-take-le n frames (omega (arith, l)) in
    ap (callers_test p typing listed) turned ∙ ap (λ (k : ℕ). caller_test p typing listed (fields_under p k) frame
    && callers_test p typing listed (reverse (take n frames))) count

-- the running frame, and the others
pub running_apart : (frames seen : List AbstractFrame) (frame : AbstractFrame) → seen ≡ reverse frames → 0 < length seen
    → frame ≡ get_or seen (length seen - 1) frame → frames ≡ frame ∷ reverse (take (length seen - 1) seen)
running_apart [] seen frame e l is = absurd (omega (arith, l, ap length e))
running_apart (x ∷ xs) seen frame e l is =
    let split : seen ≡ reverse xs ++ x ∷ [] = e ∙ reverse-append (x ∷ []) xs in
    let count : length seen - 1 ≡ length (reverse xs) = omega (arith, ap length e, length-reverse (x ∷ xs), length-reverse xs) in
    let first : take (length seen - 1) seen ≡ reverse xs = ap (λ (n : ℕ). take n seen) count ∙ ap (take (length (reverse xs))) split
    ∙ take-append-le (length (reverse xs)) (reverse xs) (x ∷ []) (omega arith)
    ∙ take_all (length (reverse xs)) (reverse xs) (omega arith) in
    let last : frame ≡ x = is ∙ ap (λ (n : ℕ). get_or seen n frame) count
    ∙ ap (λ (ys : List AbstractFrame). get_or ys (length (reverse xs)) frame) split ∙ last_is (reverse xs) x frame in
    ap (λ (y : AbstractFrame). y ∷ xs) (sym last)
    ∙ ap (λ (ys : List AbstractFrame). frame ∷ ys) (sym (ap reverse first ∙ reverse-reverse xs))
  where
    last_is : (ys : List AbstractFrame) (y d : AbstractFrame) → get_or (ys ++ y ∷ []) (length ys) d ≡ y
    last_is [] y d = refl
    last_is (z ∷ ys) y d = last_is ys y d

pub all_tested : (p : Program) (typing : ℕ → CodeTypes) (state : AbstractState) (frames seen : List AbstractFrame)
    (frame : AbstractFrame) (first rest : Bool) → seen ≡ reverse frames → 0 < length seen
    → frame ≡ get_or seen (length seen - 1) frame → first ≡ running_test p typing state.cells state.throwing
    (fields_under p (length seen - 1)) frame → rest ≡ callers_test p typing state.cells (reverse (take (length seen - 1) seen))
    → placed_test p typing state frames ≡ (first && rest)
all_tested p typing state frames seen frame first rest e l is f r =
    let count : length (reverse (take (length seen - 1) seen)) ≡ length seen - 1 = length-reverse (take (length seen - 1) seen)
    ∙ length-take-le (length seen - 1) seen (omega arith) in
    ap (placed_test p typing state) (running_apart frames seen frame e l is)
    ∙ ap (λ (k : ℕ). running_test p typing state.cells state.throwing (fields_under p k) frame && callers_test p typing state.cells
    (reverse (take (length seen - 1) seen))) count
    ∙ ap (λ (b : Bool). b && callers_test p typing state.cells (reverse (take (length seen - 1) seen))) (sym f)
    ∙ ap (λ (b : Bool). first && b) (sym r)

-- ---- calls

some_not_none : {A : Type 0} (found : Option A) → is_some found ≡ true → found ≢ None
some_not_none None e n = false≢true e
some_not_none (Some x) e n = none-some x (sym n)

not_none_some : {A : Type 0} (found : Option A) → found ≢ None → is_some found ≡ true
not_none_some None n = absurd (n refl)
not_none_some (Some x) n = refl

called_from : (p : Program) (frames : List AbstractFrame) → list_all (λ (frame : AbstractFrame). is_some (call_at p frame)) frames
    ≡ true → AllByRecursion (λ (frame : AbstractFrame). call_at p frame ≢ None) frames
called_from p [] e = tt
called_from p (frame ∷ frames) e =
    let h = and_parts (is_some (call_at p frame)) (list_all (λ (x : AbstractFrame). is_some (call_at p x)) frames) e in
    (some_not_none (call_at p frame) h.0, called_from p frames h.1)

called_to : (p : Program) (frames : List AbstractFrame) → AllByRecursion (λ (frame : AbstractFrame). call_at p frame ≢ None) frames
    → list_all (λ (frame : AbstractFrame). is_some (call_at p frame)) frames ≡ true
called_to p [] h = refl
called_to p (frame ∷ frames) h = and_from (is_some (call_at p frame)) (list_all (λ (x : AbstractFrame). is_some (call_at p x)) frames)
    (not_none_some (call_at p frame) h.0) (called_to p frames h.1)

pub calls_from : (p : Program) (frames : List AbstractFrame) → list_all (λ (frame : AbstractFrame). is_some (call_at p frame))
    (below_running frames) ≡ true → AreAtCalls p frames
calls_from p frames e = All-from_recursion (λ (frame : AbstractFrame). call_at p frame ≢ None) (below_running frames)
    (called_from p (below_running frames) e)

pub calls_to : (p : Program) (frames : List AbstractFrame) → AreAtCalls p frames
    → list_all (λ (frame : AbstractFrame). is_some (call_at p frame)) (below_running frames) ≡ true
calls_to p frames h = called_to p (below_running frames) (recursion_from_All (λ (frame : AbstractFrame). call_at p frame ≢ None)
    (below_running frames) h)

-- the frames below the running one, the lowest first
pub tested_below : (test : AbstractFrame → Bool) (frames seen : List AbstractFrame) → seen ≡ reverse frames → 0 < length seen
    → list_all test (take (length seen - 1) seen) ≡ list_all test (below_running frames)
tested_below test [] seen e l = absurd (omega (arith, l, ap length e))
tested_below test (x ∷ xs) seen e l =
    let split : seen ≡ reverse xs ++ x ∷ [] = e ∙ reverse-append (x ∷ []) xs in
    let count : length seen - 1 ≡ length (reverse xs) = omega (arith, ap length e, length-reverse (x ∷ xs), length-reverse xs) in
    let first : take (length seen - 1) seen ≡ reverse xs = ap (λ (n : ℕ). take n seen) count ∙ ap (take (length (reverse xs))) split
    ∙ take-append-le (length (reverse xs)) (reverse xs) (x ∷ []) (omega arith)
    ∙ take_all (length (reverse xs)) (reverse xs) (omega arith) in
    ap (list_all test) first ∙ all_reversed test xs
