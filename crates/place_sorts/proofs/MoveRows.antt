-- Steps of locals, of the stack, of tests of references and of static fields.
use Rattle.std.proofs.Common.{◌≡◌, ◌∙◌, ◌==◌, ◌+◌, ◌<◌, eqb, ℕ, zero, suc, ℤ, pos, Bool, true, false, not, ◌&&◌, ◌||◌}
use Rattle.std.proofs.Common.{if◌then◌else◌, List, [], ◌∷◌, ◌++◌, length, map, take, drop, reverse, Option, Some, None, slice_get}
use Rattle.std.proofs.Common.{slice_index_or, refl, sym, ap, subst, arith, append-nil, append_assoc, length-set, eq-eqb}
use Rattle.std.specs.Prelude.{slice_set, nat_lt}
use Rattle.std.specs.List.{AllByRecursion, AllZip, list_any}
use Rattle.std.specs.Option.{option_map, option_map_or, option_and_then}
use Rattle.std.proofs.lemmas.Bool.{false≢true, or_left, ltb-true}
use Rattle.std.proofs.lemmas.Int.{ints}
use Rattle.std.proofs.lemmas.List.{reverse-append}
use Rattle.std.proofs.lemmas.Option.{none-some}
use Rattle.list_views.specs.Options.{asked}
use Rattle.list_views.proofs.Options.{cond_guarded, map_some, then_some}
use Rattle.list_views.proofs.Quantified.{all_front}
use Rattle.jvm_values.specs.declared.ints.IntOp.{IntOp}
use Rattle.jvm_values.specs.declared.ints.IntOp.TheVariants.{Add, Sub}
use Rattle.jvm_values.specs.declared.ints.Cond.{Cond}
use Rattle.jvm_values.specs.declared.types.Kind.{Kind}
use Rattle.jvm_values.specs.declared.types.Slot.{Slot}
use Rattle.jvm_values.specs.declared.types.Slot.TheVariants as slots
use Rattle.jvm_values.specs.declared.typing.PlaceType.{PlaceType}
use Rattle.jvm_values.specs.declared.typing.PlaceType.TheVariants as places
use Rattle.jvm_values.specs.States.{PlaceTypes}
use Rattle.jvm_values.specs.TypedHeaps.{WorldTypes}
use Rattle.jvm_values.proofs.Options.{some_is}
use Rattle.jvm_run.proofs.Lists.{zip_get, zip_set, zip_set_right}
use Rattle.jvm_run.proofs.Placed.{asked_is}
use Rattle.abs_cells.specs.declared.cells.Cell.TheVariants as cells
use Rattle.abs_cells.specs.AbstractStates.{AbstractFrame, AbstractState}
use Rattle.abs_cells.specs.Cells.{cell_at, HasCell}
use Rattle.abs_cells.specs.PairLists.{has}
use Rattle.abs_ints.proofs.OperatorCases.{if_either}
use Rattle.code_forms.specs.declared.insn.Case.{Case}
use Rattle.class_program.specs.declared.op.Op.{Op}
use Rattle.class_program.specs.declared.program.Method.{Method}
use Rattle.class_program.specs.declared.program.StaticField.{StaticField}
use Rattle.class_program.specs.Programs.{Program}
use Rattle.op_forms.specs.declared.form.Shuffle.{Shuffle as StackShuffle}
use Rattle.op_forms.specs.declared.form.Shuffle.TheVariants as shuffles
use Rattle.op_forms.specs.Forms.{Form, shuffled}
use Rattle.op_forms.specs.Forms.Form.{Nop, AconstNull, Iconst, Iload, Aload, Istore, Astore, Iinc, Shuffle, Arith, Ineg, Narrow, If}
use Rattle.op_forms.specs.Forms.Form.{IfIcmp, IfAcmpeq, IfAcmpne, Ifnull, Ifnonnull, Goto, Tableswitch, Lookupswitch, Getstatic}
use Rattle.op_forms.specs.Forms.Form.{Putstatic}
use Rattle.op_forms.proofs.Widths.{increment_int}
use Rattle.frame_types.specs.Tables.{CodeTypes, Takes}
use Rattle.code_verify.specs.declared.want.Want.TheVariants as wants
use Rattle.code_verify.specs.Flows.{falls, jumps}
use Rattle.code_verify.specs.Operands.{is_int as is_int_place, is_reference as is_reference_place, place_of, want_of}
use Rattle.code_verify.specs.Rows.{taken, acted, top_place, iload_types, aload_types, istore_types, astore_types}
use Rattle.code_verify.specs.Rows.{iinc_types, shuffle_types, static_slot, getstatic_types, putstatic_types}
use Rattle.abs_turns.specs.Needs.{may_be_null, need_null}
use Rattle.abs_turns.specs.Plans.{on_stack, in_local, in_bottom, makes, Plan, steps, by_null, by_equal, no_child, no_rows}
use Rattle.abs_turns.specs.Switches.{table_keys, lookup_keys, parts_of}
use Rattle.abs_turns.specs.Table.{types_here, is_null_here, local_here, step_if, number_cell, store_plan}
use Rattle.abs_turns.specs.Table.{increment_plan, negation_plan, narrow_plan, switch_plan, jump_if, null_plan, equal_plan}
use Rattle.abs_turns.specs.Table.{bottom_of, locals_of_method, static_local, bottom_with, put_static}
use Rattle.abs_turns.specs.Table.{putstatic_plan, binary, unary, row_of}
use Rattle.abs_turns.specs.Turns.{Here, known, id, frames_at, with_stack, moves, goes_on, branches, turns_of}
use Rattle.abs_turns.proofs.OptionLists.{if_there}
use Rattle.abs_expand.specs.BadStates.{IsOfPlace, IsOfField, HasStackOf, IsPlaced, statics_under, IsCallerPlaced, AreCallersPlaced}
use Rattle.abs_expand.specs.BadStates.{IsRunningPlaced, ArePlaced}
use Rattle.place_sorts.specs.Laws.{ResultsStayInts, BranchesStayInts}
use Rattle.place_sorts.specs.Growing.{AreWaiting, WaitBelow}
use Rattle.place_sorts.proofs.Keeping.{KeepsSorts, locals_kept, fields_kept, stack_kept}
use Rattle.place_sorts.proofs.Landing.{sort_of_want, pop, left_typed}
use Rattle.place_sorts.proofs.Spots.{Spot, StandsAt, Statics, Grows, GrowsPlan, Comes, lands, stack_lands, some_frame}
use Rattle.place_sorts.proofs.Spots.{goes_grows, pushes_grows, acts}
use Rattle.place_sorts.proofs.IntRows.{PlacesInt, operator_grows, kinds_grow, branches_grow, switch_grows, each_among, parts_lead}
use Rattle.place_sorts.proofs.IntRows.{table_lead, lookup_lead}

-- ---- lists

front_get : {A : Type 0} (count : ℕ) (xs : List A) (n : ℕ) (x : A) → slice_get (take count xs) n ≡ Some x → slice_get xs n ≡ Some x
front_get zero xs n x e = absurd (none-some x e)
front_get (suc count) [] n x e = absurd (none-some x e)
front_get (suc count) (y ∷ xs) zero x e = e
front_get (suc count) (y ∷ xs) (suc n) x e = front_get count xs n x e

back_get_at : {A : Type 0} (n : ℕ) (xs : List A) (k j : ℕ) → j ≡ n + k → slice_get (drop n xs) k ≡ slice_get xs j
back_get_at zero xs k j e = ap (slice_get xs) (omega (arith, e))
back_get_at (suc n) [] k j e = refl
back_get_at (suc n) (x ∷ xs) k zero e = absurd (omega (arith, e))
back_get_at (suc n) (x ∷ xs) k (suc j) e = back_get_at n xs k j (omega (arith, e))

back_get : {A : Type 0} (n : ℕ) (xs : List A) (k : ℕ) → slice_get (drop n xs) k ≡ slice_get xs (n + k)
back_get n xs k = back_get_at n xs k (n + k) refl

got_mapped : {A B : Type 0} (f : A → B) (xs : List A) (n : ℕ) (x : A) → slice_get xs n ≡ Some x → slice_get (map f xs) n ≡ Some (f x)
got_mapped f [] n x e = absurd (none-some x e)
got_mapped f (y ∷ xs) zero x e = ap (λ z. Some (f z)) (some_is e)
got_mapped f (y ∷ xs) (suc n) x e = got_mapped f xs n x e

take_set : {A : Type 0} (count n : ℕ) (xs : List A) (v : A) → take count (slice_set xs n v) ≡ slice_set (take count xs) n v
take_set zero n xs v = refl
take_set (suc count) n [] v = refl
take_set (suc count) zero (x ∷ xs) v = refl
take_set (suc count) (suc n) (x ∷ xs) v = ap (λ ys. x ∷ ys) (take_set count n xs v)

drop_set_front : {A : Type 0} (count n : ℕ) (xs : List A) (v : A) → n < count → drop count (slice_set xs n v) ≡ drop count xs
drop_set_front zero n xs v l = absurd (omega (arith, l))
drop_set_front (suc count) n [] v l = refl
drop_set_front (suc count) zero (x ∷ xs) v l = refl
drop_set_front (suc count) (suc n) (x ∷ xs) v l = drop_set_front count n xs v (omega (arith, l))

take_set_back_at : {A : Type 0} (count n j : ℕ) (xs : List A) (v : A) → j ≡ count + n → take count (slice_set xs j v) ≡ take count xs
take_set_back_at zero n j xs v e = refl
take_set_back_at (suc count) n j [] v e = refl
take_set_back_at (suc count) n zero (x ∷ xs) v e = absurd (omega (arith, e))
take_set_back_at (suc count) n (suc j) (x ∷ xs) v e = ap (λ ys. x ∷ ys) (take_set_back_at count n j xs v (omega (arith, e)))

take_set_back : {A : Type 0} (count n : ℕ) (xs : List A) (v : A) → take count (slice_set xs (count + n) v) ≡ take count xs
take_set_back count n xs v = take_set_back_at count n (count + n) xs v refl

drop_set_back_at : {A : Type 0} (count n j : ℕ) (xs : List A) (v : A) → j ≡ count + n
    → drop count (slice_set xs j v) ≡ slice_set (drop count xs) n v
drop_set_back_at zero n j xs v e = ap (λ (k : ℕ). slice_set xs k v) (omega (arith, e))
drop_set_back_at (suc count) n j [] v e = refl
drop_set_back_at (suc count) n zero (x ∷ xs) v e = absurd (omega (arith, e))
drop_set_back_at (suc count) n (suc j) (x ∷ xs) v e = drop_set_back_at count n j xs v (omega (arith, e))

drop_set_back : {A : Type 0} (count n : ℕ) (xs : List A) (v : A) → drop count (slice_set xs (count + n) v) ≡ slice_set (drop count xs) n v
drop_set_back count n xs v = drop_set_back_at count n (count + n) xs v refl

-- ---- places

int_place : (place : PlaceType) → is_int_place place ≡ true → place ≡ places.Int
int_place places.Unset e = absurd (false≢true e)
int_place places.Int e = refl
int_place places.Null e = absurd (false≢true e)
int_place (places.Ref t) e = absurd (false≢true e)

-- ---- reordered stacks

reordered : (state : AbstractState) (shuffle : StackShuffle) (before after : List PlaceType) (stack new : List ℕ)
    → HasStackOf state before stack → shuffled shuffle before ≡ Some after → shuffled shuffle stack ≡ Some new
    → HasStackOf state after new
reordered state shuffles.Pop (p ∷ ps) after (a ∷ s) new h e f = subst (HasStackOf state after) (some_is f)
    (subst (λ ts. HasStackOf state ts s) (some_is e) h.1)
reordered state shuffles.Pop2 (p ∷ q ∷ ps) after (a ∷ b ∷ s) new h e f = subst (HasStackOf state after) (some_is f)
    (subst (λ ts. HasStackOf state ts s) (some_is e) h.1.1)
reordered state shuffles.Dup (p ∷ ps) after (a ∷ s) new h e f = subst (HasStackOf state after) (some_is f)
    (subst (λ ts. HasStackOf state ts (a ∷ a ∷ s)) (some_is e) (h.0, h))
reordered state shuffles.DupX1 (p ∷ q ∷ ps) after (a ∷ b ∷ s) new h e f = subst (HasStackOf state after) (some_is f)
    (subst (λ ts. HasStackOf state ts (a ∷ b ∷ a ∷ s)) (some_is e) (h.0, (h.1.0, (h.0, h.1.1))))
reordered state shuffles.DupX2 (p ∷ q ∷ r ∷ ps) after (a ∷ b ∷ c ∷ s) new h e f =
    subst (HasStackOf state after) (some_is f)
    (subst (λ ts. HasStackOf state ts (a ∷ b ∷ c ∷ a ∷ s)) (some_is e) (h.0, (h.1.0, (h.1.1.0, (h.0, h.1.1.1)))))
reordered state shuffles.Dup2 (p ∷ q ∷ ps) after (a ∷ b ∷ s) new h e f = subst (HasStackOf state after) (some_is f)
    (subst (λ ts. HasStackOf state ts (a ∷ b ∷ a ∷ b ∷ s)) (some_is e) (h.0, (h.1.0, h)))
reordered state shuffles.Dup2X1 (p ∷ q ∷ r ∷ ps) after (a ∷ b ∷ c ∷ s) new h e f =
    subst (HasStackOf state after) (some_is f)
    (subst (λ ts. HasStackOf state ts (a ∷ b ∷ c ∷ a ∷ b ∷ s)) (some_is e) (h.0, (h.1.0, (h.1.1.0, (h.0, (h.1.0, h.1.1.1))))))
reordered state shuffles.Dup2X2 (p ∷ q ∷ r ∷ t ∷ ps) after (a ∷ b ∷ c ∷ d ∷ s) new h e f =
    subst (HasStackOf state after) (some_is f)
    (subst (λ ts. HasStackOf state ts (a ∷ b ∷ c ∷ d ∷ a ∷ b ∷ s)) (some_is e)
    (h.0, (h.1.0, (h.1.1.0, (h.1.1.1.0, (h.0, (h.1.0, h.1.1.1.1)))))))
reordered state shuffles.Swap (p ∷ q ∷ ps) after (a ∷ b ∷ s) new h e f = subst (HasStackOf state after) (some_is f)
    (subst (λ ts. HasStackOf state ts (b ∷ a ∷ s)) (some_is e) (h.1.0, (h.0, h.1.1)))
reordered state shuffle before after stack new h e f = search (none-some, h, e, f)

-- ---- static fields

-- the bottom one of frames
abbrev last_of : AbstractFrame → List AbstractFrame → AbstractFrame
last_of frame [] = frame
last_of frame (next ∷ rest) = last_of next rest

first_reversed : (frame : AbstractFrame) (lower more : List AbstractFrame) (other : AbstractFrame)
    → slice_index_or (reverse (frame ∷ lower) ++ more) 0 other ≡ last_of frame lower
first_reversed frame [] more other = refl
first_reversed frame (next ∷ rest) more other =
    ap (λ (fs : List AbstractFrame). slice_index_or (fs ++ more) 0 other) (reverse-append (frame ∷ []) (next ∷ rest))
    ∙ ap (λ (fs : List AbstractFrame). slice_index_or fs 0 other) (append_assoc (reverse (next ∷ rest)) (frame ∷ []) more)
    ∙ first_reversed next rest (frame ∷ more) other

bottom_is : (frame : AbstractFrame) (lower : List AbstractFrame) (other : AbstractFrame)
    → slice_index_or (reverse (frame ∷ lower)) 0 other ≡ last_of frame lower
bottom_is frame lower other = ap (λ (fs : List AbstractFrame). slice_index_or fs 0 other)
    (sym (append-nil (reverse (frame ∷ lower)))) ∙ first_reversed frame lower [] other

abbrev all_statics : Program → List Slot
all_statics p = map (λ (field : StaticField). field.slot) p.statics

module _ (p : Program) (typing : ℕ → CodeTypes) (state : AbstractState) where
  method_locals : (number : ℕ) (m : Method) → slice_get p.methods number ≡ Some m → locals_of_method p number ≡ m.max_locals
  method_locals number m e = ap (λ (o : Option Method). option_map_or (λ (x : Method). x.max_locals) o 0) e

  -- what stands for a static field in the bottom frame
  bottom_has : (frame : AbstractFrame) (there : PlaceTypes) → IsPlaced p typing state (all_statics p) frame there
      → (place : ℕ) (field : StaticField) → slice_get p.statics place ≡ Some field → (x : ℕ)
      → slice_get frame.locals (locals_of_method p frame.method + place) ≡ Some (Some x) → IsOfField state field.slot (Some x)
  bottom_has frame there placed place field e x given =
      let max = placed.method.max_locals in
      let found = zip_get (IsOfField state) (all_statics p) (drop max frame.locals) place field.slot placed.fields
      (got_mapped (λ (f : StaticField). f.slot) p.statics place field e) in
      let same : found.other ≡ Some x =
      some_is (sym found.there ∙ back_get max frame.locals place ∙ ap (λ (n : ℕ). slice_get frame.locals (n + place))
      (sym (method_locals frame.method placed.method placed.is_method)) ∙ given) in
      subst (IsOfField state field.slot) same found.alike

  callers_bottom : (frame : AbstractFrame) (lower : List AbstractFrame) → AreCallersPlaced p typing state (frame ∷ lower)
      → (place : ℕ) (field : StaticField) → slice_get p.statics place ≡ Some field → (x : ℕ)
      → slice_get (last_of frame lower).locals (locals_of_method p (last_of frame lower).method + place) ≡ Some (Some x)
      → IsOfField state field.slot (Some x)
  callers_bottom frame [] h = bottom_has frame h.0.there h.0.placed
  callers_bottom frame (next ∷ rest) h = callers_bottom next rest h.1

  pub frames_bottom : (frame : AbstractFrame) (lower : List AbstractFrame) (there : PlaceTypes)
      → IsPlaced p typing state (statics_under p lower) frame there → AreCallersPlaced p typing state lower
      → (place : ℕ) (field : StaticField) → slice_get p.statics place ≡ Some field → (x : ℕ)
      → slice_get (last_of frame lower).locals (locals_of_method p (last_of frame lower).method + place) ≡ Some (Some x)
      → IsOfField state field.slot (Some x)
  frames_bottom frame [] there placed h = bottom_has frame there placed
  frames_bottom frame (next ∷ rest) there placed h = callers_bottom next rest h

  -- a frame with another id for a static field
  placed_with : (frame : AbstractFrame) (there : PlaceTypes) → IsPlaced p typing state (all_statics p) frame there
      → (place : ℕ) (field : StaticField) → slice_get p.statics place ≡ Some field → (n x : ℕ)
      → n ≡ locals_of_method p frame.method + place → IsOfField state field.slot (Some x)
      → IsPlaced p typing state (all_statics p) (record frame { locals = slice_set frame.locals n (Some x) }) there
  placed_with frame there placed place field e n x at h =
      let max = placed.method.max_locals in
      let there_is : n ≡ max + place = at ∙ ap (λ (k : ℕ). k + place) (method_locals frame.method placed.method placed.is_method) in
      record {
        method = placed.method;
        is_method = placed.is_method;
        is_there = placed.is_there;
        count = length-set frame.locals n (Some x) ∙ placed.count;
        locals =
            subst (AllZip (IsOfPlace state) there.locals)
            (sym (ap (λ (k : ℕ). take max (slice_set frame.locals k (Some x))) there_is
            ∙ take_set_back max place frame.locals (Some x))) placed.locals;
        fields =
            subst (AllZip (IsOfField state) (all_statics p))
            (sym (ap (λ (k : ℕ). drop max (slice_set frame.locals k (Some x))) there_is
            ∙ drop_set_back max place frame.locals (Some x)))
            (zip_set_right (IsOfField state) (all_statics p) (drop max frame.locals) place field.slot (Some x) placed.fields
            (got_mapped (λ (f : StaticField). f.slot) p.statics place field e) h);
      }

  under_same : (n x : ℕ) (next : AbstractFrame) (rest : List AbstractFrame) → statics_under p (bottom_with n x (next ∷ rest)) ≡ []
  under_same n x next [] = refl
  under_same n x next (more ∷ rest) = refl

  module _ (place : ℕ) (field : StaticField) (e : slice_get p.statics place ≡ Some field) (n x : ℕ)
      (h : IsOfField state field.slot (Some x)) where
    callers_with : (frame : AbstractFrame) (lower : List AbstractFrame) → n ≡ locals_of_method p (last_of frame lower).method +
        place → AreCallersPlaced p typing state (frame ∷ lower)
        → AreCallersPlaced p typing state (bottom_with n x (frame ∷ lower))
    callers_with frame [] at c =
        (record { there = c.0.there; placed = placed_with frame c.0.there c.0.placed place field e n x at h; stack = c.0.stack }, tt)
    callers_with frame (next ∷ rest) at c = (
      subst (λ (statics : List Slot). IsCallerPlaced p typing state statics frame) (sym (under_same n x next rest)) c.0,
      callers_with next rest at c.1,
    )

    pub frames_with : (frame : AbstractFrame) (lower : List AbstractFrame) → n ≡ locals_of_method p (last_of frame lower).method +
        place → ArePlaced p typing state (frame ∷ lower)
        → ArePlaced p typing state (bottom_with n x (frame ∷ lower))
    frames_with frame [] at c =
        (record { there = c.0.there; placed = placed_with frame c.0.there c.0.placed place field e n x at h; stack = c.0.stack }, tt)
    frames_with frame (next ∷ rest) at c = (
      subst (λ (statics : List Slot). IsRunningPlaced p typing state statics frame) (sym (under_same n x next rest)) c.0,
      callers_with next rest at c.1,
    )

  waiting_with : (n x callee : ℕ) (frames : List AbstractFrame) → AreWaiting p callee frames → AreWaiting p callee (bottom_with n x frames)
  waiting_with n x callee [] w = tt
  waiting_with n x callee (frame ∷ []) w = (record { op = w.0.op; stands = w.0.stands; runs = w.0.runs }, tt)
  waiting_with n x callee (frame ∷ next ∷ rest) w = (w.0, waiting_with n x frame.method (next ∷ rest) w.1)

  pub wait_with : (n x : ℕ) (frames : List AbstractFrame) → WaitBelow p frames → WaitBelow p (bottom_with n x frames)
  wait_with n x [] w = tt
  wait_with n x (frame ∷ []) w = tt
  wait_with n x (frame ∷ next ∷ rest) w = waiting_with n x frame.method (next ∷ rest) w

some_bottom : (n x : ℕ) (frames : List AbstractFrame) → (frames ≡ [] → ⊥) → bottom_with n x frames ≡ [] → ⊥
some_bottom n x [] h e = h refl
some_bottom n x (frame ∷ []) h e = cc
some_bottom n x (frame ∷ next ∷ rest) h e = cc

slot_field : (types : WorldTypes) (state : AbstractState) (slot : Slot) (x : ℕ) → HasCell (sort_of_want (want_of slot)) state x
    → IsOfField state slot (Some x)
slot_field types state (slots.Num kind) x h = h
slot_field types state (slots.Ref t) x h = h

field_place : (types : WorldTypes) (state : AbstractState) (slot : Slot) (x : ℕ) → IsOfField state slot (Some x)
    → IsOfPlace state (place_of types slot) (Some x)
field_place types state (slots.Num kind) x h = h
field_place types state (slots.Ref t) x h = h

-- a jump's place is among those of a form
first_among : (x : ℕ) (xs : List ℕ) → list_any (eqb x) (x ∷ xs) ≡ true
first_among x xs = or_left (eqb x x) (list_any (eqb x) xs) (eq-eqb x x refl)

-- ---- rows

module _ (typing : ℕ → CodeTypes) (here : Here) (spot : Spot typing here) (op : Op) where
  abbrev Types : WorldTypes
  Types = types_here here

  abbrev Stands : Form → Type 0
  Stands form = StandsAt typing here spot op form

  abbrev Plans : Plan → Type 0
  Plans = GrowsPlan typing here spot

  abbrev ComesTo : ℕ → List PlaceType → List PlaceType → Type 0
  ComesTo = Comes typing here spot

  abbrev Typed : List PlaceType → List ℕ → Type 0
  Typed = HasStackOf here.state

  -- types that come after a form, as they are
  comes_as : (form : Form) (s : Stands form) (locals stack : List PlaceType) → record { locals = locals; stack = stack } ≡ s.after
      → falls form ≡ true → ComesTo here.next locals stack
  comes_as form s locals stack e f = subst
      (λ (after : PlaceTypes). Takes Types (typing here.frame.method) (record { to = here.next; frame = after })) (sym e) (s.next f)

  -- one step, where there is one
  pub pushed_grows : (found : Option ℕ) (place : PlaceType) (below : List PlaceType) (stack : List ℕ)
      → ComesTo here.next spot.there.locals (place ∷ below) → Typed below stack
      → ((x : ℕ) → found ≡ Some x → IsOfPlace here.state place (Some x))
      → Plans (step_if (option_map (λ x. goes_on here here.next (x ∷ stack)) found))
  pushed_grows None place below stack to h is = tt
  pushed_grows (Some x) place below stack to h is =
      (goes_grows typing here spot here.next (place ∷ below) (x ∷ stack) to (is x refl, h), tt)

  pub need_null_grows : (x : ℕ) (plan : Plan) → Plans plan → Plans (need_null here.state x plan)
  need_null_grows x plan h = if_either Plans (may_be_null (cell_at here.state x)) (by_null x) plan (λ _. tt) (λ _. h)

  -- ---- constants

  pub nop_grows : Stands Nop → Plans (row_of here Nop)
  nop_grows s = (
    goes_grows typing here spot here.next spot.there.stack here.frame.stack
        (comes_as Nop s spot.there.locals spot.there.stack (some_is s.types_are) refl) spot.stack,
    tt,
  )

  pub null_grows : Stands AconstNull → Plans (row_of here AconstNull)
  null_grows s =
      let a = acts typing here spot op AconstNull s [] (Some places.Null) s.types_are in (
        pushes_grows typing here spot [] no_rows (makes cells.Null) here.next places.Null a.below here.frame.stack tt
            ((λ after keeps. tt), tt) (λ after x made. made) (a.next refl)
            (left_typed Types here.state a.below spot.there.stack here.frame.stack a.taken_is spot.stack),
        tt,
      )

  pub constant_grows : (n : ℤ) → Stands (Iconst n) → Plans (row_of here (Iconst n))
  constant_grows n s =
      let a = acts typing here spot op (Iconst n) s [] (Some places.Int) s.types_are in (
        pushes_grows typing here spot [] no_rows (makes (number_cell n)) here.next places.Int a.below here.frame.stack tt
            ((λ after keeps. (s.wide, s.wide)), tt) (λ after x made. made) (a.next refl)
            (left_typed Types here.state a.below spot.there.stack here.frame.stack a.taken_is spot.stack),
        tt,
      )

  -- ---- locals

  -- the id of a local is such as the typing says
  local_at : (n : ℕ) (place : PlaceType) (x : ℕ) → slice_get spot.there.locals n ≡ Some place → local_here here n ≡ Some x
      → IsOfPlace here.state place (Some x)
  local_at n place x e f =
      let max = spot.placed.method.max_locals in
      let given = then_some (λ (local : Option ℕ). local) (slice_get here.frame.locals n) x f in
      let found = zip_get (IsOfPlace here.state) spot.there.locals (take max here.frame.locals) n place spot.placed.locals e in
      let same : found.other ≡ Some x = some_is (sym (front_get max here.frame.locals n found.other found.there) ∙ given.1.0)
      ∙ given.1.1 in
      subst (IsOfPlace here.state place) same found.alike

  pub iload_grows : (n : ℕ) → Stands (Iload n) → Plans (row_of here (Iload n))
  unfolding iload_types
  iload_grows n s =
      let g = then_some _ (slice_get spot.there.locals n) s.after s.types_are in
      let k = then_some _ (asked (is_int_place g.0)) s.after g.1.1 in
      let int = int_place g.0 (asked_is (is_int_place g.0) k.0 k.1.0) in
      pushed_grows (local_here here n) places.Int spot.there.stack here.frame.stack
      (comes_as (Iload n) s spot.there.locals (places.Int ∷ spot.there.stack) (some_is k.1.1) refl) spot.stack
      (λ x f. local_at n places.Int x (g.1.0 ∙ ap Some int) f)

  pub aload_grows : (n : ℕ) → Stands (Aload n) → Plans (row_of here (Aload n))
  unfolding aload_types
  aload_grows n s =
      let g = then_some _ (slice_get spot.there.locals n) s.after s.types_are in
      let k = then_some _ (asked (is_reference_place g.0)) s.after g.1.1 in
      pushed_grows (local_here here n) g.0 spot.there.stack here.frame.stack
      (comes_as (Aload n) s spot.there.locals (g.0 ∷ spot.there.stack) (some_is k.1.1) refl) spot.stack
      (λ x f. local_at n g.0 x g.1.0 f)

  -- frames where a local is set to an id of a place's type
  pub set_lands : (to n : ℕ) (locals_ : List PlaceType) (place : PlaceType) (below : List PlaceType) (stack : List ℕ) (x : ℕ)
      → n < spot.placed.method.max_locals → ComesTo to locals_ below → (after : AbstractState)
      → KeepsSorts here.state after
      → AllZip (IsOfPlace after) locals_ (slice_set (take spot.placed.method.max_locals here.frame.locals) n (Some x))
      → HasStackOf after below stack → after.throwing ≡ None
      → ArePlaced here.program typing after (frames_at here to (slice_set here.frame.locals n (Some x)) stack)
  set_lands to n locals_ place below stack x l takes after keeps given has t =
      let max = spot.placed.method.max_locals in
      lands typing here spot to locals_ below (slice_set here.frame.locals n (Some x)) stack takes after keeps
      (length-set here.frame.locals n (Some x))
      (subst (AllZip (IsOfPlace after) locals_) (sym (take_set max n here.frame.locals (Some x))) given)
      (subst (AllZip (IsOfField after) (Statics typing here spot)) (sym (drop_set_front max n here.frame.locals (Some x) l))
      (fields_kept here.state after keeps (Statics typing here spot) (drop max here.frame.locals) spot.placed.fields)) has t

  stored_grows : (n : ℕ) (form : Form) (s : Stands form) (place : PlaceType) (below : List PlaceType) (stack : List ℕ) (x : ℕ)
      → falls form ≡ true
      → (if nat_lt n (length spot.there.locals) then Some (record { locals = slice_set spot.there.locals n place; stack = below })
      else None) ≡ Some s.after
      → IsOfPlace here.state place (Some x) → Typed below stack
      → Grows typing here spot (moves (frames_at here here.next (slice_set here.frame.locals n (Some x)) stack))
  stored_grows n form s place below stack x f e is h =
      let g = cond_guarded (nat_lt n (length spot.there.locals))
      (Some (record { locals = slice_set spot.there.locals n place; stack = below })) s.after e in
      let low : n < length spot.there.locals = ltb-true n (length spot.there.locals) g.0 in
      let max = spot.placed.method.max_locals in
      let within : n < max = omega (arith, low, spot.limits.proper.count) in
      record {
        changed = tt;
        act = tt;
        placed = λ after y keeps made t.
            set_lands here.next n (slice_set spot.there.locals n place) place below stack x within
            (comes_as form s (slice_set spot.there.locals n place) below (some_is g.1) f) after keeps
            (zip_set (IsOfPlace after) spot.there.locals (take max here.frame.locals) n place (Some x)
            (locals_kept here.state after keeps spot.there.locals (take max here.frame.locals) spot.placed.locals)
            (locals_kept here.state after keeps (place ∷ []) (Some x ∷ []) (is, tt)).0)
            (stack_kept here.state after keeps below stack h) t;
        waiting = spot.waiting;
        framed = some_frame typing here spot here.next (slice_set here.frame.locals n (Some x)) stack;
        thrown = λ y q. absurd (none-some y q);
      }

  pub istore_grows : (n : ℕ) → Stands (Istore n) → Plans (row_of here (Istore n))
  unfolding istore_types
  istore_grows n s =
      let g = then_some _ (taken Types (wants.Int ∷ []) spot.there.stack) s.after s.types_are in
      by g.0 g.1.0 g.1.1 here.frame.stack spot.stack
    where
      by : (below : List PlaceType) → taken Types (wants.Int ∷ []) spot.there.stack ≡ Some below
          → (if nat_lt n (length spot.there.locals) then Some
          (record { locals = slice_set spot.there.locals n places.Int; stack = below }) else None) ≡ Some s.after
          → (stack : List ℕ) → Typed spot.there.stack stack → Plans (store_plan here n stack)
      by below e f [] h = tt
      by below e f (x ∷ stack) h =
          let one = pop Types here.state wants.Int [] below spot.there.stack x stack e h in (
            stored_grows n (Istore n) s places.Int below stack x refl f one.sort
                (left_typed Types here.state below one.under stack one.others one.typed),
            tt,
          )

  pub astore_grows : (n : ℕ) → Stands (Astore n) → Plans (row_of here (Astore n))
  unfolding astore_types
  astore_grows n s =
      let g = then_some _ (top_place spot.there.stack) s.after s.types_are in
      let k = then_some _ (asked (is_reference_place g.0.0)) s.after g.1.1 in
      by spot.there.stack g.0 g.1.0 k.1.1 here.frame.stack spot.stack
    where
      by : (wanted : List PlaceType) (top : PlaceType × List PlaceType) → top_place wanted ≡ Some top
          → (if nat_lt n (length spot.there.locals) then Some
          (record { locals = slice_set spot.there.locals n top.0; stack = top.1 }) else None) ≡ Some s.after
          → (stack : List ℕ) → Typed wanted stack → Plans (store_plan here n stack)
      by wanted top e f [] h = tt
      by [] top e f (x ∷ stack) h = absurd h
      by (place ∷ under) top e f (x ∷ stack) h =
          let same : (place, under) ≡ top = some_is e in (
            stored_grows n (Astore n) s top.0 top.1 stack x refl f
                (subst (λ (t : PlaceType × List PlaceType). IsOfPlace here.state t.0 (Some x)) same h.0)
                (subst (λ (t : PlaceType × List PlaceType). Typed t.1 stack) same h.1),
            tt,
          )

  pub iinc_grows : ResultsStayInts → (n : ℕ) (by : ℤ) → Stands (Iinc n by) → Plans (row_of here (Iinc n by))
  unfolding iinc_types
  iinc_grows stay n by s =
      let g = then_some _ (slice_get spot.there.locals n) s.after s.types_are in
      let k = then_some _ (asked (is_int_place g.0)) s.after g.1.1 in
      let int = int_place g.0 (asked_is (is_int_place g.0) k.0 k.1.0) in
      let given : slice_get spot.there.locals n ≡ Some places.Int = g.1.0 ∙ ap Some int in
      at given (comes_as (Iinc n by) s spot.there.locals spot.there.stack (some_is k.1.1) refl) (local_here here n) refl
    where
      max : ℕ
      max = spot.placed.method.max_locals

      low_place : (wanted : List PlaceType) (k : ℕ) (place : PlaceType) → slice_get wanted k ≡ Some place → k < length wanted
      low_place [] k place e = absurd (none-some place e)
      low_place (p ∷ wanted) zero place e = omega arith
      low_place (p ∷ wanted) (suc k) place e = let l = low_place wanted k place e in omega (arith, l)

      at : slice_get spot.there.locals n ≡ Some places.Int → ComesTo here.next spot.there.locals spot.there.stack
          → (found : Option ℕ) → local_here here n ≡ found → Plans (increment_plan here n by found)
      at given takes None e = tt
      at given takes (Some x) e =
          let low = low_place spot.there.locals n places.Int given in
          let within : n < max = omega (arith, low, spot.limits.proper.count) in
          operator_grows typing here spot stay Add (id x) (known by) (with_stack here here.next here.frame.stack) (in_local n)
          (local_at n places.Int x given e) (increment_int by s.wide) (record {
            placed = λ after y keeps made t.
                set_lands here.next n spot.there.locals places.Int spot.there.stack here.frame.stack y within takes after keeps
                (zip_set_right (IsOfPlace after) spot.there.locals (take max here.frame.locals) n places.Int (Some y)
                (locals_kept here.state after keeps spot.there.locals (take max here.frame.locals) spot.placed.locals) given made)
                (stack_kept here.state after keeps spot.there.stack here.frame.stack spot.stack) t;
            waiting = spot.waiting;
            framed = some_frame typing here spot here.next here.frame.locals here.frame.stack;
          }) (λ changed r. tt)

  pub shuffle_grows : (shuffle : StackShuffle) → Stands (Shuffle shuffle) → Plans (row_of here (Shuffle shuffle))
  unfolding shuffle_types
  shuffle_grows shuffle s =
      let g = then_some _ (shuffled shuffle spot.there.stack) s.after s.types_are in
      if_there (Grows typing here spot) (option_map (goes_on here here.next) (shuffled shuffle here.frame.stack)) (λ turn e.
      let m = map_some (goes_on here here.next) (shuffled shuffle here.frame.stack) turn e in
      subst (Grows typing here spot) m.1.1
      (goes_grows typing here spot here.next g.0 m.0 (comes_as (Shuffle shuffle) s spot.there.locals g.0 (some_is g.1.1) refl)
      (reordered here.state shuffle spot.there.stack g.0 here.frame.stack m.0 spot.stack g.1.0 m.1.0)))

  -- ---- ints on the stack

  -- a fresh int goes on the stack
  stack_int : (below : List PlaceType) (stack : List ℕ) → ComesTo here.next spot.there.locals (places.Int ∷ below)
      → Typed below stack → PlacesInt typing here spot (with_stack here here.next stack) on_stack
  stack_int below stack takes h = record {
    placed = λ after y keeps made t. stack_lands typing here spot here.next (places.Int ∷ below) (y ∷ stack) takes after keeps
        (made, stack_kept here.state after keeps below stack h) t;
    waiting = spot.waiting;
    framed = some_frame typing here spot here.next here.frame.locals stack;
  }

  pub arith_grows : ResultsStayInts → (operator : IntOp) → Stands (Arith operator) → Plans (row_of here (Arith operator))
  arith_grows stay operator s = by here.frame.stack spot.stack
    where
      by : (stack : List ℕ) → Typed spot.there.stack stack
          → Plans (binary stack (λ a b rest. steps (turns_of here operator (id a) (id b) (with_stack here here.next rest) on_stack)))
      by [] h = tt
      by (b ∷ []) h = tt
      by (b ∷ a ∷ rest) h =
          let k = acts typing here spot op (Arith operator) s (wants.Int ∷ wants.Int ∷ []) (Some places.Int) s.types_are in
          let one = pop Types here.state wants.Int (wants.Int ∷ []) k.below spot.there.stack b (a ∷ rest) k.taken_is h in
          let two = pop Types here.state wants.Int [] k.below one.under a rest one.others one.typed in
          operator_grows typing here spot stay operator (id a) (id b) (with_stack here here.next rest) on_stack two.sort one.sort
          (stack_int k.below rest (k.next refl) (left_typed Types here.state k.below two.under rest two.others two.typed))
          (λ changed r. tt)

  pub negation_grows : ResultsStayInts → Stands Ineg → Plans (row_of here Ineg)
  negation_grows stay s = by here.frame.stack spot.stack
    where
      by : (stack : List ℕ) → Typed spot.there.stack stack → Plans (negation_plan here stack)
      by [] h = tt
      by (a ∷ rest) h =
          let k = acts typing here spot op Ineg s (wants.Int ∷ []) (Some places.Int) s.types_are in
          let one = pop Types here.state wants.Int [] k.below spot.there.stack a rest k.taken_is h in
          operator_grows typing here spot stay Sub (known (pos 0)) (id a) (with_stack here here.next rest) on_stack
          (omega (arith, ints), omega (arith, ints)) one.sort
          (stack_int k.below rest (k.next refl) (left_typed Types here.state k.below one.under rest one.others one.typed))
          (λ changed r. tt)

  pub narrow_grows : ResultsStayInts → (kind : Kind) → Stands (Narrow kind) → Plans (row_of here (Narrow kind))
  narrow_grows stay kind s = by here.frame.stack spot.stack
    where
      by : (stack : List ℕ) → Typed spot.there.stack stack → Plans (narrow_plan here kind stack)
      by [] h = tt
      by (a ∷ rest) h =
          let k = acts typing here spot op (Narrow kind) s (wants.Int ∷ []) (Some places.Int) s.types_are in
          let one = pop Types here.state wants.Int [] k.below spot.there.stack a rest k.taken_is h in
          let under = left_typed Types here.state k.below one.under rest one.others one.typed in
          kinds_grow typing here spot stay kind a (goes_on here here.next (a ∷ rest)) (with_stack here here.next rest) on_stack
          (goes_grows typing here spot here.next (places.Int ∷ k.below) (a ∷ rest) (k.next refl) (one.sort, under))
          (stack_int k.below rest (k.next refl) under) (λ r. tt)

  pub zero_grows : BranchesStayInts → (cond : Cond) (place : ℕ) → Stands (If cond place) → Plans (row_of here (If cond place))
  zero_grows stay cond place s = by here.frame.stack spot.stack
    where
      by : (stack : List ℕ) → Typed spot.there.stack stack
          → Plans (unary stack (λ a rest. steps (branches here cond (id a) (known (pos 0)) place rest false)))
      by [] h = tt
      by (a ∷ rest) h =
          let k = acts typing here spot op (If cond place) s (wants.Int ∷ []) None s.types_are in
          let one = pop Types here.state wants.Int [] k.below spot.there.stack a rest k.taken_is h in
          branches_grow typing here spot stay cond (id a) (known (pos 0)) place k.below rest false one.sort
          (omega (arith, ints), omega (arith, ints)) (k.next refl) (k.jump place (first_among place []))
          (left_typed Types here.state k.below one.under rest one.others one.typed)

  pub two_grow : BranchesStayInts → (cond : Cond) (place : ℕ) → Stands (IfIcmp cond place) → Plans (row_of here (IfIcmp cond place))
  two_grow stay cond place s = by here.frame.stack spot.stack
    where
      by : (stack : List ℕ) → Typed spot.there.stack stack
          → Plans (binary stack (λ a b rest. steps (branches here cond (id a) (id b) place rest true)))
      by [] h = tt
      by (b ∷ []) h = tt
      by (b ∷ a ∷ rest) h =
          let k = acts typing here spot op (IfIcmp cond place) s (wants.Int ∷ wants.Int ∷ []) None s.types_are in
          let one = pop Types here.state wants.Int (wants.Int ∷ []) k.below spot.there.stack b (a ∷ rest) k.taken_is h in
          let two = pop Types here.state wants.Int [] k.below one.under a rest one.others one.typed in
          branches_grow typing here spot stay cond (id a) (id b) place k.below rest true two.sort one.sort (k.next refl)
          (k.jump place (first_among place []))
          (left_typed Types here.state k.below two.under rest two.others two.typed)

  -- ---- switches and jumps

  switched : (form : Form) (s : Stands form) (k : List PlaceType) → taken Types (wants.Int ∷ []) spot.there.stack ≡ Some k
      → (default : ℕ) (keys : List (ℤ × ℕ)) → ComesTo default spot.there.locals k
      → AllByRecursion (λ (key : ℤ × ℕ). ComesTo key.1 spot.there.locals k) keys → (stack : List ℕ) → Typed spot.there.stack stack
      → Plans (switch_plan here default keys stack)
  switched form s k e default keys d a [] h = tt
  switched form s k e default keys d a (x ∷ rest) h =
      let one = pop Types here.state wants.Int [] k spot.there.stack x rest e h in
      switch_grows typing here spot x k rest (parts_of default keys) one.sort
      (left_typed Types here.state k one.under rest one.others one.typed)
      (parts_lead (λ (to : ℕ). ComesTo to spot.there.locals k) default d keys _ a)

  pub table_grows : (default : ℕ) (low : ℤ) (targets : List ℕ) → Stands (Tableswitch default low targets)
      → Plans (row_of here (Tableswitch default low targets))
  table_grows default low targets s =
      let k = acts typing here spot op (Tableswitch default low targets) s (wants.Int ∷ []) None s.types_are in
      let P : ℕ → Type 0 = λ to. ComesTo to spot.there.locals k.below in
      let all : AllByRecursion P (default ∷ (targets ++ [])) = each_among P (default ∷ (targets ++ [])) k.jump in
      switched (Tableswitch default low targets) s k.below k.taken_is default (table_keys low targets) all.0
      (table_lead P targets low (all_front P targets [] all.1)) here.frame.stack spot.stack

  pub lookup_grows : (default : ℕ) (cases : List Case) → Stands (Lookupswitch default cases)
      → Plans (row_of here (Lookupswitch default cases))
  lookup_grows default cases s =
      let k = acts typing here spot op (Lookupswitch default cases) s (wants.Int ∷ []) None s.types_are in
      let P : ℕ → Type 0 = λ to. ComesTo to spot.there.locals k.below in
      let all : AllByRecursion P (default ∷ map (λ (c : Case). c.target) cases) = each_among P
      (default ∷ map (λ (c : Case). c.target) cases) k.jump in
      switched (Lookupswitch default cases) s k.below k.taken_is default (lookup_keys cases) all.0 (lookup_lead P cases all.1)
      here.frame.stack spot.stack

  pub goto_grows : (place : ℕ) → Stands (Goto place) → Plans (row_of here (Goto place))
  goto_grows place s = (
    goes_grows typing here spot place spot.there.stack here.frame.stack
        (subst (λ (after : PlaceTypes). Takes Types (typing here.frame.method) (record { to = place; frame = after }))
        (sym (some_is s.types_are)) (s.jump place (first_among place []))) spot.stack,
    tt,
  )

  -- ---- tests of references

  jumped : (wanted is : Bool) (place : ℕ) (below : List PlaceType) (stack : List ℕ) → ComesTo here.next spot.there.locals below
      → ComesTo place spot.there.locals below → Typed below stack → Plans (jump_if here wanted is place stack)
  jumped wanted is place below stack next jump h =
      let test = if wanted then is else not is in (
        goes_grows typing here spot (if test then place else here.next) below stack
            (if_either (λ (n : ℕ). ComesTo n spot.there.locals below) test place here.next (λ _. jump) (λ _. next)) h,
        tt,
      )

  null_tested : (form : Form) (s : Stands form) (wanted : Bool) (place : ℕ) → falls form ≡ true
      → list_any (eqb place) (jumps form) ≡ true → acted Types (wants.Reference ∷ []) None spot.there ≡ Some s.after
      → (stack : List ℕ) → Typed spot.there.stack stack → Plans (null_plan here wanted place stack)
  null_tested form s wanted place f j e [] h = tt
  null_tested form s wanted place f j e (a ∷ rest) h =
      let k = acts typing here spot op form s (wants.Reference ∷ []) None e in
      let one = pop Types here.state wants.Reference [] k.below spot.there.stack a rest k.taken_is h in
      need_null_grows a _ (jumped wanted (is_null_here here a) place k.below rest (k.next f) (k.jump place j)
      (left_typed Types here.state k.below one.under rest one.others one.typed))

  pub ifnull_grows : (place : ℕ) → Stands (Ifnull place) → Plans (row_of here (Ifnull place))
  ifnull_grows place s = null_tested (Ifnull place) s true place refl (first_among place []) s.types_are here.frame.stack spot.stack

  pub ifnonnull_grows : (place : ℕ) → Stands (Ifnonnull place) → Plans (row_of here (Ifnonnull place))
  ifnonnull_grows place s = null_tested (Ifnonnull place) s false place refl (first_among place []) s.types_are here.frame.stack spot.stack

  equal_tested : (form : Form) (s : Stands form) (wanted : Bool) (place : ℕ) → falls form ≡ true → list_any (eqb place) (jumps form) ≡ true
      → acted Types (wants.Reference ∷ wants.Reference ∷ []) None spot.there ≡ Some s.after → (stack : List ℕ)
      → Typed spot.there.stack stack → Plans (equal_plan here wanted place stack)
  equal_tested form s wanted place f j e [] h = tt
  equal_tested form s wanted place f j e (b ∷ []) h = tt
  equal_tested form s wanted place f j e (b ∷ a ∷ rest) h =
      let k = acts typing here spot op form s (wants.Reference ∷ wants.Reference ∷ []) None e in
      let one = pop Types here.state wants.Reference (wants.Reference ∷ []) k.below spot.there.stack b (a ∷ rest) k.taken_is h in
      let two = pop Types here.state wants.Reference [] k.below one.under a rest one.others one.typed in
      let under = left_typed Types here.state k.below two.under rest two.others two.typed in
      let to : (is : Bool) → Plans (jump_if here wanted is place rest) = λ is. jumped wanted is place k.below rest (k.next f)
      (k.jump place j) under in
      if_either Plans (a == b) (jump_if here wanted true place rest) _ (λ _. to true) (λ _.
      need_null_grows a _ (need_null_grows b _ (
      if_either Plans (is_null_here here a && is_null_here here b) (jump_if here wanted true place rest) _ (λ _. to true) (λ _.
      if_either Plans (is_null_here here a || is_null_here here b) (jump_if here wanted false place rest) _ (λ _. to false) (λ _.
      if_either Plans (has a b here.state.eq) (by_equal a b) (jump_if here wanted false place rest) (λ _. tt) (λ _. to false))))))

  pub acmpeq_grows : (place : ℕ) → Stands (IfAcmpeq place) → Plans (row_of here (IfAcmpeq place))
  acmpeq_grows place s = equal_tested (IfAcmpeq place) s true place refl (first_among place []) s.types_are here.frame.stack spot.stack

  pub acmpne_grows : (place : ℕ) → Stands (IfAcmpne place) → Plans (row_of here (IfAcmpne place))
  acmpne_grows place s = equal_tested (IfAcmpne place) s false place refl (first_among place []) s.types_are here.frame.stack spot.stack

  -- ---- static fields

  bottom_here : bottom_of here ≡ last_of here.frame here.below
  bottom_here = bottom_is here.frame here.below here.frame

  pub getstatic_grows : (place : ℕ) → Stands (Getstatic place) → Plans (row_of here (Getstatic place))
  unfolding getstatic_types
  getstatic_grows place s =
      let g = then_some _ (static_slot here.program place) s.after s.types_are in
      let m = map_some (λ (field : StaticField). field.slot) (slice_get here.program.statics place) g.0 g.1.0 in
      let k = acts typing here spot op (Getstatic place) s [] (Some (place_of Types g.0)) g.1.1 in
      pushed_grows (option_and_then (λ local. local) (slice_get (bottom_of here).locals (static_local here place)))
      (place_of Types g.0) k.below here.frame.stack (k.next refl)
      (left_typed Types here.state k.below spot.there.stack here.frame.stack k.taken_is spot.stack) (λ x e.
      let given = then_some (λ (local : Option ℕ). local) (slice_get (bottom_of here).locals (static_local here place)) x e in
      let at : slice_get (last_of here.frame here.below).locals
      (locals_of_method here.program (last_of here.frame here.below).method + place) ≡ Some (Some x) =
      ap (λ (f : AbstractFrame). slice_get f.locals (locals_of_method here.program f.method + place)) (sym bottom_here) ∙ given.1.0
      ∙ ap Some given.1.1 in
      field_place Types here.state g.0 x
      (subst (λ (slot : Slot). IsOfField here.state slot (Some x)) m.1.1
      (frames_bottom here.program typing here.state here.frame here.below spot.there spot.placed spot.callers place m.0 m.1.0 x at)))

  last_moved : (frame other : AbstractFrame) (lower : List AbstractFrame) → frame.method ≡ other.method
      → (last_of frame lower).method ≡ (last_of other lower).method
  last_moved frame other [] e = e
  last_moved frame other (next ∷ rest) e = refl

  -- an id stands for a static field in the bottom frame
  static_lands : (place : ℕ) (field : StaticField) → slice_get here.program.statics place ≡ Some field
      → (below : List PlaceType) (stack : List ℕ) → ComesTo here.next spot.there.locals below → Typed below stack
      → (after : AbstractState) (x : ℕ) → KeepsSorts here.state after → IsOfField after field.slot (Some x) → after.throwing ≡ None
      → ArePlaced here.program typing after (bottom_with (static_local here place) x (with_stack here here.next stack))
  static_lands place field e below stack takes h after x keeps is t =
      frames_with here.program typing after place field e (static_local here place) x is
      (record { method = here.frame.method; pc = here.next; locals = here.frame.locals; stack = stack }) here.below
      (ap (λ (f : AbstractFrame). locals_of_method here.program f.method + place) bottom_here
      ∙ ap (λ (n : ℕ). locals_of_method here.program n + place)
      (last_moved here.frame (record { method = here.frame.method; pc = here.next; locals = here.frame.locals; stack = stack })
      here.below refl))
      (stack_lands typing here spot here.next below stack takes after keeps (stack_kept here.state after keeps below stack h) t)

  put_grows : ResultsStayInts → (place : ℕ) (field : StaticField) → slice_get here.program.statics place ≡ Some field
      → (slot : Slot) → field.slot ≡ slot → (below : List PlaceType) (stack : List ℕ) (x : ℕ)
      → ComesTo here.next spot.there.locals below → Typed below stack → HasCell (sort_of_want (want_of slot)) here.state x
      → Plans (put_static here slot (static_local here place) x stack)
  put_grows stay place field e slot q below stack x takes h is = by slot q is
    where
      n : ℕ
      n = static_local here place

      frames : List AbstractFrame
      frames = with_stack here here.next stack

      kept : (s : Slot) → field.slot ≡ s → HasCell (sort_of_want (want_of s)) here.state x
          → Grows typing here spot (moves (bottom_with n x frames))
      kept s same has = record {
        changed = tt;
        act = tt;
        placed = λ after y keeps made t.
            static_lands place field e below stack takes h after x keeps
            (fields_kept here.state after keeps (field.slot ∷ []) (Some x ∷ [])
            (subst (λ (k : Slot). IsOfField here.state k (Some x)) (sym same) (slot_field Types here.state s x has), tt)).0 t;
        waiting = wait_with here.program typing here.state n x frames spot.waiting;
        framed = some_bottom n x frames (some_frame typing here spot here.next here.frame.locals stack);
        thrown = λ y r. absurd (none-some y r);
      }

      by : (s : Slot) → field.slot ≡ s → HasCell (sort_of_want (want_of s)) here.state x → Plans (put_static here s n x stack)
      by (slots.Num kind) same has =
          kinds_grow typing here spot stay kind x (moves (bottom_with n x frames)) frames (in_bottom n)
          (kept (slots.Num kind) same has) (record {
            placed = λ after y keeps made t. static_lands place field e below stack takes h after y keeps
                (subst (λ (k : Slot). IsOfField after k (Some y)) (sym same) made) t;
            waiting = spot.waiting;
            framed = some_frame typing here spot here.next here.frame.locals stack;
          }) (λ r. tt)
      by (slots.Ref t) same has = (kept (slots.Ref t) same has, tt)

  pub putstatic_grows : ResultsStayInts → (place : ℕ) → Stands (Putstatic place) → Plans (row_of here (Putstatic place))
  unfolding putstatic_types
  putstatic_grows stay place s =
      let g = then_some _ (static_slot here.program place) s.after s.types_are in
      let m = map_some (λ (field : StaticField). field.slot) (slice_get here.program.statics place) g.0 g.1.0 in
      let k = acts typing here spot op (Putstatic place) s (want_of g.0 ∷ []) None g.1.1 in
      by g.0 m.0 m.1.0 m.1.1 k.below k.taken_is (k.next refl) here.frame.stack spot.stack
    where
      by : (slot : Slot) (field : StaticField) → slice_get here.program.statics place ≡ Some field → field.slot ≡ slot
          → (below : List PlaceType) → taken Types (want_of slot ∷ []) spot.there.stack ≡ Some below
          → ComesTo here.next spot.there.locals below → (stack : List ℕ) → Typed spot.there.stack stack
          → Plans (putstatic_plan here place stack)
      by slot field e q below t takes [] h = tt
      by slot field e q below t takes (x ∷ rest) h =
          let one = pop Types here.state (want_of slot) [] below spot.there.stack x rest t h in
          subst (λ (o : Option StaticField). Plans
          (option_map_or (λ (f : StaticField). put_static here f.slot (static_local here place) x rest) o no_child)) (sym e)
          (put_grows stay place field e field.slot refl below rest x takes
          (left_typed Types here.state below one.under rest one.others one.typed)
          (subst (λ (k : Slot). HasCell (sort_of_want (want_of k)) here.state x) (sym q) one.sort))
