-- The static fields where a state and a machine's state that fits it stand: their ids follow the locals of the bottom frame.
use Rattle.std.proofs.Common.{◌≡◌, ◌∙◌, ◌+◌, ℕ, zero, suc, List, [], ◌∷◌, ◌++◌, length, map, Option, Some, None, slice_get, refl}
use Rattle.std.proofs.Common.{sym, ap, append_assoc, true, arith}
use Rattle.std.specs.Prelude.{reverse, drop, slice_index_or}
use Rattle.std.specs.List.{AllZip}
use Rattle.std.specs.Option.{option_map_or}
use Rattle.std.proofs.lemmas.List.{reverse-append}
use Rattle.std.proofs.lemmas.Option.{none-some}
use Rattle.jvm_values.specs.declared.heap.Value.{Value}
use Rattle.jvm_values.specs.declared.heap.Heap.{Heap}
use Rattle.jvm_values.specs.declared.types.Slot.{Slot}
use Rattle.jvm_values.specs.declared.types.Slot.TheVariants as slots
use Rattle.jvm_values.specs.States.{MachineFrame, PlaceTypes}
use Rattle.jvm_values.proofs.Options.{some_is}
use Rattle.abs_cells.specs.AbstractStates.{AbstractFrame, AbstractState}
use Rattle.abs_cells.specs.Cells.{HasCell}
use Rattle.abs_cells.specs.Fits.{Meaning, FitsFrame, with_statics}
use Rattle.abs_expand.specs.ClassProgramMethod.{Method}
use Rattle.abs_expand.specs.ClassProgramStaticField.{StaticField}
use Rattle.abs_expand.specs.ClassProgramPrograms.{Program}
use Rattle.frame_types.specs.Tables.{CodeTypes}
use Rattle.jvm_run.specs.code_verify.TypedStates.{IsTypedFrame, AreCallers}
use Rattle.jvm_run.proofs.Lists.{zip_get}
use Rattle.abs_expand.specs.BadStates.{IsOfField, IsPlaced, AreCallersPlaced, statics_under}
use Rattle.abs_expand.specs.Table.{locals_of_method}
use Rattle.form_steps.proofs.Tops.{BottomHas, nothing_behind}

-- the bottom one of frames
abbrev pub last_of : AbstractFrame → List AbstractFrame → AbstractFrame
last_of frame [] = frame
last_of frame (next ∷ rest) = last_of next rest

first_reversed : (frame : AbstractFrame) (lower more : List AbstractFrame) (other : AbstractFrame)
    → slice_index_or (reverse (frame ∷ lower) ++ more) 0 other ≡ last_of frame lower
first_reversed frame [] more other = refl
first_reversed frame (next ∷ rest) more other =
    ap (λ (fs : List AbstractFrame). slice_index_or (fs ++ more) 0 other) (reverse-append (frame ∷ []) (next ∷ rest))
    ∙ ap (λ (fs : List AbstractFrame). slice_index_or fs 0 other) (append_assoc (reverse (next ∷ rest)) (frame ∷ []) more)
    ∙ first_reversed next rest (frame ∷ more) other

pub bottom_is : (frame : AbstractFrame) (lower : List AbstractFrame) (other : AbstractFrame)
    → slice_index_or (reverse (frame ∷ lower)) 0 other ≡ last_of frame lower
bottom_is frame lower other = ap (λ (fs : List AbstractFrame). slice_index_or fs 0 other)
    (sym (nothing_behind (reverse (frame ∷ lower)))) ∙ first_reversed frame lower [] other

-- a static field's id, and its value
pub record HasStatic (state : AbstractState) (meaning : Meaning) (statics : List Value) (locals : List (Option ℕ))
    (count place : ℕ) : Type 0 where
  pub id : ℕ
  pub own : HasCell (λ _. true) state id
  pub given : slice_get locals (count + place) ≡ Some (Some id)
  pub value_is : slice_get statics place ≡ Some (meaning id)

-- each static field has one, and the bottom frame has as many locals as its method
pub record StandsOnStatics (p : Program) (state : AbstractState) (meaning : Meaning) (statics : List Value) (bottom : AbstractFrame)
    (frames : List MachineFrame) : Type 0 where
  pub each : (place : ℕ) (field : StaticField) → slice_get p.statics place ≡ Some field
      → HasStatic state meaning statics bottom.locals (locals_of_method p bottom.method) place
  pub count : BottomHas (locals_of_method p bottom.method) frames

-- ---- lists

get_dropped : {A : Type 0} (n : ℕ) (xs : List A) (k j : ℕ) → j ≡ n + k → slice_get (drop n xs) k ≡ slice_get xs j
get_dropped zero xs k j at =
    let same : k ≡ j = omega (arith, at) in
    ap (λ (i : ℕ). slice_get xs i) same
get_dropped (suc n) [] k j at = refl
get_dropped (suc n) (x ∷ xs) k zero at = absurd (omega (arith, at))
get_dropped (suc n) (x ∷ xs) k (suc j) at = get_dropped n xs k j (omega (arith, at))

got_mapped : {A B : Type 0} (f : A → B) (xs : List A) (n : ℕ) (x : A) → slice_get xs n ≡ Some x → slice_get (map f xs) n ≡ Some (f x)
got_mapped f [] n x e = absurd (none-some x e)
got_mapped f (y ∷ xs) zero x e = ap (λ z. Some (f z)) (some_is e)
got_mapped f (y ∷ xs) (suc n) x e = got_mapped f xs n x e

unmapped_some : (list : List Value) (place : ℕ) (v : Value) → slice_get (map Some list) place ≡ Some (Some v)
    → slice_get list place ≡ Some v
unmapped_some [] place v e = absurd (none-some (Some v) e)
unmapped_some (w ∷ list) zero v e = some_is e
unmapped_some (w ∷ list) (suc place) v e = unmapped_some list place v e

-- what stands in the values after others
value_behind : (others : List (Option Value)) (list : List Value) (n place : ℕ) (v : Value) → n ≡ length others + place
    → slice_get (others ++ map Some list) n ≡ Some (Some v) → slice_get list place ≡ Some v
value_behind [] list n place v at e =
    let same : place ≡ n = omega (arith, at) in
    unmapped_some list place v (ap (λ (i : ℕ). slice_get (map Some list) i) same ∙ e)
value_behind (o ∷ others) list zero place v at e = absurd (omega (arith, at))
value_behind (o ∷ others) list (suc n) place v at e = value_behind others list n place v (omega (arith, at)) e

field_id : (state : AbstractState) (slot : Slot) (local : Option ℕ) → IsOfField state slot local → (x : ℕ)
    × ((local ≡ Some x) × HasCell (λ _. true) state x)
field_id state (slots.Num kind) (Some x) h = (x, (refl, record { cell = h.cell; is = h.is; sort_is = refl }))
field_id state (slots.Ref t) (Some x) h = (x, (refl, record { cell = h.cell; is = h.is; sort_is = refl }))
field_id state (slots.Num kind) None h = absurd h
field_id state (slots.Ref t) None h = absurd h

-- ---- frames

module _ (p : Program) (typing : ℕ → CodeTypes) (state : AbstractState) (meaning : Meaning) (heap : Heap) (statics : List Value) where
  -- the bottom frame
  at_bottom : (frame : AbstractFrame) (there : PlaceTypes) (running : MachineFrame) (own : PlaceTypes)
      → IsPlaced p typing state (map (λ (field : StaticField). field.slot) p.statics) frame there
      → IsTypedFrame p typing heap running own
      → FitsFrame meaning frame (record running { locals = running.locals ++ map Some statics })
      → StandsOnStatics p state meaning statics frame (running ∷ [])
  at_bottom frame there running own placed typed fit = record {
    each = λ place field e.
        let found = zip_get (IsOfField state) (map (λ (x : StaticField). x.slot) p.statics)
        (drop placed.method.max_locals frame.locals) place field.slot placed.fields
        (got_mapped (λ (x : StaticField). x.slot) p.statics place field e) in
        let id = field_id state field.slot found.other found.alike in
        let given : slice_get frame.locals (locals_of_method p frame.method + place) ≡ Some (Some id.0) = ap
        (λ (n : ℕ). slice_get frame.locals (n + place)) count_is
        ∙ sym (get_dropped placed.method.max_locals frame.locals place (placed.method.max_locals + place) refl) ∙ found.there
        ∙ ap Some id.1.0 in
        record {
          id = id.0;
          own = id.1.1;
          given = given;
          value_is = value_behind running.locals statics (locals_of_method p frame.method + place) place (meaning id.0)
              (ap (λ (n : ℕ). n + place) (sym same_count)) (fit.locals (locals_of_method p frame.method + place) id.0 given);
        };
    count = same_count;
  }
    where
      count_is : locals_of_method p frame.method ≡ placed.method.max_locals
      count_is = ap (λ (m : Option Method). option_map_or (λ (x : Method). x.max_locals) m 0) placed.is_method

      same_method : typed.method ≡ placed.method
      same_method = some_is (sym typed.is_method ∙ ap (slice_get p.methods) fit.method ∙ placed.is_method)

      same_count : length running.locals ≡ locals_of_method p frame.method
      same_count = typed.count ∙ ap (λ (m : Method). m.max_locals) same_method ∙ sym count_is

  -- frames below the running one
  below_it : (frame : AbstractFrame) (lower : List AbstractFrame) (callee : ℕ) (running : MachineFrame) (below : List MachineFrame)
      → AreCallersPlaced p typing state (frame ∷ lower) → AreCallers p typing heap callee (running ∷ below)
      → AllZip (FitsFrame meaning) (frame ∷ lower) (with_statics statics (running ∷ below))
      → StandsOnStatics p state meaning statics (last_of frame lower) (running ∷ below)
  below_it frame [] callee running [] placed typed fits = at_bottom frame placed.0.there running typed.0.there placed.0.placed
      typed.0.typed fits.0
  below_it frame [] callee running (next ∷ []) placed typed fits = absurd fits.1
  below_it frame [] callee running (next ∷ more ∷ rest) placed typed fits = absurd fits.1
  below_it frame (caller ∷ lower) callee running [] placed typed fits = absurd fits.1
  below_it frame (caller ∷ lower) callee running (next ∷ rest) placed typed fits =
      let under = below_it caller lower running.method next rest placed.1 typed.1 fits.1 in
      record { each = under.each; count = under.count }

  pub on_statics_of : (frame : AbstractFrame) (lower : List AbstractFrame) (there : PlaceTypes) (running : MachineFrame)
      (below : List MachineFrame) (own : PlaceTypes) → IsPlaced p typing state (statics_under p lower) frame there
      → AreCallersPlaced p typing state lower → IsTypedFrame p typing heap running own
      → AreCallers p typing heap running.method below
      → AllZip (FitsFrame meaning) (frame ∷ lower) (with_statics statics (running ∷ below))
      → StandsOnStatics p state meaning statics (last_of frame lower) (running ∷ below)
  on_statics_of frame [] there running [] own placed callers typed waiting fits = at_bottom frame there running own placed typed fits.0
  on_statics_of frame [] there running (next ∷ []) own placed callers typed waiting fits = absurd fits.1
  on_statics_of frame [] there running (next ∷ more ∷ rest) own placed callers typed waiting fits = absurd fits.1
  on_statics_of frame (caller ∷ lower) there running [] own placed callers typed waiting fits = absurd fits.1
  on_statics_of frame (caller ∷ lower) there running (next ∷ rest) own placed callers typed waiting fits =
      let under = below_it caller lower running.method next rest callers waiting fits.1 in
      record { each = under.each; count = under.count }
