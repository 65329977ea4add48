-- The state in which a run begins with what is given, and what a description that it fits says of that.
use Rattle.std.proofs.Common.{◌≡◌, ◌≢◌, ◌⊎◌, ◌<◌, ◌≤◌, ◌+◌, ◌-◌, ◌∙◌, ℕ, List, [], ◌∷◌, ◌++◌, length, map, replicate, slice_get, Option, Some}
use Rattle.std.proofs.Common.{None, inl, inr, refl, sym, ap, subst, arith, length-append}
use Rattle.std.specs.Prelude.{All}
use Rattle.std.specs.List.{AllZip}
use Rattle.std.proofs.lemmas.Bool.{cases_order}
use Rattle.std.proofs.lemmas.List.{length-map, length-replicate}
use Rattle.std.proofs.lemmas.List.Elements.{All-nil, All-cons, All-append}
use Rattle.std.proofs.lemmas.Option.{none-some, slice_get_within}
use Rattle.std.proofs.lemmas.Slice.Zip.{AllZip-long}
use Rattle.std.specs.Option.{option_map_or}
use Rattle.jvm_values.specs.declared.heap.Heap.{Heap}
use Rattle.jvm_values.specs.declared.heap.Value.{Value}
use Rattle.jvm_values.specs.declared.heap.Value.TheVariants as values
use Rattle.jvm_values.specs.declared.state.Mode.TheVariants.{Normal}
use Rattle.jvm_values.specs.declared.types.Slot.{Slot}
use Rattle.jvm_values.specs.declared.types.Slot.TheVariants as slots
use Rattle.jvm_values.specs.Heaps.{IsInHeap}
use Rattle.jvm_values.specs.States.{MachineFrame, MachineState, locals_from}
use Rattle.jvm_values.specs.TypedHeaps.{WorldTypes, Holds}
use Rattle.jvm_values.proofs.Options.{some_is}
use Rattle.jvm_values.proofs.Typed.{value_in_heap}
use Rattle.class_world.specs.WorldTypes.{types_of}
use Rattle.class_program.specs.declared.program.Method.{Method}
use Rattle.class_program.specs.Programs.{Program}
use Rattle.jvm_step.specs.Running.{new_frame, entered, start}
use Rattle.input_desc.specs.declared.desc.Desc.{Desc}
use Rattle.input_desc.specs.Fitting.{FitsDescription, IsListed}
use Rattle.input_desc.specs.Given.{params_of, statics_of, argument_slot}
use Rattle.input_desc.specs.States.{IsTypedInput}
use Rattle.input_fits.specs.Givens.{IsFitting}
use Rattle.input_fits.specs.inner.Words.{NameOne, Share, AreListed, FitTogether}
use Rattle.input_fits.proofs.Listing.{swapped}

-- ---- what is given is in the heap

held_in_heap : (types : WorldTypes) (heap : Heap) (slot : Slot) (value : Value) → Holds types heap slot value
    → IsInHeap (length heap.objects) value
held_in_heap types heap (slots.Num kind) (values.Int n) h = λ a e. absurd (none-some a e)
held_in_heap types heap (slots.Num kind) values.Null h = absurd h
held_in_heap types heap (slots.Num kind) (values.Ref r) h = absurd h
held_in_heap types heap (slots.Ref t) value h = value_in_heap types heap value (types.erase t) h

all_in_heap : (types : WorldTypes) (heap : Heap) (wanted : List Slot) (given : List Value) → AllZip (Holds types heap) wanted given
    → All (IsInHeap (length heap.objects)) given
all_in_heap types heap [] [] h = All-nil (IsInHeap (length heap.objects))
all_in_heap types heap [] (value ∷ given) h = absurd h
all_in_heap types heap (slot ∷ wanted) [] h = absurd h
all_in_heap types heap (slot ∷ wanted) (value ∷ given) h = All-cons (IsInHeap (length heap.objects)) value given
    (held_in_heap types heap slot value h.0) (all_in_heap types heap wanted given h.1)

pub given_in_heap : (p : Program) (args statics : List Value) (heap : Heap)
    → IsTypedInput p (record { args = args; statics = statics; heap = heap }) → All (IsInHeap (length heap.objects)) (args ++ statics)
given_in_heap p args statics heap typed = All-append (IsInHeap (length heap.objects)) args statics
    (all_in_heap (types_of p.world) heap (map argument_slot (params_of p)) args typed.args_are)
    (all_in_heap (types_of p.world) heap (statics_of p) statics typed.statics_are)

-- ---- the beginning

abbrev begun : Method → List Value → List Value → Heap → MachineState
begun method args statics heap = record { frames = new_frame 0 method args ∷ []; heap = heap; mode = Normal; statics = statics }

start_is : (p : Program) (args statics : List Value) (heap : Heap) (method : Method) → slice_get p.methods 0 ≡ Some method
    → start p args statics heap ≡ Some (begun method args statics heap)
unfolding start entered
start_is p args statics heap method e = rw e refl

-- as many locals as the method says, where the arguments fit in
locals_count : (args : List Value) (places : ℕ) → length (locals_from Some None places args) ≡ length args + (places - length args)
locals_count args places =
    let parts : length (locals_from Some None places args) ≡ length (map Some args) + length
    (replicate {A = Option Value} (places - length args) None) = length-append _ _ in
    let front : length (map Some args) ≡ length args = length-map args Some in
    let back : length (replicate {A = Option Value} (places - length args) None) ≡ places - length args = length-replicate
    (places - length args) None in
    omega (arith, parts, front, back)

same_front : (xs ys : List Value) (us vs : List (Option Value)) → length xs ≡ length ys → map Some xs ++ us ≡ map Some ys ++ vs → xs ≡ ys
same_front [] [] us vs same e = refl
same_front [] (y ∷ ys) us vs same e = absurd (omega (arith, same))
same_front (x ∷ xs) [] us vs same e = absurd (omega (arith, same))
same_front (x ∷ xs) (y ∷ ys) us vs same e =
    let first : x ≡ y = cc in
    let rest : map Some xs ++ us ≡ map Some ys ++ vs = cc in
    ap (λ (v : Value). v ∷ xs) first ∙ ap (λ (l : List Value). y ∷ l) (same_front xs ys us vs (omega (arith, same)) rest)

module _ (p : Program) (desc : Desc) (args statics : List Value) (heap : Heap) (method : Method) (entry : slice_get p.methods 0 ≡ Some method)
    (typed : IsTypedInput p (record { args = args; statics = statics; heap = heap })) where
  abbrev types : WorldTypes
  types = types_of p.world

  count : length args ≡ length method.params
  count =
      let params : params_of p ≡ method.params = ap (λ (o : Option Method). option_map_or (λ (m : Method). m.params) o []) entry in
      AllZip-long (Holds types heap) (map argument_slot (params_of p)) args typed.args_are
      ∙ (length-map (params_of p) argument_slot ∙ ap length params)

  -- ---- what fits together fits the description

  one_of : {Meets : Value → Value → Type 0} (pairs : List (ℕ × ℕ)) → AreListed Meets (args ++ statics) pairs
      → ((v w : Value) → Meets v w → Meets w v) → (i j : ℕ) (v w : Value) → i ≢ j → slice_get (args ++ statics) i ≡ Some v
      → slice_get (args ++ statics) j ≡ Some w → Meets v w → IsListed i j pairs
  one_of {Meets = Meets} pairs listed turn i j v w apart at_v at_w meets = go (cases_order i j)
    where
      go : (i ≡ j) ⊎ ((i < j) ⊎ (j < i)) → IsListed i j pairs
      go (inl same) = absurd (apart same)
      go (inr (inl low)) = listed j (slice_get_within (args ++ statics) j w at_w) i v w low at_v at_w meets
      go (inr (inr low)) = swapped j i pairs
          (listed i (slice_get_within (args ++ statics) i v at_v) j w v low at_w at_v (turn v w meets))

  pub fitting : length args ≤ method.max_locals → FitTogether types desc heap (args ++ statics) → IsFitting p desc args statics heap
  fitting few fit = record {
    state = begun method args statics heap;
    starts = start_is p args statics heap method entry;
    fits = record {
      method = method;
      entry = entry;
      args = args;
      frame = new_frame 0 method args;
      one = refl;
      start = record {
        number = refl;
        place = refl;
        locals = refl;
        room = let n = locals_count args method.max_locals in omega (arith, n, few);
        stack = refl;
      };
      normal = refl;
      count = count;
      statics = typed.statics_are;
      typed = typed.heap_is;
      inputs = fit.each;
      same = λ i j o v w apart at_v at_w e f. one_of {Meets = NameOne} desc.same fit.same (λ a b h. (h.0, (h.1.1, h.1.0))) i j v w apart at_v at_w
          (o, (e, f));
      share = λ i j o v w apart at_v at_w r s. one_of {Meets = Share heap} (desc.same ++ desc.share) fit.share (λ a b h. (h.0, (h.1.1, h.1.0))) i j
          v w apart at_v at_w (o, (r, s));
    };
  }

  -- ---- and only that

  below_differ : (i j : ℕ) → j < i → j ≢ i
  below_differ i j low e = omega (arith, low, e)

  fit_of : (state : MachineState) (fits : FitsDescription p desc state)
      → FitTogether types desc state.heap (fits.args ++ state.statics)
  fit_of state fits = record {
    each = fits.inputs;
    same = λ i l j v w low at_v at_w h. fits.same j i h.0 v w (below_differ i j low) at_v at_w h.1.0 h.1.1;
    share = λ i l j v w low at_v at_w h. fits.share j i h.0 v w (below_differ i j low) at_v at_w h.1.0 h.1.1;
  }

  record Known (state : MachineState) (fits : FitsDescription p desc state) : Type 0 where
    heap_is : state.heap ≡ heap
    statics_is : state.statics ≡ statics
    args_is : fits.args ≡ args
    room : length args ≤ method.max_locals

  known : (state : MachineState) (fits : FitsDescription p desc state) → state ≡ begun method args statics heap → Known state fits
  known state fits e =
      let same_method : fits.method ≡ method = some_is (sym fits.entry ∙ entry) in
      let frames : fits.frame ∷ [] ≡ new_frame 0 method args ∷ [] = sym fits.one ∙ ap (λ (s : MachineState). s.frames) e in
      let frame : fits.frame ≡ new_frame 0 method args = cc in
      let locals : fits.frame.locals ≡ locals_from Some None method.max_locals args = ap (λ (f : MachineFrame). f.locals) frame in
      let their : fits.frame.locals ≡ locals_from Some None method.max_locals fits.args =
      fits.start.locals ∙ ap (λ (m : Method). locals_from Some None m.max_locals fits.args) same_method in
      let long : length fits.args ≡ length args = fits.count ∙ (ap (λ (m : Method). length m.params) same_method ∙ sym count) in
      let room : length fits.frame.locals ≡ method.max_locals = fits.start.room ∙ ap (λ (m : Method). m.max_locals) same_method in
      let n = locals_count args method.max_locals in
      let all : length fits.frame.locals ≡ length (locals_from Some None method.max_locals args) = ap length locals in
      record {
        heap_is = ap (λ (s : MachineState). s.heap) e;
        statics_is = ap (λ (s : MachineState). s.statics) e;
        args_is = same_front fits.args args (replicate (method.max_locals - length fits.args) None)
            (replicate (method.max_locals - length args) None) long (sym their ∙ locals);
        room = omega (arith, room, n, all);
      }

  known_of : (h : IsFitting p desc args statics heap) → Known h.state h.fits
  known_of h = known h.state h.fits (some_is (sym h.starts ∙ start_is p args statics heap method entry))

  pub have_room : IsFitting p desc args statics heap → length args ≤ method.max_locals
  have_room h = (known_of h).room

  pub together : IsFitting p desc args statics heap → FitTogether types desc heap (args ++ statics)
  together h =
      let k = known_of h in
      subst (λ (g : Heap). FitTogether types desc g (args ++ statics)) k.heap_is
      (subst (λ (s : List Value). FitTogether types desc h.state.heap (args ++ s)) k.statics_is
      (subst (λ (a : List Value). FitTogether types desc h.state.heap (a ++ h.state.statics)) k.args_is (fit_of h.state h.fits)))
