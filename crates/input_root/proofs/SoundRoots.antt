-- The initial abstract state of a description is sound.
use Rattle.std.proofs.Common.{◌≡◌, ◌≢◌, ℕ, ◌+◌, zero, suc, ◌≤◌, ◌<◌, ◌-◌, Bool, true, false, cond, List, [], ◌∷◌, ◌++◌, length}
use Rattle.std.proofs.Common.{length-append, get_or, map, replicate, Option, Some, None, ◌⊎◌, inl, inr, sym, refl, ap, subst, ◌∙◌}
use Rattle.std.proofs.Common.{arith}
use Rattle.std.specs.Prelude.{ℤ, ◌≤ℤ◌, All, IfSome, slice_get, int_le, ◌&&◌, option_map}
use Rattle.std.specs.List.{range_with_len, flat_map}
use Rattle.std.specs.Int.{int_max, int_min}
use Rattle.std.specs.Option.{option_map_or}
use Rattle.std.proofs.lemmas.Bool.{false≢true, and_parts, eq-eqb, ne_eqb, cases_eq}
use Rattle.std.proofs.lemmas.Int.{ints, clamps}
use Rattle.std.proofs.lemmas.List.{length-map}
use Rattle.std.proofs.lemmas.List.Elements.{All-nil, All-cons, All-head, All-tail, All-append, All-map, All-replicate}
use Rattle.std.proofs.lemmas.Option.{slice_get_cases}
use Rattle.abs_cells.specs.lin_core.Intervals.{Bounds}
use Rattle.jvm_values.specs.declared.types.Ty.{Ty}
use Rattle.jvm_values.specs.declared.types.Slot.{Slot}
use Rattle.jvm_values.specs.declared.types.Slot.TheVariants as slots
use Rattle.jvm_values.specs.declared.shape.Shape.{Shape}
use Rattle.jvm_values.specs.declared.types.Kind.{Kind}
use Rattle.jvm_values.specs.declared.types.Kind.TheVariants as kinds
use Rattle.jvm_values.specs.Kinds.{least_of, greatest_of, IsOfKind}
use Rattle.jvm_values.specs.Slots.{is_reference_slot}
use Rattle.jvm_values.specs.Subtyping.{IsReference, IsErased}
use Rattle.jvm_values.proofs.Ranges.{kind_ints}
use Rattle.input_desc.specs.ClassWorldWorld.{World}
use Rattle.input_desc.specs.ClassWorldWorldTypes.{types_of}
use Rattle.input_desc.specs.ClassWorldWorldLaws.{world_laws}
use Rattle.input_desc.specs.ClassWorldTypes.{erase}
use Rattle.input_desc.specs.ClassProgramPrograms.{Program}
use Rattle.abs_cells.specs.declared.cells.Cell.{Cell}
use Rattle.abs_cells.specs.AbstractStates.{AbstractState}
use Rattle.abs_cells.specs.Cells.{is_known, is_reference, ids_in, cell_in, HasCell, Share}
use Rattle.abs_cells.specs.Sound.{AreIdsRising, given_ids, ids_used, IsSoundCell, IsWellFormed}
use Rattle.input_desc.specs.InputTextInputText.{InputText}
use Rattle.input_desc.specs.InputTextInputText.TheVariants as texts
use Rattle.input_desc.specs.declared.desc.Input.{Input}
use Rattle.input_desc.specs.declared.desc.Input.TheVariants.{Int, Ref}
use Rattle.input_desc.specs.declared.desc.Desc.{Desc}
use Rattle.input_desc.specs.Given.{params_of, statics_of, argument_slot, slots_of}
use Rattle.input_desc.specs.Pairs.{is_reference_at, is_pair}
use Rattle.input_desc.specs.Descs.{input_of, inputs_from, IsGoodDesc, IsOwnDesc}
use Rattle.input_desc.specs.Initial.{cell_of, cells_from, are_alike, locals_of, given_from, initial_locals, initial_of}
use Rattle.input_desc.proofs.GoodDescs.{pairs_are}
use Rattle.input_desc.proofs.Wider.{Laws, erased_twice}
use Rattle.input_root.specs.Roots.{RootsAreSound, RootsHaveFewIds}
use Rattle.input_root.proofs.Found.{cell_found}
use Rattle.input_root.proofs.Holding.{reference_is}
use Rattle.input_root.proofs.Listed.{was_in_both, kept_in_both, listed_test}
use Rattle.input_root.proofs.Rooted.{not_known}

-- ---- cells

rising : (n : ℕ) (inputs : List Input) → n + length inputs ≤ 2048 → AreIdsRising n (cells_from n inputs)
rising n [] l = tt
rising n (input ∷ inputs) l =
    let next : n + 1 ≡ suc n = omega arith in (
      omega arith,
      (
        omega (arith, l),
        subst (λ m. AreIdsRising m (cells_from (n + 1) inputs)) next
            (rising (n + 1) inputs (omega (arith, l))),
      ),
    )

cell_there : (n : ℕ) (inputs : List Input) (k : ℕ) (input : Input) → slice_get inputs k ≡ Some input
    → cell_in (cells_from n inputs) (n + k) ≡ Some (cell_of input)
cell_there n [] k input e = absurd cc
cell_there n (one ∷ inputs) zero input e =
    let same : one ≡ input = cc in
    let here : n ≡ n + 0 = omega arith in
    ap (λ b. cond b (Some (cell_of one)) (cell_in (cells_from (n + 1) inputs) (n + 0))) (eq-eqb n (n + 0) here)
    ∙ ap (λ i. Some (cell_of i)) same
cell_there n (one ∷ inputs) (suc k) input e = go (cell_there (n + 1) inputs k input e) (cases_eq n (n + suc k))
  where
    go : cell_in (cells_from (n + 1) inputs) ((n + 1) + k) ≡ Some (cell_of input) → (n ≡ n + suc k) ⊎ (n ≢ n + suc k)
        → cell_in (cells_from n (one ∷ inputs)) (n + suc k) ≡ Some (cell_of input)
    go rest (inl same) = absurd (omega (arith, same))
    go rest (inr apart) =
        let next : n + suc k ≡ (n + 1) + k = omega arith in
        ap (λ b. cond b (Some (cell_of one)) (cell_in (cells_from (n + 1) inputs) (n + suc k))) (ne_eqb n (n + suc k) apart)
        ∙ ap (cell_in (cells_from (n + 1) inputs)) next
        ∙ rest

cells_count : (n : ℕ) (inputs : List Input) → length (cells_from n inputs) ≡ length inputs
cells_count n [] = refl
cells_count n (input ∷ inputs) = ap suc (cells_count (n + 1) inputs)

-- cells of inputs name no ids
no_ids : (n : ℕ) (inputs : List Input) → flat_map (λ (c : ℕ × Cell). ids_in c.1) (cells_from n inputs) ≡ []
no_ids n [] = refl
no_ids n (Int interval ∷ inputs) = no_ids (n + 1) inputs
no_ids n (Ref ty null shape ∷ inputs) = no_ids (n + 1) inputs

-- the type of a reference input is one of the world, and its own erasure
of_world : (world : World) (slot : Slot) (text : InputText) (t : Ty) (null : Bool) (shape : Shape) → Laws world
    → Some (Ref t null shape) ≡ input_of world slot text → IsReference (length world) t × IsErased (erase world) t
of_world world (slots.Num kind) (texts.Int lo hi) t null shape laws e = go
    (int_le (int_max (least_of kind) lo) (int_min (greatest_of kind) hi)) e
  where
    go : (b : Bool) → Some (Ref t null shape) ≡ option_map Int
        (cond b (Some (record { lo = int_max (least_of kind) lo; hi = int_min (greatest_of kind) hi })) None)
        → IsReference (length world) t × IsErased (erase world) t
    go true f = absurd cc
    go false f = absurd cc
of_world world (slots.Ref s) (texts.Int lo hi) t null shape laws e = absurd cc
of_world world slot (texts.Ref ty null' shape') t null shape laws e =
    let is = reference_is world slot ty null' shape' (Ref t null shape) e in
    let same : t ≡ is.own = let j : Ref t null shape ≡ Ref is.own null' shape' = is.input_is in cc in
    let erased : t ≡ erase world is.named = same ∙ is.erased in (
      subst (IsReference (length world)) (sym same) (laws.of_world is.own (erase world is.slot_type) is.below).0,
      ap (erase world) erased ∙ erased_twice world is.named ∙ sym erased,
    )

-- ends of an interval that are no less and no greater than a kind's are ints
ends_within : (kind : Kind) (lo hi : ℤ) → int_le (int_max (least_of kind) lo) (int_min (greatest_of kind) hi) ≡ true
    → IsOfKind kinds.Int (int_max (least_of kind) lo) × IsOfKind kinds.Int (int_min (greatest_of kind) hi)
ends_within kind lo hi l =
    let ends = kind_ints kind in
    within (least_of kind) (greatest_of kind) lo hi ends.0.0 ends.1.1 l
  where
    within : (a b lo hi : ℤ) → least_of kinds.Int ≤ℤ a → b ≤ℤ greatest_of kinds.Int → int_le (int_max a lo) (int_min b hi) ≡ true
        → IsOfKind kinds.Int (int_max a lo) × IsOfKind kinds.Int (int_min b hi)
    within a b lo hi p q l = (
      (omega (arith, ints, clamps, p), omega (arith, ints, clamps, q, l)),
      (omega (arith, ints, clamps, p, l), omega (arith, ints, clamps, q)),
    )

-- the ends of an int input are ints
int_ends : (world : World) (slot : Slot) (text : InputText) (interval : Bounds) → Some (Int interval) ≡ input_of world slot text
    → IsOfKind kinds.Int interval.lo × IsOfKind kinds.Int interval.hi
int_ends world (slots.Num kind) (texts.Int lo hi) interval e = go
    (int_le (int_max (least_of kind) lo) (int_min (greatest_of kind) hi)) refl e
  where
    go : (b : Bool) → int_le (int_max (least_of kind) lo) (int_min (greatest_of kind) hi) ≡ b
        → Some (Int interval) ≡ option_map Int
        (cond b (Some (record { lo = int_max (least_of kind) lo; hi = int_min (greatest_of kind) hi })) None)
        → IsOfKind kinds.Int interval.lo × IsOfKind kinds.Int interval.hi
    go true l f =
        let same : interval ≡ record { lo = int_max (least_of kind) lo; hi = int_min (greatest_of kind) hi } = cc in
        subst (λ (x : Bounds). IsOfKind kinds.Int x.lo × IsOfKind kinds.Int x.hi) (sym same) (ends_within kind lo hi l)
    go false l f = absurd cc
int_ends world (slots.Ref s) (texts.Int lo hi) interval e = absurd cc
int_ends world slot (texts.Ref ty null shape) interval e =
    let is = reference_is world slot ty null shape (Int interval) e in
    let j : Int interval ≡ Ref is.own null shape = is.input_is in
    absurd cc

sound_cell : (world : World) (state : AbstractState) (slot : Slot) (text : InputText) (input : Input) → Laws world
    → Some input ≡ input_of world slot text → IsSoundCell (types_of world) state (cell_of input)
sound_cell world state slot text (Int interval) laws e = int_ends world slot text interval e
sound_cell world state slot text (Ref t null shape) laws e = of_world world slot text t null shape laws e

sound_cells : (world : World) (state : AbstractState) (n : ℕ) (wanted : List Slot) (texts' : List InputText) (inputs : List Input)
    → Laws world → map Some inputs ≡ inputs_from world wanted texts'
    → All (λ c. IsSoundCell (types_of world) state c.1) (cells_from n inputs)
sound_cells world state n wanted texts' [] laws e = All-nil (λ (c : ℕ × Cell). IsSoundCell (types_of world) state c.1)
sound_cells world state n [] texts' (input ∷ inputs) laws e = absurd cc
sound_cells world state n (slot ∷ wanted) [] (input ∷ inputs) laws e = absurd cc
sound_cells world state n (slot ∷ wanted) (text ∷ texts') (input ∷ inputs) laws e =
    let first : Some input ≡ input_of world slot text = cc in
    let rest : map Some inputs ≡ inputs_from world wanted texts' = cc in
    All-cons (λ (c : ℕ × Cell). IsSoundCell (types_of world) state c.1) (n, cell_of input) (cells_from (n + 1) inputs)
    (sound_cell world state slot text input laws first)
    (sound_cells world state (n + 1) wanted texts' inputs laws rest)

-- ---- references

-- the input of a reference slot
record IsReferenceInput (inputs : List Input) (k : ℕ) : Type 0 where
  input : Input
  there : slice_get inputs k ≡ Some input
  refers : is_reference (cell_of input) ≡ true

refers : (world : World) (t : Ty) (text : InputText) (input : Input) → Some input ≡ input_of world (slots.Ref t) text
    → is_reference (cell_of input) ≡ true
refers world t (texts.Int lo hi) input e = absurd cc
refers world t (texts.Ref ty null shape) input e = ap (λ i. is_reference (cell_of i))
    (reference_is world (slots.Ref t) ty null shape input e).input_is

reference_there : (world : World) (wanted : List Slot) (texts' : List InputText) (inputs : List Input) (k : ℕ) (t : Ty)
    → map Some inputs ≡ inputs_from world wanted texts' → length inputs ≡ length wanted → slice_get wanted k ≡ Some (slots.Ref t)
    → IsReferenceInput inputs k
reference_there world [] texts' inputs k t e l f = absurd cc
reference_there world (slot ∷ wanted) texts' [] k t e l f = absurd (omega (arith, l))
reference_there world (slot ∷ wanted) [] (input ∷ inputs) k t e l f = absurd cc
reference_there world (slot ∷ wanted) (text ∷ texts') (input ∷ inputs) zero t e l f =
    let first : Some input ≡ input_of world slot text = cc in
    let here : slot ≡ slots.Ref t = cc in
    record { input = input; there = refl; refers = refers world t text input (first ∙ ap (λ s. input_of world s text) here) }
reference_there world (slot ∷ wanted) (text ∷ texts') (input ∷ inputs) (suc k) t e l f =
    let rest : map Some inputs ≡ inputs_from world wanted texts' = cc in
    let found = reference_there world wanted texts' inputs k t rest (omega (arith, l)) f in
    record { input = found.input; there = found.there; refers = found.refers }

reference_cell : (p : Program) (desc : Desc) (k : ℕ) → IsOwnDesc p desc → is_reference_at (slots_of p) k ≡ true
    → HasCell is_reference (initial_of p desc) k
unfolding initial_of
reference_cell p desc k own h = go (slice_get (slots_of p) k) refl h
  where
    go : (o : Option Slot) → slice_get (slots_of p) k ≡ o → option_map_or is_reference_slot o false ≡ true
        → HasCell is_reference (initial_of p desc) k
    go None q f = absurd (false≢true f)
    go (Some (slots.Num kind)) q f = absurd (false≢true f)
    go (Some (slots.Ref t)) q f =
        let found = reference_there p.world (slots_of p) (own.text.params ++ own.text.statics) desc.inputs k t
        own.described.inputs_are own.good.count q in
        record {
          cell = cell_of found.input;
          is = ap (cell_in (cells_from 0 desc.inputs))
              (let same : k ≡ 0 + k = omega arith in same) ∙ cell_there 0 desc.inputs k found.input found.there;
          sort_is = found.refers;
        }

-- ---- pairs

-- two numbers of a pair are references
record AreReferences (wanted : List Slot) (i j : ℕ) : Type 0 where
  left : is_reference_at wanted i ≡ true
  right : is_reference_at wanted j ≡ true

references : (wanted : List Slot) (i j : ℕ) → is_pair wanted (i, j) ≡ true → AreReferences wanted i j
references wanted i j e =
    let both = and_parts (is_reference_at wanted i) (is_reference_at wanted j)
    (and_parts _ (is_reference_at wanted i && is_reference_at wanted j) e).1 in
    record { left = both.0; right = both.1 }

shared_references : (p : Program) (desc : Desc) (i j : ℕ) → IsOwnDesc p desc → Share (initial_of p desc) i j
    → AreReferences (slots_of p) i j
unfolding initial_of
shared_references p desc i j own h = go
    (listed_test (is_pair (slots_of p)) i j (desc.same ++ desc.share) all (was_in_both i j desc.same desc.share h))
  where
    all : All (λ pair. is_pair (slots_of p) pair ≡ true) (desc.same ++ desc.share)
    all = subst (λ (pairs : List (ℕ × ℕ)). All (λ pair. is_pair (slots_of p) pair ≡ true) pairs)
        (sym (ap (λ xs. xs ++ desc.share) own.described.same_is ∙ ap (λ xs. own.text.same ++ xs) own.described.share_is))
        (pairs_are p own.text own.faultless)

    go : (is_pair (slots_of p) (i, j) ≡ true) ⊎ (is_pair (slots_of p) (j, i) ≡ true) → AreReferences (slots_of p) i j
    go (inl e) = references (slots_of p) i j e
    go (inr e) = let turned = references (slots_of p) j i e in record { left = turned.right; right = turned.left }

-- ---- ids

all_given : (P : ℕ → Type 0) (locals : List (Option ℕ)) → All (λ o. IfSome o P) locals → All P (given_ids locals)
all_given P [] h = All-nil P
all_given P (None ∷ locals) h = all_given P locals (All-tail (λ (o : Option ℕ). IfSome o P) None locals h)
all_given P (Some id ∷ locals) h = All-cons P id (given_ids locals) (All-head (λ (o : Option ℕ). IfSome o P) (Some id) locals h)
    (all_given P locals (All-tail (λ (o : Option ℕ). IfSome o P) (Some id) locals h))

all_in_range : (P : ℕ → Type 0) (from count : ℕ) → ((id : ℕ) → id < from + count → P id) → All P (range_with_len from count)
all_in_range P from zero h = All-nil P
all_in_range P from (suc count) h = All-cons P from (range_with_len (from + 1) count) (h from (omega arith))
    (all_in_range P (from + 1) count (λ id l. h id (omega (arith, l))))

all_local : (P : ℕ → Type 0) (places params statics : ℕ) → ((id : ℕ) → id < params + statics → P id)
    → All (λ o. IfSome o P) (initial_locals places params statics)
all_local P places params statics h =
    let front : All (λ o. IfSome o P) (given_from 0 params) = All-map (λ (o : Option ℕ). IfSome o P) Some (range_with_len 0 params)
    (all_in_range P 0 params (λ id l. h id (omega (arith, l)))) in
    let unset : All (λ o. IfSome o P) (replicate (places - params) None) = All-replicate (λ (o : Option ℕ). IfSome o P)
    (places - params) None tt in
    let behind : All (λ o. IfSome o P) (given_from params statics) = All-map (λ (o : Option ℕ). IfSome o P) Some
    (range_with_len params statics) (all_in_range P params statics h) in
    All-append (λ (o : Option ℕ). IfSome o P) (given_from 0 params) (replicate (places - params) None ++ given_from params statics) front
    (All-append (λ (o : Option ℕ). IfSome o P) (replicate (places - params) None) (given_from params statics) unset behind)

inputs_count : (p : Program) (desc : Desc) → IsGoodDesc p desc → length desc.inputs ≡ length (params_of p) + length (statics_of p)
inputs_count p desc good =
    good.count
    ∙ length-append (map argument_slot (params_of p)) (statics_of p)
    ∙ ap (λ n. n + length (statics_of p)) (length-map (params_of p) argument_slot)

has_cell : (p : Program) (desc : Desc) (id : ℕ) → id < length desc.inputs → HasCell (λ _. true) (initial_of p desc) id
unfolding initial_of
has_cell p desc id l = go (slice_get_cases desc.inputs id).1
  where
    go : ((x : Input) × (id < length desc.inputs) × (slice_get desc.inputs id ≡ Some x) × (get_or desc.inputs id x ≡ x))
        ⊎ ((length desc.inputs ≤ id) × (slice_get desc.inputs id ≡ None)) → HasCell (λ _. true) (initial_of p desc) id
    go (inl found) = record {
      cell = cell_of found.0;
      is = ap (cell_in (cells_from 0 desc.inputs)) (let same : id ≡ 0 + id = omega arith in same)
          ∙ cell_there 0 desc.inputs id found.0 found.2;
      sort_is = refl;
    }
    go (inr past) = absurd (omega (arith, l, past.0))

used : (p : Program) (desc : Desc) → IsGoodDesc p desc → (P : ℕ → Type 0) → ((id : ℕ) → id < length desc.inputs → P id)
    → All P (ids_used (initial_of p desc))
unfolding initial_of
used p desc good P h =
    let params = length (params_of p) in
    let statics = length (statics_of p) in
    let count = inputs_count p desc good in
    let locals = initial_locals (locals_of p) params statics in
    let given = all_given P locals (all_local P (locals_of p) params statics (λ id l. h id (omega (arith, l, count)))) in
    let frame : All P (given_ids locals ++ []) = All-append P (given_ids locals) [] given (All-nil P) in
    let frames : All P ((given_ids locals ++ []) ++ []) = All-append P (given_ids locals ++ []) [] frame (All-nil P) in
    All-append P ((given_ids locals ++ []) ++ []) (flat_map (λ (c : ℕ × Cell). ids_in c.1) (cells_from 0 desc.inputs)) frames
    (subst (All P) (sym (no_ids 0 desc.inputs)) (All-nil P))

-- ---- the whole

well_formed : (p : Program) (desc : Desc) → IsOwnDesc p desc → IsWellFormed (initial_of p desc)
unfolding initial_of
well_formed p desc own =
    let few = own.good.few in
    record {
      rising = rising 0 desc.inputs (omega (arith, few));
      used = used p desc own.good (HasCell (λ _. true) (initial_of p desc)) (has_cell p desc);
      shared = λ a b h. kept_in_both (are_alike p.world desc.inputs) a b desc.same desc.share h;
      left = λ a b l h. reference_cell p desc a own (shared_references p desc a b own h).left;
      right = λ a b l h. reference_cell p desc b own (shared_references p desc a b own h).right;
      not_both_known = λ a b l h known other.
          let found = cell_found desc.inputs a known.cell known.is in
          false≢true (sym (ap is_known found.cell_is ∙ not_known found.input) ∙ known.sort_is);
    }

pub sound : RootsAreSound
unfolding initial_of
sound p desc closed own = record {
  well_formed = well_formed p desc own;
  framed = λ e. absurd cc;
  cells = sound_cells p.world (initial_of p desc) 0 (slots_of p) (own.text.params ++ own.text.statics) desc.inputs
      (world_laws p.world closed.known.linked) own.described.inputs_are;
  thrown = λ id e. absurd cc;
}

pub few : RootsHaveFewIds
unfolding initial_of
few p desc own = let count = cells_count 0 desc.inputs in let most = own.good.few in omega (arith, count, most)
