-- Paths of a heap along the ids of a state that describes it.
use Rattle.std.proofs.Common.{◌≡◌, ℕ, zero, suc, ◌+◌, Bool, true, false, cond, ◌||◌, List, [], ◌∷◌, ◌++◌, map, length, All, Option}
use Rattle.std.proofs.Common.{Some, None, ◌⊎◌, inl, inr, refl, sym, ap, subst, ◌∙◌, arith}
use Rattle.std.specs.Prelude.{slice_get, nat_eq, if◌then◌else◌, ℤ}
use Rattle.std.specs.Option.{option_and_then, option_map}
use Rattle.std.specs.List.{flat_map}
use Rattle.std.proofs.lemmas.Bool.{false≢true, cases_Bool}
use Rattle.std.proofs.lemmas.Option.{slice_get-map, slice_get_within, get_or_from_slice_get, none-some}
use Rattle.std.proofs.lemmas.List.{get_or-append-add, get_or_append_left, length-append}
use Rattle.abs_cells.proofs.list_views.Quantified.{all_at, every_back, every_front}
use Rattle.abs_cells.proofs.list_views.Options.{then_some}
use Rattle.jvm_values.specs.declared.heap.Value.{Value}
use Rattle.jvm_values.specs.declared.heap.Value.TheVariants as values
use Rattle.jvm_values.specs.declared.heap.Object.{Object}
use Rattle.jvm_values.specs.declared.heap.Object.TheVariants as objects
use Rattle.jvm_values.specs.Paths.{follow}
use Rattle.jvm_values.specs.Heaps.{target, values_of, heap_steps}
use Rattle.jvm_values.specs.States.{MachineState}
use Rattle.jvm_values.specs.TypedHeaps.{WorldTypes}
use Rattle.jvm_values.proofs.Options.{some_is}
use Rattle.abs_cells.specs.declared.cells.Cell.{Cell}
use Rattle.abs_cells.specs.declared.cells.Cell.TheVariants.{Int, Null, Obj, Nums, Refs, Unk}
use Rattle.abs_cells.specs.AbstractStates.{AbstractState}
use Rattle.abs_cells.specs.Cells.{is_known, is_hazy, is_reference, ids_of, ids_in, cell_in, cell_at, HasCell}
use Rattle.abs_cells.specs.Closures.{cell_steps, counted, counted_steps, KnownFrom}
use Rattle.abs_cells.specs.Sound.{given_ids, ids_of_frame, IsWellFormed}
use Rattle.abs_cells.specs.Fits.{Meaning, Describes, IsObject, Fits}
use Rattle.abs_reach.specs.Ways.{Way}

-- ---- the ids that cells name have cells

all_of_cell : (P : ℕ → Type 0) (cells : List (ℕ × Cell)) (id : ℕ) (cell : Cell) → All P (flat_map (λ c. ids_in c.1) cells)
    → cell_in cells id ≡ Some cell → All P (ids_in cell)
all_of_cell P [] id cell h e = absurd (none-some cell e)
all_of_cell P (c ∷ cells) id cell h e = elim (cases_Bool (nat_eq c.0 id)) [
  | inl f ↦ subst (λ (x : Cell). All P (ids_in x)) (some_is (sym (ap (λ (b : Bool). cond b (Some c.1) (cell_in cells id)) f) ∙ e))
      (every_front P (ids_in c.1) (flat_map (λ x. ids_in x.1) cells) h)
  | inr f ↦ all_of_cell P cells id cell (every_back P (ids_in c.1) (flat_map (λ x. ids_in x.1) cells) h)
      (sym (ap (λ (b : Bool). cond b (Some c.1) (cell_in cells id)) f) ∙ e)
]

pub named_has_cell : (state : AbstractState) → IsWellFormed state → (x i id : ℕ) (cell : Cell) → cell_at state x ≡ Some cell
    → slice_get (ids_in cell) i ≡ Some id → HasCell (λ _. true) state id
named_has_cell state good x i id cell e f =
    let cells : All (HasCell (λ _. true) state) (flat_map (λ c. ids_in c.1) state.cells) = every_back (HasCell (λ _. true) state)
    (given_ids (state.throwing ∷ [])) (flat_map (λ c. ids_in c.1) state.cells)
    (every_back (HasCell (λ _. true) state) (flat_map ids_of_frame state.frames)
    (given_ids (state.throwing ∷ []) ++ flat_map (λ c. ids_in c.1) state.cells) good.used) in
    all_at (HasCell (λ _. true) state) (ids_in cell) i id (all_of_cell (HasCell (λ _. true) state) state.cells x cell cells e) f

-- ---- known, hazy, or without an object

pub record IsNoObject (state : AbstractState) (x : ℕ) : Type 0 where
  pub cell : Cell
  pub is : cell_at state x ≡ Some cell
  pub none : is_reference cell ≡ false

pub sort_of : (state : AbstractState) (x : ℕ) → HasCell (λ _. true) state x → (HasCell is_known state x ⊎ HasCell is_hazy state x)
    ⊎ IsNoObject state x
sort_of state x h = go h.cell h.is
  where
    go : (cell : Cell) → cell_at state x ≡ Some cell → (HasCell is_known state x ⊎ HasCell is_hazy state x) ⊎ IsNoObject state x
    go (Int interval) e = inr (record { cell = Int interval; is = e; none = refl })
    go Null e = inr (record { cell = Null; is = e; none = refl })
    go (Obj class ids) e = inl (inl (record { cell = Obj class ids; is = e; sort_is = refl }))
    go (Nums kind len) e = inl (inl (record { cell = Nums kind len; is = e; sort_is = refl }))
    go (Refs element len shape) e = inl (inr (record { cell = Refs element len shape; is = e; sort_is = refl }))
    go (Unk bound nullable shape) e = inl (inr (record { cell = Unk bound nullable shape; is = e; sort_is = refl }))

pub no_target : (types : WorldTypes) (state : AbstractState) (machine : MachineState) (meaning : Meaning)
    → Fits types state machine meaning → (x a : ℕ) → IsNoObject state x → target (meaning x) ≡ Some a → ⊥
no_target types state machine meaning h x a n e = go n.cell n.none (h.cells x n.cell n.is)
  where
    go : (cell : Cell) → is_reference cell ≡ false → Describes types machine.heap meaning cell (meaning x) → ⊥
    go (Int interval) f d = none-some a (sym (ap target d.1.0) ∙ e)
    go Null f d = none-some a (sym (ap target d) ∙ e)
    go (Obj class ids) f d = false≢true (sym f)
    go (Nums kind len) f d = false≢true (sym f)
    go (Refs element len shape) f d = false≢true (sym f)
    go (Unk bound nullable shape) f d = false≢true (sym f)

pub known_is_reference : (state : AbstractState) (x : ℕ) → HasCell is_known state x → HasCell is_reference state x
known_is_reference state x h = record { cell = h.cell; is = h.is; sort_is = ap (λ (b : Bool). b || is_hazy h.cell) h.sort_is }

pub hazy_is_reference : (state : AbstractState) (x : ℕ) → HasCell is_hazy state x → HasCell is_reference state x
hazy_is_reference state x h = record {
  cell = h.cell;
  is = h.is;
  sort_is = ap (λ (b : Bool). is_known h.cell || b) h.sort_is
      ∙ right (is_known h.cell);
}
  where
    right : (b : Bool) → (b || true) ≡ true
    right true = refl
    right false = refl

pub some_cell : {sort : Cell → Bool} (state : AbstractState) (x : ℕ) → HasCell sort state x → HasCell (λ _. true) state x
some_cell state x h = record { cell = h.cell; is = h.is; sort_is = refl }

-- a known id and a hazy one are two
pub not_one : (state : AbstractState) (x y : ℕ) → HasCell is_known state x → HasCell is_hazy state y → x ≡ y → ⊥
not_one state x y h k e =
    let same : h.cell ≡ k.cell = some_is (sym h.is ∙ ap (cell_at state) e ∙ k.is) in
    go k.cell (sym (ap is_known same) ∙ h.sort_is) k.sort_is
  where
    go : (cell : Cell) → is_known cell ≡ true → is_hazy cell ≡ true → ⊥
    go (Int interval) f g = false≢true f
    go Null f g = false≢true f
    go (Obj class ids) f g = false≢true g
    go (Nums kind len) f g = false≢true g
    go (Refs element len shape) f g = false≢true f
    go (Unk bound nullable shape) f g = false≢true f

-- ---- steps of a heap and of ids

-- a path of ids that count is one of ids
pub counted_is_known : (state : AbstractState) (path : List ℕ) (x y : ℕ) → follow (counted_steps state) path x ≡ Some y
    → follow (cell_steps state) path x ≡ Some y
counted_is_known state [] x y e = e
counted_is_known state (i ∷ path) x y e =
    let step = then_some (follow (counted_steps state) path) (counted_steps state x i) y e in
    let first = then_some (counted state) (cell_steps state x i) step.0 step.1.0 in
    let cell = then_some (λ (cell : Cell). if is_reference cell then Some first.0 else None) (cell_at state first.0) step.0 first.1.1 in
    let same : first.0 ≡ step.0 = if_some (is_reference cell.0) first.0 step.0 cell.1.1 in
    ap (option_and_then (follow (cell_steps state) path)) (first.1.0 ∙ ap Some same) ∙ counted_is_known state path step.0 y step.1.1
  where
    if_some : (b : Bool) (c d : ℕ) → (if b then Some c else None) ≡ Some d → c ≡ d
    if_some true c d e = some_is e
    if_some false c d e = absurd (none-some d e)

pub counted_reaches : (state : AbstractState) (path : List ℕ) (x y : ℕ) → follow (counted_steps state) path x ≡ Some y
    → KnownFrom state x y
counted_reaches state path x y e = record { path = path; leads = counted_is_known state path x y e }

module _ (types : WorldTypes) (state : AbstractState) (machine : MachineState) (meaning : Meaning) (good : IsWellFormed state)
    (h : Fits types state machine meaning) where
  -- what an object's step is where its id is an instance
  instance_step : (place i : ℕ) (class : ℕ) (ids : List ℕ)
      → slice_get machine.heap.objects place ≡ Some (objects.Instance class (map meaning ids))
      → heap_steps machine.heap place i ≡ option_and_then target (option_map meaning (slice_get ids i))
  instance_step place i class ids e =
      ap (λ (o : Option Object). option_and_then target (option_and_then (λ (object : Object). slice_get (values_of object) i) o)) e
      ∙ ap (option_and_then target) (slice_get-map meaning ids i)

  array_step : (place i : ℕ) (object : Object) → slice_get machine.heap.objects place ≡ Some object → values_of object ≡ []
      → heap_steps machine.heap place i ≡ None
  array_step place i object e f = ap
      (λ (o : Option Object). option_and_then target (option_and_then (λ (x : Object). slice_get (values_of x) i) o)) e
      ∙ ap (λ (vs : List Value). option_and_then target (slice_get vs i)) f

  counts : (id b : ℕ) → HasCell (λ _. true) state id → target (meaning id) ≡ Some b → counted state id ≡ Some id
  counts id b c e = elim (sort_of state id c) [
    | inl s ↦ elim s [
      | inl k ↦ counted_is (known_is_reference state id k)
      | inr k ↦ counted_is (hazy_is_reference state id k)
    ]
    | inr n ↦ absurd (no_target types state machine meaning h id b n e)
  ]
    where
      counted_is : HasCell is_reference state id → counted state id ≡ Some id
      counted_is k = ap (option_and_then (λ (cell : Cell). if is_reference cell then Some id else None)) k.is
          ∙ ap (λ (b : Bool). cond b (Some id) None) k.sort_is

  -- a step from a known id's object goes to the object of an id that it names
  pub step_of : (x a i b : ℕ) → HasCell is_known state x → target (meaning x) ≡ Some a → heap_steps machine.heap a i ≡ Some b
      → (id : ℕ) × ((counted_steps state x i ≡ Some id) × ((target (meaning id) ≡ Some b) × HasCell (λ _. true) state id))
  step_of x a i b k e f = go k.cell k.is k.sort_is (h.cells x k.cell k.is)
    where
      place_is : {P : Object → Type 0} (o : IsObject machine.heap (meaning x) P) → o.place ≡ a
      place_is o = some_is (sym (ap target o.names) ∙ e)

      go : (cell : Cell) → cell_at state x ≡ Some cell → is_known cell ≡ true
          → Describes types machine.heap meaning cell (meaning x)
          → (id : ℕ) × ((counted_steps state x i ≡ Some id) × ((target (meaning id) ≡ Some b) × HasCell (λ _. true) state id))
      go (Int interval) c t d = absurd (false≢true t)
      go Null c t d = absurd (false≢true t)
      go (Refs element len shape) c t d = absurd (false≢true t)
      go (Unk bound nullable shape) c t d = absurd (false≢true t)
      go (Nums kind len) c t d =
          let stands = ap (slice_get machine.heap.objects) (sym (place_is d)) ∙ d.stands in
          absurd (none-some b (sym (array_step a i d.object stands (ap values_of d.holds.is)) ∙ f))
      go (Obj class ids) c t d =
          let stands = ap (slice_get machine.heap.objects) (sym (place_is d)) ∙ d.stands ∙ ap Some d.holds in
          let step = sym (instance_step a i class ids stands) ∙ f in
          let value = then_some target (option_map meaning (slice_get ids i)) b step in
          let id = named ids value.0 value.1.0 in
          let at : target (meaning id.0) ≡ Some b = ap target id.1.1 ∙ value.1.1 in
          let has = named_has_cell state good x i id.0 (Obj class ids) c id.1.0 in
          let first : cell_steps state x i ≡ Some id.0 = ap (option_and_then (λ (cell : Cell). slice_get (ids_of cell) i)) c ∙ id.1.0 in
          (id.0, (ap (option_and_then (counted state)) first ∙ counts id.0 b has at, (at, has)))
        where
          named : (ids : List ℕ) (value : Value) → option_map meaning (slice_get ids i) ≡ Some value
              → (id : ℕ) × ((slice_get ids i ≡ Some id) × (meaning id ≡ value))
          named ids value e = from (slice_get ids i) e
            where
              from : (o : Option ℕ) → option_map meaning o ≡ Some value → (id : ℕ) × ((o ≡ Some id) × (meaning id ≡ value))
              from None e = absurd (none-some value e)
              from (Some id) e = (id, (refl, some_is e))

  -- an id that counts stands for no int
  int_counts_not : (id z : ℕ) (n : ℤ) → meaning id ≡ values.Int n → counted state id ≡ Some z → ⊥
  int_counts_not id z n e f =
      let cell = then_some (λ (cell : Cell). if is_reference cell then Some id else None) (cell_at state id) z f in
      go cell.0 (is_true (is_reference cell.0) cell.1.1) (h.cells id cell.0 cell.1.0)
    where
      is_true : (b : Bool) → (if b then Some id else None) ≡ Some z → b ≡ true
      is_true true g = refl
      is_true false g = absurd (none-some z g)

      apart : {r : ℕ} → values.Int n ≡ values.Ref r → ⊥
      apart g = cc

      null_apart : values.Int n ≡ values.Null → ⊥
      null_apart g = cc

      go : (cell : Cell) → is_reference cell ≡ true → Describes types machine.heap meaning cell (meaning id) → ⊥
      go (Int interval) t d = false≢true t
      go Null t d = false≢true t
      go (Obj class ids) t d = apart (sym e ∙ d.names)
      go (Nums kind len) t d = apart (sym e ∙ d.names)
      go (Refs element len shape) t d = apart (sym e ∙ d.names)
      go (Unk bound nullable shape) t (inl d) = null_apart (sym e ∙ d.1)
      go (Unk bound nullable shape) t (inr d) = apart (sym e ∙ d.names)

  counted_one : (id y : ℕ) → counted state id ≡ Some y → id ≡ y
  counted_one id y f =
      let cell = then_some (λ (cell : Cell). if is_reference cell then Some id else None) (cell_at state id) y f in
      go (is_reference cell.0) cell.1.1
    where
      go : (b : Bool) → (if b then Some id else None) ≡ Some y → id ≡ y
      go true e = some_is e
      go false e = absurd (none-some y e)

  only : (len i id : ℕ) → slice_get (len ∷ []) i ≡ Some id → len ≡ id
  only len zero id e = some_is e
  only len (suc i) id e = absurd (none-some id e)

  -- a step of ids from a known id is one of its object
  pub step_back : (x a i y : ℕ) → HasCell is_known state x → target (meaning x) ≡ Some a → counted_steps state x i ≡ Some y
      → heap_steps machine.heap a i ≡ target (meaning y)
  step_back x a i y k e f = go k.cell k.is k.sort_is (h.cells x k.cell k.is)
    where
      place_is : {P : Object → Type 0} (o : IsObject machine.heap (meaning x) P) → o.place ≡ a
      place_is o = some_is (sym (ap target o.names) ∙ e)

      go : (cell : Cell) → cell_at state x ≡ Some cell → is_known cell ≡ true
          → Describes types machine.heap meaning cell (meaning x) → heap_steps machine.heap a i ≡ target (meaning y)
      go (Int interval) c t d = absurd (false≢true t)
      go Null c t d = absurd (false≢true t)
      go (Refs element len shape) c t d = absurd (false≢true t)
      go (Unk bound nullable shape) c t d = absurd (false≢true t)
      go (Nums kind len) c t d =
          let first = then_some (counted state) (cell_steps state x i) y f in
          let is : len ≡ first.0 = only len i first.0 (sym (ap (option_and_then (λ (cell : Cell). slice_get (ids_of cell) i)) c)
          ∙ first.1.0) in
          absurd (int_counts_not first.0 y _ (ap meaning (sym is) ∙ d.holds.length_is) first.1.1)
      go (Obj class ids) c t d =
          let stands = ap (slice_get machine.heap.objects) (sym (place_is d)) ∙ d.stands ∙ ap Some d.holds in
          let first = then_some (counted state) (cell_steps state x i) y f in
          let at : slice_get ids i ≡ Some first.0 = sym (ap (option_and_then (λ (cell : Cell). slice_get (ids_of cell) i)) c)
          ∙ first.1.0 in
          instance_step a i class ids stands ∙ ap (λ (o : Option ℕ). option_and_then target (option_map meaning o)) at
          ∙ ap (λ (z : ℕ). target (meaning z)) (counted_one first.0 y first.1.1)

  -- ids with a step are known
  pub steps_are_known : (x i y : ℕ) → counted_steps state x i ≡ Some y → HasCell is_known state x
  steps_are_known x i y f =
      let first = then_some (counted state) (cell_steps state x i) y f in
      let cell = then_some (λ (cell : Cell). slice_get (ids_of cell) i) (cell_at state x) first.0 first.1.0 in
      go cell.0 first.0 cell.1.0 cell.1.1
    where
      go : (cell : Cell) (id : ℕ) → cell_at state x ≡ Some cell → slice_get (ids_of cell) i ≡ Some id → HasCell is_known state x
      go (Int interval) id c e = absurd (none-some id e)
      go Null id c e = absurd (none-some id e)
      go (Obj class ids) id c e = record { cell = Obj class ids; is = c; sort_is = refl }
      go (Nums kind len) id c e = record { cell = Nums kind len; is = c; sort_is = refl }
      go (Refs element len shape) id c e = absurd (none-some id e)
      go (Unk bound nullable shape) id c e = absurd (none-some id e)

  pub known_has_target : (x : ℕ) → HasCell is_known state x → (a : ℕ) × (target (meaning x) ≡ Some a)
  known_has_target x k = go k.cell k.sort_is (h.cells x k.cell k.is)
    where
      go : (cell : Cell) → is_known cell ≡ true → Describes types machine.heap meaning cell (meaning x)
          → (a : ℕ) × (target (meaning x) ≡ Some a)
      go (Int interval) t d = absurd (false≢true t)
      go Null t d = absurd (false≢true t)
      go (Obj class ids) t d = (d.place, ap target d.names)
      go (Nums kind len) t d = (d.place, ap target d.names)
      go (Refs element len shape) t d = absurd (false≢true t)
      go (Unk bound nullable shape) t d = absurd (false≢true t)

  starts_at : (path : List ℕ) (x y c : ℕ) → follow (counted_steps state) path x ≡ Some y → target (meaning y) ≡ Some c
      → (a : ℕ) × (target (meaning x) ≡ Some a)
  starts_at [] x y c f e = (c, ap (λ (z : ℕ). target (meaning z)) (some_is f) ∙ e)
  starts_at (i ∷ path) x y c f e =
      let step = then_some (follow (counted_steps state) path) (counted_steps state x i) y f in
      known_has_target x (steps_are_known x i step.0 step.1.0)

  -- a path of ids is one of the objects
  pub path_back : (path : List ℕ) (x a y c : ℕ) → target (meaning x) ≡ Some a → follow (counted_steps state) path x ≡ Some y
      → target (meaning y) ≡ Some c → follow (heap_steps machine.heap) path a ≡ Some c
  path_back [] x a y c e f g = ap Some (some_is (sym e ∙ ap (λ (z : ℕ). target (meaning z)) (some_is f) ∙ g))
  path_back (i ∷ path) x a y c e f g =
      let step = then_some (follow (counted_steps state) path) (counted_steps state x i) y f in
      let next = starts_at path step.0 y c step.1.1 g in
      let first : heap_steps machine.heap a i ≡ Some next.0 = step_back x a i step.0 (steps_are_known x i step.0 step.1.0) e
      step.1.0 ∙ next.1 in
      ap (option_and_then (follow (heap_steps machine.heap) path)) first ∙ path_back path step.0 next.0 y c next.1 step.1.1 g

  pub way : (path : List ℕ) (x a b : ℕ) → HasCell (λ _. true) state x → target (meaning x) ≡ Some a
      → follow (heap_steps machine.heap) path a ≡ Some b → Way state machine.heap meaning x path b
  way [] x a b c e f = elim (sort_of state x c) [
    | inl s ↦ elim s [
      | inl k ↦ inl (record { y = x; leads = refl; known = k; names = e ∙ f })
      | inr k ↦ inr (record { front = []; back = []; splits = refl; q = x; leads = refl; hazy = k; c = a; names = e; rest = f })
    ]
    | inr n ↦ absurd (no_target types state machine meaning h x a n e)
  ]
  way (i ∷ path) x a b c e f = elim (sort_of state x c) [
    | inl s ↦ elim s [
      | inl k ↦
          let step = then_some (follow (heap_steps machine.heap) path) (heap_steps machine.heap a i) b f in
          let next = step_of x a i step.0 k e step.1.0 in
          elim (way path next.0 step.0 b next.1.1.1 next.1.1.0 step.1.1) [
            | inl w ↦ inl (record {
              y = w.y;
              leads = ap (option_and_then (follow (counted_steps state) path)) next.1.0
                  ∙ w.leads;
              known = w.known;
              names = w.names;
            })
            | inr w ↦ inr (record {
              front = i ∷ w.front;
              back = w.back;
              splits = ap (λ (p : List ℕ). i ∷ p) w.splits;
              q = w.q;
              leads = ap (option_and_then (follow (counted_steps state) w.front)) next.1.0 ∙ w.leads;
              hazy = w.hazy;
              c = w.c;
              names = w.names;
              rest = w.rest;
            })
          ]
      | inr k ↦ inr (record { front = []; back = i ∷ path; splits = refl; q = x; leads = refl; hazy = k; c = a; names = e; rest = f })
    ]
    | inr n ↦ absurd (no_target types state machine meaning h x a n e)
  ]
