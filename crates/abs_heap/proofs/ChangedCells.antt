-- What a write makes of the cells: names, shapes and fields after it.
use Rattle.std.proofs.Common.{◌≡◌, ◌≢◌, ℕ, suc, Bool, true, false, cond, if◌then◌else◌, ◌==◌, List, [], ◌∷◌}
use Rattle.std.proofs.Common.{map, Option, Some, None, ◌⊎◌, inl, inr, refl, sym, ap, subst, ◌∙◌, arith}
use Rattle.std.proofs.Common.{pos}
use Rattle.std.specs.Prelude.{slice_get, slice_set}
use Rattle.std.specs.Option.{option_and_then}
use Rattle.std.proofs.lemmas.Bool.{false≢true, cases_eq}
use Rattle.std.proofs.lemmas.Option.{none-some}
use Rattle.list_views.proofs.Items.{length_set, get_set}
use Rattle.list_views.proofs.Options.{then_some}
use Rattle.jvm_values.specs.declared.heap.Value.{Value}
use Rattle.jvm_values.specs.declared.heap.Value.TheVariants as values
use Rattle.jvm_values.specs.declared.heap.Object.{Object}
use Rattle.jvm_values.specs.declared.heap.Object.TheVariants as objects
use Rattle.jvm_values.specs.declared.heap.Heap.{Heap}
use Rattle.jvm_values.specs.declared.types.Ty.{Ty}
use Rattle.jvm_values.specs.declared.shape.Shape.{Shape}
use Rattle.jvm_values.specs.Paths.{follow}
use Rattle.jvm_values.specs.Heaps.{target}
use Rattle.jvm_values.specs.TypedHeaps.{WorldTypes, type_of}
use Rattle.jvm_values.specs.Writes.{IsWritten, with_value}
use Rattle.jvm_values.proofs.Options.{some_is}
use Rattle.jvm_values.proofs.Lists.{get_set_other}
use Rattle.abs_cells.specs.declared.cells.Cell.{Cell}
use Rattle.abs_cells.specs.declared.cells.Cell.TheVariants as cells
use Rattle.abs_cells.specs.AbstractStates.{AbstractState}
use Rattle.abs_cells.specs.Cells.{is_known, is_hazy, ids_in, ids_of, shape_of, cell_in, cell_at, HasCell}
use Rattle.abs_cells.specs.Closures.{cell_steps, KnownFrom}
use Rattle.abs_cells.specs.Sound.{AreIdsRising}
use Rattle.abs_cells.specs.Fits.{Meaning, Describes}
use Rattle.abs_heap.specs.Names.{name_in, cell_named}
use Rattle.abs_heap.specs.Writing.{Write, with_shape, with_field}
use Rattle.abs_heap.specs.Writing.{is_renamed, reshaped, cell_after}
use Rattle.abs_heap.proofs.Placing.{cell_here, cell_later, absent}
use Rattle.abs_heap.proofs.Renamed.{maps_move}

-- ---- cells after the write

-- an id of the child is the new name of one of the state
pub record Was (state : AbstractState) (names : List (ℕ × ℕ)) (change : Shape → Shape) (write : Write) (id : ℕ) (c : Cell) : Type 0 where
  pub x : ℕ
  pub old : Cell
  pub old_is : cell_at state x ≡ Some old
  pub named : name_in names x ≡ id
  pub now : (cell_after names change write (x, old)).1 ≡ c

pub was_in : (state : AbstractState) (names : List (ℕ × ℕ)) (change : Shape → Shape) (write : Write) (low : ℕ) (list : List (ℕ × Cell))
    → AreIdsRising low list → ((x : ℕ) (c : Cell) → cell_in list x ≡ Some c → cell_at state x ≡ Some c) → (id : ℕ) (c : Cell)
    → cell_in (map (cell_after names change write) list) id ≡ Some c → Was state names change write id c
was_in state names change write low [] r there id c e = absurd (none-some c e)
was_in state names change write low (d ∷ list) r there id c e = elim (cases_eq (name_in names d.0) id) [
  | inl s ↦ record {
    x = d.0;
    old = d.1;
    old_is = there d.0 d.1 (cell_here d list d.0 refl);
    named = s;
    now = some_is (sym (cell_here (cell_after names change write d) (map (cell_after names change write) list) id s) ∙ e);
  }
  | inr s ↦ was_in state names change write (suc d.0) list r.1.1
      (λ x y f. there x y (cell_later d list x (λ t. not_first d.0 x y list r.1.1 t f) ∙ f)) id c
      (sym (cell_later (cell_after names change write d) (map (cell_after names change write) list) id s) ∙ e)
]
  where
    not_first : (n x : ℕ) (y : Cell) (list : List (ℕ × Cell)) → AreIdsRising (suc n) list → n ≡ x → cell_in list x ≡ Some y → ⊥
    not_first n x y list q t f = none-some y (sym (absent (suc n) list x q (omega (arith, t))) ∙ f)

pub known_shaped : (change : Shape → Shape) (c : Cell) → is_known (with_shape change c) ≡ is_known c
known_shaped change (cells.Int interval) = refl
known_shaped change cells.Null = refl
known_shaped change (cells.Obj class ids) = refl
known_shaped change (cells.Nums kind len) = refl
known_shaped change (cells.Refs element len shape) = refl
known_shaped change (cells.Unk bound nullable shape) = refl

hazy_shaped : (change : Shape → Shape) (c : Cell) → is_hazy (with_shape change c) ≡ is_hazy c
hazy_shaped change (cells.Int interval) = refl
hazy_shaped change cells.Null = refl
hazy_shaped change (cells.Obj class ids) = refl
hazy_shaped change (cells.Nums kind len) = refl
hazy_shaped change (cells.Refs element len shape) = refl
hazy_shaped change (cells.Unk bound nullable shape) = refl

known_fielded : (field : Option ℕ) (w : ℕ) (c : Cell) → is_known (with_field field w c) ≡ is_known c
known_fielded None w c = refl
known_fielded (Some f) w (cells.Int interval) = refl
known_fielded (Some f) w cells.Null = refl
known_fielded (Some f) w (cells.Obj class ids) = refl
known_fielded (Some f) w (cells.Nums kind len) = refl
known_fielded (Some f) w (cells.Refs element len shape) = refl
known_fielded (Some f) w (cells.Unk bound nullable shape) = refl

hazy_fielded : (field : Option ℕ) (w : ℕ) (c : Cell) → is_hazy (with_field field w c) ≡ is_hazy c
hazy_fielded None w c = refl
hazy_fielded (Some f) w (cells.Int interval) = refl
hazy_fielded (Some f) w cells.Null = refl
hazy_fielded (Some f) w (cells.Obj class ids) = refl
hazy_fielded (Some f) w (cells.Nums kind len) = refl
hazy_fielded (Some f) w (cells.Refs element len shape) = refl
hazy_fielded (Some f) w (cells.Unk bound nullable shape) = refl

shape_fielded : (field : Option ℕ) (w : ℕ) (c : Cell) → shape_of (with_field field w c) ≡ shape_of c
shape_fielded None w c = refl
shape_fielded (Some f) w (cells.Int interval) = refl
shape_fielded (Some f) w cells.Null = refl
shape_fielded (Some f) w (cells.Obj class ids) = refl
shape_fielded (Some f) w (cells.Nums kind len) = refl
shape_fielded (Some f) w (cells.Refs element len shape) = refl
shape_fielded (Some f) w (cells.Unk bound nullable shape) = refl

pub known_named : (f : ℕ → ℕ) (c : Cell) → is_known (cell_named f c) ≡ is_known c
known_named f (cells.Int interval) = refl
known_named f cells.Null = refl
known_named f (cells.Obj class ids) = refl
known_named f (cells.Nums kind len) = refl
known_named f (cells.Refs element len shape) = refl
known_named f (cells.Unk bound nullable shape) = refl

pub hazy_named : (f : ℕ → ℕ) (c : Cell) → is_hazy (cell_named f c) ≡ is_hazy c
hazy_named f (cells.Int interval) = refl
hazy_named f cells.Null = refl
hazy_named f (cells.Obj class ids) = refl
hazy_named f (cells.Nums kind len) = refl
hazy_named f (cells.Refs element len shape) = refl
hazy_named f (cells.Unk bound nullable shape) = refl

pub shape_named : (f : ℕ → ℕ) (c : Cell) → shape_of (cell_named f c) ≡ shape_of c
shape_named f (cells.Int interval) = refl
shape_named f cells.Null = refl
shape_named f (cells.Obj class ids) = refl
shape_named f (cells.Nums kind len) = refl
shape_named f (cells.Refs element len shape) = refl
shape_named f (cells.Unk bound nullable shape) = refl

-- what the cell of an id is after the write, before its ids are under their names
abbrev pub inner : List (ℕ × ℕ) → (Shape → Shape) → Write → ℕ → Cell → Cell
inner names change write x c = if x == write.object then with_field write.field write.value (reshaped names change (x, c)) else
    reshaped names change (x, c)

pub either : {A : Type 0} (P : A → Type 0) (b : Bool) (p q : A) → P p → P q → P (cond b p q)
either P true p q a c = a
either P false p q a c = c

-- a change of shape and a field leave what sort a cell is
pub known_after : (names : List (ℕ × ℕ)) (change : Shape → Shape) (write : Write) (x : ℕ) (c : Cell)
    → is_known (cell_after names change write (x, c)).1 ≡ is_known c
known_after names change write x c =
    let shaped : is_known (reshaped names change (x, c)) ≡ is_known c = either (λ (d : Cell). is_known d ≡ is_known c)
    (is_renamed names x) (with_shape change c) c (known_shaped change c) refl in
    known_named (name_in names) (inner names change write x c)
    ∙ either (λ (d : Cell). is_known d ≡ is_known c) (x == write.object)
    (with_field write.field write.value (reshaped names change (x, c))) (reshaped names change (x, c))
    (known_fielded write.field write.value (reshaped names change (x, c)) ∙ shaped) shaped

pub hazy_after : (names : List (ℕ × ℕ)) (change : Shape → Shape) (write : Write) (x : ℕ) (c : Cell)
    → is_hazy (cell_after names change write (x, c)).1 ≡ is_hazy c
hazy_after names change write x c =
    let shaped : is_hazy (reshaped names change (x, c)) ≡ is_hazy c = either (λ (d : Cell). is_hazy d ≡ is_hazy c)
    (is_renamed names x) (with_shape change c) c (hazy_shaped change c) refl in
    hazy_named (name_in names) (inner names change write x c)
    ∙ either (λ (d : Cell). is_hazy d ≡ is_hazy c) (x == write.object)
    (with_field write.field write.value (reshaped names change (x, c))) (reshaped names change (x, c))
    (hazy_fielded write.field write.value (reshaped names change (x, c)) ∙ shaped) shaped

pub shape_is_after : (names : List (ℕ × ℕ)) (change : Shape → Shape) (write : Write) (x : ℕ) (c : Cell)
    → shape_of (cell_after names change write (x, c)).1 ≡ shape_of (reshaped names change (x, c))
shape_is_after names change write x c =
    shape_named (name_in names) (inner names change write x c)
    ∙ either (λ (d : Cell). shape_of d ≡ shape_of (reshaped names change (x, c))) (x == write.object)
    (with_field write.field write.value (reshaped names change (x, c))) (reshaped names change (x, c))
    (shape_fielded write.field write.value (reshaped names change (x, c))) refl

pub shape_changed : (change : Shape → Shape) (c : Cell) (s : Shape) → shape_of (with_shape change c) ≡ Some s
    → (t : Shape) × ((shape_of c ≡ Some t) × (s ≡ change t))
shape_changed change (cells.Int interval) s e = absurd (none-some s e)
shape_changed change cells.Null s e = absurd (none-some s e)
shape_changed change (cells.Obj class ids) s e = absurd (none-some s e)
shape_changed change (cells.Nums kind len) s e = absurd (none-some s e)
shape_changed change (cells.Refs element len shape) s e = (shape, (refl, sym (some_is e)))
shape_changed change (cells.Unk bound nullable shape) s e = (shape, (refl, sym (some_is e)))

-- a hazy id has no known steps
no_steps : (c : Cell) → is_hazy c ≡ true → (i : ℕ) → slice_get (ids_of c) i ≡ None
no_steps (cells.Int interval) e i = refl
no_steps cells.Null e i = refl
no_steps (cells.Obj class ids) e i = absurd (false≢true e)
no_steps (cells.Nums kind len) e i = absurd (false≢true e)
no_steps (cells.Refs element len shape) e i = refl
no_steps (cells.Unk bound nullable shape) e i = refl

pub only_itself : (state : AbstractState) (y q : ℕ) → HasCell is_hazy state y → KnownFrom state y q → q ≡ y
only_itself state y q h r = go r.path r.leads
  where
    go : (p : List ℕ) → follow (cell_steps state) p y ≡ Some q → q ≡ y
    go [] e = sym (some_is e)
    go (i ∷ p) e =
        let s = then_some (follow (cell_steps state) p) (cell_steps state y i) q e in
        let none : cell_steps state y i ≡ None = ap (option_and_then (λ (cell : Cell). slice_get (ids_of cell) i)) h.is
        ∙ no_steps h.cell h.sort_is i in
        absurd (none-some s.0 (sym none ∙ s.1.0))

-- an object of the new heap
pub object_after : (heap after : Heap) (o place : ℕ) (value : Value) (w : IsWritten heap o place value after) (r : ℕ) (ob : Object)
    → slice_get heap.objects r ≡ Some ob
    → ((r ≡ o → ⊥) × (slice_get after.objects r ≡ Some ob))
    ⊎ ((r ≡ o) × ((ob ≡ w.object) × (slice_get after.objects r ≡ Some (with_value place value ob))))
object_after heap after o place value w r ob e = elim (cases_eq r o) [
  | inl s ↦
      let same : ob ≡ w.object = some_is (sym e ∙ ap (slice_get heap.objects) s ∙ w.stands) in
      inr (
        s,
        (
          same,
          ap (λ (xs : List Object). slice_get xs r) w.objects
              ∙ ap (λ (i : ℕ). slice_get (slice_set heap.objects o (with_value place value w.object)) i) s
              ∙ get_set heap.objects o (with_value place value w.object) w.object w.stands
              ∙ ap (λ (x : Object). Some (with_value place value x)) (sym same),
        ),
      )
  | inr n ↦ inl (
    n,
    ap (λ (xs : List Object). slice_get xs r) w.objects
        ∙ get_set_other heap.objects o r (with_value place value w.object) n ∙ e,
  )
]

pub type_after : (place : ℕ) (value : Value) (ob : Object) → type_of (with_value place value ob) ≡ type_of ob
type_after place value (objects.Instance class fields) = refl
type_after place value (objects.Nums kind items) = refl
type_after place value (objects.Refs element items) = refl

-- a known cell and an array of references describe two objects
pub known_no_array : (types : WorldTypes) (heap : Heap) (m : Meaning) (c : Cell) (v u : Value) (o : ℕ) (element : Ty) (len : ℕ)
    (shape : Shape) → is_known c ≡ true → Describes types heap m c v → Describes types heap m (cells.Refs element len shape) u
    → target v ≡ Some o → target u ≡ Some o → ⊥
known_no_array types heap m (cells.Int interval) v u o element len shape k d e t s = false≢true k
known_no_array types heap m cells.Null v u o element len shape k d e t s = false≢true k
known_no_array types heap m (cells.Obj class ids) v u o element len shape k d e t s = never
    (some_is (ap Some (sym d.holds) ∙ sym d.stands
    ∙ ap (slice_get heap.objects) (some_is (sym (ap target d.names) ∙ t ∙ sym s ∙ ap target e.names)) ∙ e.stands ∙ ap Some e.holds.is))
  where
    never : {fields : List Value} {item : Ty} {items : List Value} → objects.Instance class fields ≡ objects.Refs item items → ⊥
    never f = cc
known_no_array types heap m (cells.Nums kind l) v u o element len shape k d e t s = never
    (some_is (ap Some (sym d.holds.is) ∙ sym d.stands
    ∙ ap (slice_get heap.objects) (some_is (sym (ap target d.names) ∙ t ∙ sym s ∙ ap target e.names)) ∙ e.stands ∙ ap Some e.holds.is))
  where
    never : {item : Ty} {items : List Value} → objects.Nums kind d.holds.items ≡ objects.Refs item items → ⊥
    never f = cc
known_no_array types heap m (cells.Refs e1 l s1) v u o element len shape k d e t s = false≢true k
known_no_array types heap m (cells.Unk b l s1) v u o element len shape k d e t s = false≢true k

pub shaped_describes : (types : WorldTypes) (heap : Heap) (m : Meaning) (change : Shape → Shape) (c : Cell) (v : Value)
    → Describes types heap m c v → Describes types heap m (with_shape change c) v
shaped_describes types heap m change (cells.Int interval) v d = d
shaped_describes types heap m change cells.Null v d = d
shaped_describes types heap m change (cells.Obj class ids) v d = d
shaped_describes types heap m change (cells.Nums kind len) v d = d
shaped_describes types heap m change (cells.Refs element len shape) v d = d
shaped_describes types heap m change (cells.Unk bound nullable shape) v d = d

pub ids_shaped : (change : Shape → Shape) (c : Cell) → ids_in (with_shape change c) ≡ ids_in c
ids_shaped change (cells.Int interval) = refl
ids_shaped change cells.Null = refl
ids_shaped change (cells.Obj class ids) = refl
ids_shaped change (cells.Nums kind len) = refl
ids_shaped change (cells.Refs element len shape) = refl
ids_shaped change (cells.Unk bound nullable shape) = refl

module _ (types : WorldTypes) (heap after : Heap) (o place : ℕ) (value : Value) (w : IsWritten heap o place value after)
    (m n : Meaning) (f : ℕ → ℕ) where
  -- a cell whose object is known exactly, and another one than the written one
  pub described_after : (c : Cell) (v : Value) → Describes types heap m c v → (is_known c ≡ true → target v ≡ Some o → ⊥)
      → ((i id : ℕ) → slice_get (ids_in c) i ≡ Some id → n (f id) ≡ m id) → Describes types after n (cell_named f c) v
  described_after (cells.Int interval) v d other moves = d
  described_after cells.Null v d other moves = d
  described_after (cells.Obj class ids) v d other moves = elim (object_after heap after o place value w d.place d.object d.stands) [
    | inl e ↦ record {
      place = d.place;
      object = d.object;
      names = d.names;
      stands = e.1;
      holds = d.holds
          ∙ ap (objects.Instance class) (sym (maps_move m n f ids moves));
    }
    | inr e ↦ absurd (other refl (ap target d.names ∙ ap Some e.0))
  ]
  described_after (cells.Nums kind len) v d other moves = elim (object_after heap after o place value w d.place d.object d.stands) [
    | inl e ↦ record {
      place = d.place;
      object = d.object;
      names = d.names;
      stands = e.1;
      holds = record
          { items = d.holds.items; is = d.holds.is; length_is = moves 0 len refl ∙ d.holds.length_is };
    }
    | inr e ↦ record {
      place = d.place;
      object = with_value place value d.object;
      names = d.names;
      stands = e.1.1;
      holds = record
          { items = d.holds.items; is = ap (with_value place value) d.holds.is; length_is = moves 0 len refl ∙ d.holds.length_is };
    }
  ]
  described_after (cells.Refs element len shape) v d other moves = elim
      (object_after heap after o place value w d.place d.object d.stands) [
        | inl e ↦ record {
          place = d.place;
          object = d.object;
          names = d.names;
          stands = e.1;
          holds = record {
            item = d.holds.item;
            items = d.holds.items;
            is = d.holds.is;
            below = d.holds.below;
            length_is = moves 0 len refl
                ∙ d.holds.length_is;
          };
        }
        | inr e ↦ record {
          place = d.place;
          object = with_value place value d.object;
          names = d.names;
          stands = e.1.1;
          holds = record {
            item = d.holds.item;
            items = slice_set d.holds.items place value;
            is = ap (with_value place value) d.holds.is;
            below =
                d.holds.below;
            length_is = moves 0 len refl ∙ d.holds.length_is
                ∙ ap (λ (l : ℕ). values.Int (pos l)) (sym (length_set d.holds.items place value));
          };
        }
      ]
  described_after (cells.Unk bound nullable shape) v (inl d) other moves = inl d
  described_after (cells.Unk bound nullable shape) v (inr d) other moves = elim
      (object_after heap after o place value w d.place d.object d.stands) [
        | inl e ↦ inr (record { place = d.place; object = d.object; names = d.names; stands = e.1; holds = d.holds })
        | inr e ↦ inr (record {
          place = d.place;
          object = with_value place value d.object;
          names = d.names;
          stands = e.1.1;
          holds =
              subst (λ (t : Ty). types.sub t bound ≡ true) (sym (type_after place value d.object)) d.holds;
        })
      ]
