-- What a step, a split or dropping makes of a state keeps the sorts of ids: one that both states have is an int in both or in neither.
use Rattle.std.proofs.Common.{◌≡◌, ◌∙◌, ◌==◌, eqb, ℕ, suc, Bool, true, false, cond, if◌then◌else◌, List, [], ◌∷◌, map, Option, Some}
use Rattle.std.proofs.Common.{None, ◌⊎◌, inl, inr, refl, sym, ap, arith}
use Rattle.std.specs.Prelude.{zip}
use Rattle.std.specs.List.{AllByRecursion}
use Rattle.std.proofs.lemmas.Bool.{false≢true, cases_Bool, eqb-true, cases_eq}
use Rattle.std.proofs.lemmas.List.Elements.{recursion_from_All}
use Rattle.std.proofs.lemmas.Option.{none-some}
use Rattle.jvm_values.specs.declared.shape.Shape.{Shape}
use Rattle.jvm_values.specs.declared.types.Ty.{Ty}
use Rattle.jvm_values.specs.TypedHeaps.{WorldTypes}
use Rattle.jvm_values.proofs.Options.{some_is}
use Rattle.abs_cells.specs.declared.cells.Cell.{Cell}
use Rattle.abs_cells.specs.declared.cells.Cell.TheVariants as cells
use Rattle.abs_cells.specs.AbstractStates.{AbstractState}
use Rattle.abs_cells.specs.Cells.{is_int, is_known, type_of_cell, are_compatible_types, are_compatible, cell_in, cell_at}
use Rattle.abs_cells.specs.Sound.{AreIdsRising}
use Rattle.abs_expand.specs.AbsReachReached.{IsDropped}
use Rattle.abs_expand.specs.AbsHeapGiven.{first_cell, with_cells, AreFresh}
use Rattle.abs_expand.specs.AbsHeapNames.{name_in, cell_named}
use Rattle.abs_expand.specs.AbsHeapRefining.{merged_cell}
use Rattle.abs_expand.specs.AbsHeapWriting.{Write, with_shape, with_field, is_renamed, reshaped, cell_after, zero_cell, array_cell}
use Rattle.abs_expand.proofs.AbsHeapPlacing.{cell_here, cell_later, absent}
use Rattle.abs_expand.specs.Children.{IsActed, set_field, field_with, gone_to}
use Rattle.abs_expand.specs.Plans.{Act, nothing, makes, writes, item, object, array, Goal, nowhere, on_stack, in_local, in_bottom}
use Rattle.abs_expand.specs.Plans.{in_field, is_thrown}
use Rattle.plan_links.proofs.FitTurns.{IsOfSort, AreOfSorts}

-- an id that both states have is an int in both or in neither
abbrev pub SameSorts : AbstractState → AbstractState → Type 0
SameSorts state after = (id : ℕ) (old new : Cell) → cell_at state id ≡ Some old → cell_at after id ≡ Some new → is_int old ≡ is_int new

-- ---- cells in the place of others

found_sort : (state : AbstractState) (list : List (ℕ × Cell)) (id : ℕ) (old new : Cell) → AreOfSorts state list
    → cell_at state id ≡ Some old → cell_in list id ≡ Some new → is_int old ≡ is_int new
found_sort state [] id old new sorts at e = absurd (none-some new e)
found_sort state (c ∷ list) id old new sorts at e = elim (cases_Bool (eqb c.0 id)) [
  | inl t ↦ sorts.0 old (ap (cell_at state) (eqb-true c.0 id t) ∙ at)
      ∙ ap is_int (some_is (ap (λ b. cond b (Some c.1) (cell_in list id)) (sym t) ∙ e))
  | inr f ↦ found_sort state list id old new sorts.1 at (ap (λ b. cond b (Some c.1) (cell_in list id)) (sym f) ∙ e)
]

-- an id of the state has a cell of its sort
pub record Stays (state after : AbstractState) (id : ℕ) (old : Cell) : Type 0 where
  pub now : Cell
  pub is : cell_at after id ≡ Some now
  pub sort : is_int old ≡ is_int now

pub given_stays : (state after : AbstractState) (list : List (ℕ × Cell)) → ((id : ℕ) → cell_at after id ≡ with_cells list state id)
    → AreOfSorts state list → (id : ℕ) (old : Cell) → cell_at state id ≡ Some old → Stays state after id old
given_stays state after list are sorts id old at = by (cell_in list id) refl
  where
    by : (found : Option Cell) → cell_in list id ≡ found → Stays state after id old
    by None e = record { now = old; is = are id ∙ ap (λ (f : Option Cell). first_cell f (cell_at state id)) e ∙ at; sort = refl }
    by (Some new) e = record {
      now = new;
      is = are id ∙ ap (λ (f : Option Cell). first_cell f (cell_at state id)) e;
      sort =
          found_sort state list id old new sorts at e;
    }

pub stays_same : (state after : AbstractState) → ((id : ℕ) (old : Cell) → cell_at state id ≡ Some old → Stays state after id old)
    → SameSorts state after
stays_same state after stays id old new at e = let s = stays id old at in s.sort ∙ ap is_int (some_is (sym s.is ∙ e))

pub given_same : (state after : AbstractState) (list : List (ℕ × Cell)) → ((id : ℕ) → cell_at after id ≡ with_cells list state id)
    → AreOfSorts state list → SameSorts state after
given_same state after list are sorts = stays_same state after (given_stays state after list are sorts)

-- an id that the state hasn't may get any cell
fresh_sort : (state : AbstractState) (id : ℕ) (cell : Cell) → cell_at state id ≡ None → IsOfSort state (id, cell)
fresh_sort state id cell free old at = absurd (none-some old (sym free ∙ at))

pub fresh_sorts : (state : AbstractState) (ids : List ℕ) (list : List Cell) → AllByRecursion (λ (id : ℕ). cell_at state id ≡ None)
    ids → AreOfSorts state (zip ids list)
fresh_sorts state [] list free = tt
fresh_sorts state (id ∷ ids) [] free = tt
fresh_sorts state (id ∷ ids) (cell ∷ list) free = (fresh_sort state id cell free.0, fresh_sorts state ids list free.1)

pub free_ids : (state : AbstractState) (ids : List ℕ) → AreFresh state ids → AllByRecursion (λ (id : ℕ). cell_at state id ≡ None) ids
free_ids state ids fresh = recursion_from_All (λ (id : ℕ). cell_at state id ≡ None) ids fresh.free

pub one_fresh : (state : AbstractState) (id : ℕ) (cell : Cell) → AreFresh state (id ∷ []) → AreOfSorts state ((id, cell) ∷ [])
one_fresh state id cell fresh = (fresh_sort state id cell (free_ids state (id ∷ []) fresh).0, tt)

-- ---- writes

shaped_sort : (change : Shape → Shape) (c : Cell) → is_int (with_shape change c) ≡ is_int c
shaped_sort change (cells.Int interval) = refl
shaped_sort change cells.Null = refl
shaped_sort change (cells.Obj class ids) = refl
shaped_sort change (cells.Nums kind len) = refl
shaped_sort change (cells.Refs element len shape) = refl
shaped_sort change (cells.Unk bound nullable shape) = refl

fielded_sort : (field : Option ℕ) (w : ℕ) (c : Cell) → is_int (with_field field w c) ≡ is_int c
fielded_sort None w c = refl
fielded_sort (Some f) w (cells.Int interval) = refl
fielded_sort (Some f) w cells.Null = refl
fielded_sort (Some f) w (cells.Obj class ids) = refl
fielded_sort (Some f) w (cells.Nums kind len) = refl
fielded_sort (Some f) w (cells.Refs element len shape) = refl
fielded_sort (Some f) w (cells.Unk bound nullable shape) = refl

pub named_sort : (name : ℕ → ℕ) (c : Cell) → is_int (cell_named name c) ≡ is_int c
named_sort name (cells.Int interval) = refl
named_sort name cells.Null = refl
named_sort name (cells.Obj class ids) = refl
named_sort name (cells.Nums kind len) = refl
named_sort name (cells.Refs element len shape) = refl
named_sort name (cells.Unk bound nullable shape) = refl

either_sort : (b : Bool) (c d : Cell) (sort : Bool) → is_int c ≡ sort → is_int d ≡ sort → is_int (if b then c else d) ≡ sort
either_sort true c d sort h k = h
either_sort false c d sort h k = k

module _ (names : List (ℕ × ℕ)) (change : Shape → Shape) (write : Write) where
  abbrev After : ℕ × Cell → ℕ × Cell
  After = cell_after names change write

  reshaped_sort : (c : ℕ × Cell) → is_int (reshaped names change c) ≡ is_int c.1
  reshaped_sort c = either_sort (is_renamed names c.0) (with_shape change c.1) c.1 (is_int c.1) (shaped_sort change c.1) refl

  after_sort : (c : ℕ × Cell) → is_int (After c).1 ≡ is_int c.1
  after_sort c =
      named_sort (name_in names) (if c.0 == write.object then with_field write.field write.value (reshaped names change c) else
      reshaped names change c)
      ∙ either_sort (c.0 == write.object) (with_field write.field write.value (reshaped names change c)) (reshaped names change c)
      (is_int c.1) (fielded_sort write.field write.value (reshaped names change c) ∙ reshaped_sort c) (reshaped_sort c)

  -- an id after the write is the new name of one before it
  record Was (list : List (ℕ × Cell)) (id : ℕ) (c : Cell) : Type 0 where
    x : ℕ
    old : Cell
    old_is : cell_in list x ≡ Some old
    named : name_in names x ≡ id
    sort : is_int old ≡ is_int c

  not_first : (n x : ℕ) (y : Cell) (list : List (ℕ × Cell)) → AreIdsRising (suc n) list → n ≡ x → cell_in list x ≡ Some y → ⊥
  not_first n x y list q t f = none-some y (sym (absent (suc n) list x q (omega (arith, t))) ∙ f)

  was_in : (low : ℕ) (list : List (ℕ × Cell)) → AreIdsRising low list → (id : ℕ) (c : Cell) → cell_in (map After list) id ≡ Some c
      → Was list id c
  was_in low [] r id c e = absurd (none-some c e)
  was_in low (d ∷ list) r id c e = elim (cases_eq (name_in names d.0) id) [
    | inl s ↦ record {
      x = d.0;
      old = d.1;
      old_is = cell_here d list d.0 refl;
      named = s;
      sort = sym (after_sort d) ∙ ap is_int (some_is (sym (cell_here (After d) (map After list) id s) ∙ e));
    }
    | inr s ↦
        let w = was_in (suc d.0) list r.1.1 id c (sym (cell_later (After d) (map After list) id s) ∙ e) in
        record {
          x = w.x;
          old = w.old;
          old_is = cell_later d list w.x (λ t. not_first d.0 w.x w.old list r.1.1 t w.old_is)
              ∙ w.old_is;
          named = w.named;
          sort = w.sort;
        }
  ]

  -- a number is its own name, or its name is free
  own_or_free : (state : AbstractState) (list : List (ℕ × ℕ)) → AllByRecursion (λ (n : ℕ). cell_at state n ≡ None)
      (map (λ (entry : ℕ × ℕ). entry.1) list) → (x : ℕ) → (name_in list x ≡ x) ⊎ (cell_at state (name_in list x) ≡ None)
  own_or_free state [] free x = inl refl
  own_or_free state (entry ∷ list) free x = by (entry.0 == x) (own_or_free state list free.1 x)
    where
      by : (b : Bool) → (name_in list x ≡ x) ⊎ (cell_at state (name_in list x) ≡ None)
          → ((if b then entry.1 else name_in list x) ≡ x) ⊎ (cell_at state (if b then entry.1 else name_in list x) ≡ None)
      by true rest = inr free.0
      by false rest = rest

  pub written_sort : (state after : AbstractState) → AreIdsRising 0 state.cells → AllByRecursion (λ (n : ℕ). cell_at state n ≡ None)
      (map (λ (entry : ℕ × ℕ). entry.1) names) → ((id : ℕ) → cell_at after id ≡ cell_in (map After state.cells) id) → SameSorts state after
  written_sort state after rising free are id old new at e =
      let w = was_in 0 state.cells rising id new (sym (are id) ∙ e) in
      elim (own_or_free state names free w.x) [
        | inl own ↦ ap is_int (some_is (sym at ∙ ap (cell_at state) (sym w.named ∙ own) ∙ w.old_is)) ∙ w.sort
        | inr none ↦ absurd (none-some old (sym none ∙ ap (cell_at state) w.named ∙ at))
      ]

-- ---- acts

pub acted_same : (types : WorldTypes) (act : Act) (id : ℕ) (state after : AbstractState) → AreIdsRising 0 state.cells
    → IsActed types act id state after → SameSorts state after
acted_same types nothing id state after rising is = λ i old new at e. ap is_int
    (some_is (sym at ∙ ap (λ (s : AbstractState). cell_at s i) (sym is) ∙ e))
acted_same types (makes cell) id state after rising is = given_same state after ((id, cell) ∷ []) is.1.cells (one_fresh state id cell is.0)
acted_same types (writes write) id state after rising is = written_sort is.names _ write state after rising
    (free_ids state _ is.renamed.fresh) is.is.cells
acted_same types (item k) id state after rising is = given_same state after ((id, cells.Unk is.0 true is.2) ∷ []) is.3.1.is.cells
    (one_fresh state id (cells.Unk is.0 true is.2) is.3.1.fresh)
acted_same types (object class) id state after rising is =
    let free = free_ids state (id ∷ is.ids) is.fresh in
    given_same state after ((id, cells.Obj class is.ids) ∷ zip is.ids (map zero_cell (types.fields class))) is.is.cells
    (fresh_sort state id (cells.Obj class is.ids) free.0, fresh_sorts state is.ids (map zero_cell (types.fields class)) free.1)
acted_same types (array slot len) id state after rising is = given_same state after ((id, array_cell types.erase slot len) ∷ [])
    is.is.cells (one_fresh state id (array_cell types.erase slot len) is.fresh)

-- ---- goals

-- an id of a state has a cell of its sort in the one before
pub record WasThere (before : AbstractState) (id : ℕ) (new : Cell) : Type 0 where
  pub old : Cell
  pub is : cell_at before id ≡ Some old
  pub sort : is_int old ≡ is_int new

set_sort : (place id : ℕ) (c : Cell) → is_int (set_field place id c) ≡ is_int c
set_sort place id (cells.Int interval) = refl
set_sort place id cells.Null = refl
set_sort place id (cells.Obj class ids) = refl
set_sort place id (cells.Nums kind len) = refl
set_sort place id (cells.Refs element len shape) = refl
set_sort place id (cells.Unk bound nullable shape) = refl

field_sort : (k place id : ℕ) (list : List (ℕ × Cell)) (i : ℕ) (new : Cell) → cell_in (map (field_with k place id) list) i ≡ Some
    new → (old : Cell) × ((cell_in list i ≡ Some old) × (is_int old ≡ is_int new))
field_sort k place id [] i new e = absurd (none-some new e)
field_sort k place id (c ∷ list) i new e = by (c.0 == i) e (field_sort k place id list i new)
  where
    by : (b : Bool) → (if b then Some (field_with k place id c).1 else cell_in (map (field_with k place id) list) i) ≡ Some new
        → (cell_in (map (field_with k place id) list) i ≡ Some new → (old : Cell)
        × ((cell_in list i ≡ Some old) × (is_int old ≡ is_int new)))
        → (old : Cell) × (((if b then Some c.1 else cell_in list i) ≡ Some old) × (is_int old ≡ is_int new))
    by true f rest = (
      c.1,
      (
        refl,
        sym (either_sort (c.0 == k) (set_field place id c.1) c.1 (is_int c.1) (set_sort place id c.1) refl)
            ∙ ap is_int (some_is f),
      ),
    )
    by false f rest = rest f

pub gone_back : (goal : Goal) (id : ℕ) (acted : AbstractState) (i : ℕ) (new : Cell) → cell_at (gone_to goal id acted) i ≡ Some new
    → WasThere acted i new
gone_back nowhere id acted i new e = record { old = new; is = e; sort = refl }
gone_back on_stack id acted i new e = record { old = new; is = e; sort = refl }
gone_back (in_local n) id acted i new e = record { old = new; is = e; sort = refl }
gone_back (in_bottom n) id acted i new e = record { old = new; is = e; sort = refl }
gone_back (in_field k place) id acted i new e = let f = field_sort k place id acted.cells i new e in record
    { old = f.0; is = f.1.0; sort = f.1.1 }
gone_back is_thrown id acted i new e = record { old = new; is = e; sort = refl }

-- ---- dropping

pub dropped_back : (whole part : AbstractState) → IsDropped whole part → (id : ℕ) (cell : Cell) → cell_at part id ≡ Some cell
    → cell_at whole id ≡ Some cell
dropped_back whole part dropped id cell e = sym (dropped.kept id (dropped.gone id (record { cell = cell; is = e; sort_is = refl }))) ∙ e

-- ---- two ids that are one

pub merged_sort : (sub : Ty → Ty → Bool) (left right : Cell) → is_int (merged_cell sub left right) ≡ is_int left
merged_sort sub (cells.Int interval) right = refl
merged_sort sub cells.Null right = refl
merged_sort sub (cells.Obj class ids) right = refl
merged_sort sub (cells.Nums kind len) right = refl
merged_sort sub (cells.Refs element len shape) right = refl
merged_sort sub (cells.Unk bound nullable shape) right = refl

-- cells that may describe one object are no ints
pub left_no_int : (sub : Ty → Ty → Bool) (left right : Cell) → are_compatible sub left right ≡ true → is_int left ≡ false
left_no_int sub (cells.Int interval) right e = absurd (false≢true e)
left_no_int sub cells.Null right e = refl
left_no_int sub (cells.Obj class ids) right e = refl
left_no_int sub (cells.Nums kind len) right e = refl
left_no_int sub (cells.Refs element len shape) right e = refl
left_no_int sub (cells.Unk bound nullable shape) right e = refl

untyped_right : (sub : Ty → Ty → Bool) (c_known d_known : Bool) (left : Option Ty)
    → are_compatible_types sub c_known d_known left None ≡ true → ⊥
untyped_right sub c_known d_known None e = false≢true e
untyped_right sub c_known d_known (Some t) e = false≢true e

pub right_no_int : (sub : Ty → Ty → Bool) (left right : Cell) → are_compatible sub left right ≡ true → is_int right ≡ false
right_no_int sub left (cells.Int interval) e = absurd (untyped_right sub (is_known left) false (type_of_cell left) e)
right_no_int sub left cells.Null e = refl
right_no_int sub left (cells.Obj class ids) e = refl
right_no_int sub left (cells.Nums kind len) e = refl
right_no_int sub left (cells.Refs element len shape) e = refl
right_no_int sub left (cells.Unk bound nullable shape) e = refl
