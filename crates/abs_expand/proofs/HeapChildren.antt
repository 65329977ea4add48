-- The children of the heap's calls are well-formed.
use Rattle.std.proofs.Common.{◌≡◌, ◌≢◌, ◌∙◌, ◌==◌, ◌⊎◌, inl, inr, eqb, ℕ, zero, suc, Bool, true, false, if◌then◌else◌, List, [], ◌∷◌}
use Rattle.std.proofs.Common.{Option, Some, None, refl, sym, ap, subst, arith, map, zip, length}
use Rattle.std.specs.Prelude.{slice_set}
use Rattle.std.specs.List.{AllByRecursion}
use Rattle.std.specs.Option.{option_map}
use Rattle.std.proofs.lemmas.Bool.{eqb-true, eqb-false, ne_eqb, eq-eqb}
use Rattle.std.proofs.lemmas.Option.{none-some}
use Rattle.list_views.proofs.Quantified.{all_joined, all_front, all_back, all_weaker, all_mapped}
use Rattle.jvm_values.proofs.Options.{some_is}
use Rattle.jvm_values.specs.declared.types.Ty.{Ty}
use Rattle.jvm_values.specs.declared.types.Slot.{Slot}
use Rattle.jvm_values.specs.declared.types.Slot.TheVariants.{Num, Ref}
use Rattle.jvm_values.specs.declared.shape.Shape.{Shape}
use Rattle.jvm_values.specs.TypedHeaps.{WorldTypes}
use Rattle.abs_cells.specs.declared.cells.Cell.{Cell}
use Rattle.abs_cells.specs.declared.cells.Cell.TheVariants.{Int, Null, Obj, Nums, Refs, Unk}
use Rattle.abs_cells.specs.AbstractStates.{AbstractFrame, AbstractState}
use Rattle.abs_cells.specs.Cells.{ids_in, cell_in, cell_at, HasCell, AreEqual, Share}
use Rattle.abs_cells.specs.Sound.{given_ids, ids_of_frame, IsWellFormed}
use Rattle.abs_heap.specs.Given.{IsGiven, with_cells, MayBeOne}
use Rattle.abs_heap.specs.Names.{one_name, name_in, frame_named, cell_named, IsImage, IsPairOf}
use Rattle.abs_heap.specs.Refining.{IsWithCell, cell_of_slot, length_cell, IsInstanceChild, IsArrayChild, Case, instance, numbers}
use Rattle.abs_heap.specs.Refining.{references, IsCase, merged_cell, IsMergedChild, IsApartChild, JoinsFields}
use Rattle.abs_heap.specs.Writing.{Write, shape_after, with_shape, with_field, is_renamed, reshaped, cell_after, GainsPair}
use Rattle.abs_heap.specs.Writing.{IsWriteChild, JoinsItem, IsItemChild, zero_cell, IsObjectChild, array_cell, IsNewArrayChild}
use Rattle.abs_plans.proofs.WellFormed.{IsIn, well_given, frames_there, thrown_there, cells_there, names_there, new_in, all_still}
use Rattle.abs_plans.proofs.WellFormed.{well_new}

-- ---- listed cells

here_in : (c : ℕ × Cell) (list : List (ℕ × Cell)) → IsIn (cell_in (c ∷ list)) c.0
here_in c list = record { found = c.1; is = ap (λ (b : Bool). if b then Some c.1 else cell_in list c.0) (eq-eqb c.0 c.0 refl) }

later_in : (c : ℕ × Cell) (list : List (ℕ × Cell)) (id : ℕ) → IsIn (cell_in list) id → IsIn (cell_in (c ∷ list)) id
later_in c list id i = let x = at (c.0 == id) in record { found = x.0; is = x.1 }
  where
    at : (b : Bool) → (found : Cell) × ((if b then Some c.1 else cell_in list id) ≡ Some found)
    at true = (c.1, refl)
    at false = (i.found, i.is)

-- a listed cell is the first one, or one of the others
cell_cases : (P : Cell → Type 0) (c : ℕ × Cell) (list : List (ℕ × Cell)) (id : ℕ) (found : Cell) → P c.1
    → (cell_in list id ≡ Some found → P found) → cell_in (c ∷ list) id ≡ Some found → P found
cell_cases P c list id found h rest e = at (c.0 == id) e
  where
    at : (b : Bool) → (if b then Some c.1 else cell_in list id) ≡ Some found → P found
    at true f = subst P (some_is f) h
    at false f = rest f

none_listed : (P : Cell → Type 0) (id : ℕ) (found : Cell) → cell_in [] id ≡ Some found → P found
none_listed P id found e = absurd (none-some found e)

zipped_in : (f : Slot → Cell) (ids : List ℕ) (slots : List Slot) → length ids ≡ length slots
    → AllByRecursion (IsIn (cell_in (zip ids (map f slots)))) ids
zipped_in f [] slots l = tt
zipped_in f (id ∷ ids) [] l = absurd (omega (arith, l))
zipped_in f (id ∷ ids) (slot ∷ slots) l =
    let rest = zip ids (map f slots) in (
      here_in (id, f slot) rest,
      all_weaker (IsIn (cell_in rest)) (IsIn (cell_in ((id, f slot) ∷ rest))) (later_in (id, f slot) rest)
          ids (zipped_in f ids slots (omega (arith, l))),
    )

zipped_is : (P : Cell → Type 0) (f : Slot → Cell) (ids : List ℕ) (slots : List Slot) (id : ℕ) (c : Cell)
    → ((slot : Slot) → P (f slot)) → cell_in (zip ids (map f slots)) id ≡ Some c → P c
zipped_is P f [] slots id c h e = absurd (none-some c e)
zipped_is P f (x ∷ ids) [] id c h e = absurd (none-some c e)
zipped_is P f (x ∷ ids) (slot ∷ slots) id c h e = cell_cases P (x, f slot) (zip ids (map f slots)) id c (h slot)
    (zipped_is P f ids slots id c h) e

-- ---- new cells

module _ (state : AbstractState) (good : IsWellFormed state) where
  abbrev Named : List (ℕ × Cell) → Cell → Type 0
  Named news c = AllByRecursion (IsIn (with_cells news state)) (ids_in c)

  -- ids of the new cells stand
  listed_in : (news : List (ℕ × Cell)) (ids : List ℕ) → AllByRecursion (IsIn (cell_in news)) ids
      → AllByRecursion (IsIn (with_cells news state)) ids
  listed_in news ids a = all_weaker (IsIn (cell_in news)) (IsIn (with_cells news state)) (λ id i. new_in state good news id i.found
      i.is) ids a

  pub well_with_cell : (x : ℕ) (cell : Cell) (child : AbstractState) → IsWithCell state x cell child
      → AllByRecursion (HasCell (λ _. true) state) (ids_in cell) → IsWellFormed child
  well_with_cell x cell child g names =
      let news = (x, cell) ∷ [] in
      well_new state good news (AreEqual state) (Share state) child g good.shared
      (λ id c e. cell_cases (Named news) (x, cell) [] id c (all_still state good news (ids_in cell) names)
      (none_listed (Named news) id c) e)

  -- an id with fresh ids in its fields
  named_fields : (f : Slot → Cell) → ((slot : Slot) → ids_in (f slot) ≡ []) → (x class : ℕ) (ids : List ℕ) (slots : List Slot)
      → length ids ≡ length slots → (id : ℕ) (c : Cell)
      → cell_in ((x, Obj class ids) ∷ zip ids (map f slots)) id ≡ Some c → Named ((x, Obj class ids) ∷ zip ids (map f slots)) c
  named_fields f none x class ids slots l id c e =
      let rest = zip ids (map f slots) in
      let news = (x, Obj class ids) ∷ rest in
      cell_cases (Named news) (x, Obj class ids) rest id c
      (listed_in news ids (all_weaker (IsIn (cell_in rest)) (IsIn (cell_in news)) (later_in (x, Obj class ids) rest) ids
      (zipped_in f ids slots l)))
      (zipped_is (Named news) f ids slots id c (λ slot. subst (AllByRecursion (IsIn (with_cells news state))) (sym (none slot)) tt)) e

  no_zero_names : (slot : Slot) → ids_in (zero_cell slot) ≡ []
  no_zero_names (Num kind) = refl
  no_zero_names (Ref t) = refl

  no_slot_names : (erase : Ty → Ty) (shape : Shape) (slot : Slot) → ids_in (cell_of_slot erase shape slot) ≡ []
  no_slot_names erase shape (Num kind) = refl
  no_slot_names erase shape (Ref t) = refl

  pub well_object : (types : WorldTypes) (class id : ℕ) (child : AbstractState) → IsObjectChild types state class id child
      → IsWellFormed child
  well_object types class id child h =
      well_new state good ((id, Obj class h.ids) ∷ zip h.ids (map zero_cell (types.fields class))) (AreEqual state) (Share state)
      child h.is good.shared
      (named_fields zero_cell no_zero_names id class h.ids (types.fields class) h.count)

  pub well_instance : (types : WorldTypes) (x : ℕ) (shape : Shape) (class : ℕ) (child : AbstractState)
      → IsInstanceChild types state x shape class child → IsWellFormed child
  well_instance types x shape class child h =
      let fields = types.fields class in
      let joins = JoinsFields fields h.ids state x shape in
      well_new state good ((x, Obj class h.ids) ∷ zip h.ids (map (cell_of_slot types.erase shape) fields))
      (λ a b. AreEqual state a b ⊎ MayBeOne types.sub joins child.cells a b)
      (λ a b. Share state a b ⊎ joins a b) child h.is
      (λ a b e. elim e [ inl s ↦ inl (good.shared a b s) | inr m ↦ inr m.joins ])
      (named_fields (cell_of_slot types.erase shape) (no_slot_names types.erase shape) x class h.ids fields h.count)

  pub well_array : (x : ℕ) (cell : ℕ → Cell) → ((len : ℕ) → ids_in (cell len) ≡ len ∷ []) → (child : AbstractState)
      → IsArrayChild state x cell child → IsWellFormed child
  well_array x cell names child h =
      let rest = (h.len, length_cell) ∷ [] in
      let news = (x, cell h.len) ∷ rest in
      well_new state good news (AreEqual state) (Share state) child h.is good.shared
      (λ id c e. cell_cases (Named news) (x, cell h.len) rest id c
      (subst (AllByRecursion (IsIn (with_cells news state))) (sym (names h.len))
      (listed_in news (h.len ∷ []) (later_in (x, cell h.len) rest h.len (here_in (h.len, length_cell) []), tt)))
      (cell_cases (Named news) (h.len, length_cell) [] id c tt (none_listed (Named news) id c)) e)

  pub well_case : (types : WorldTypes) (x : ℕ) (shape : Shape) (case : Case) (child : AbstractState)
      → IsCase types state x shape case child → IsWellFormed child
  well_case types x shape (instance class) child h = well_instance types x shape class child h
  well_case types x shape (numbers kind) child h = well_array x (λ len. Nums kind len) (λ len. refl) child h
  well_case types x shape (references element) child h = well_array x (λ len. Refs element len shape) (λ len. refl) child h

  pub well_item : (sub : Ty → Ty → Bool) (k : ℕ) (element : Ty) (shape : Shape) (item : ℕ) (child : AbstractState)
      → IsItemChild sub state k element shape item child → IsWellFormed child
  well_item sub k element shape item child h =
      let news = (item, Unk element true shape) ∷ [] in
      let joins = JoinsItem state k item shape in
      well_new state good news (λ a b. AreEqual state a b ⊎ MayBeOne sub joins child.cells a b)
      (λ a b. Share state a b ⊎ (joins a b ⊎ ((a ≡ item) × (b ≡ k)))) child h.is
      (λ a b e. elim e [ inl s ↦ inl (good.shared a b s) | inr m ↦ inr (inl m.joins) ])
      (λ id c e. cell_cases (Named news) (item, Unk element true shape) [] id c tt (none_listed (Named news) id c) e)

  array_names : (erase : Ty → Ty) (slot : Slot) (len : ℕ) → ids_in (array_cell erase slot len) ≡ len ∷ []
  array_names erase (Num kind) len = refl
  array_names erase (Ref t) len = refl

  pub well_new_array : (erase : Ty → Ty) (slot : Slot) (len id : ℕ) (child : AbstractState) → HasCell (λ _. true) state len
      → IsNewArrayChild erase state slot len id child → IsWellFormed child
  well_new_array erase slot len id child there h =
      well_with_cell id (array_cell erase slot len) child h.is (subst (AllByRecursion (HasCell (λ _. true) state))
      (sym (array_names erase slot len)) (there, tt))

  pub well_apart : (x y : ℕ) (child : AbstractState) → IsApartChild state x y child → IsWellFormed child
  well_apart x y child g =
      let in_state : (id : ℕ) → HasCell (λ _. true) state id → IsIn (cell_at state) id = λ id h. record { found = h.cell; is = h.is } in
      let all_in : (ids : List ℕ) → AllByRecursion (HasCell (λ _. true) state) ids → AllByRecursion (IsIn (cell_at state)) ids =
      λ ids. all_weaker (HasCell (λ _. true) state) (IsIn (cell_at state)) in_state ids in
      well_given state.frames state.throwing (cell_at state) (λ a b. AreEqual state a b × (IsPairOf x y a b → ⊥)) (Share state) child
      g (λ a b e. good.shared a b e.0)
      (all_weaker (λ frame. AllByRecursion (HasCell (λ _. true) state) (ids_of_frame frame))
      (λ frame. AllByRecursion (IsIn (cell_at state)) (ids_of_frame frame))
      (λ frame. all_in (ids_of_frame frame))
      state.frames (frames_there state good))
      (all_in (given_ids (state.throwing ∷ [])) (thrown_there state good))
      (λ id c e. all_in (ids_in c) (names_there state good id c e))

-- ---- other names

ids_named : (f : ℕ → ℕ) (c : Cell) → ids_in (cell_named f c) ≡ map f (ids_in c)
ids_named f (Int interval) = refl
ids_named f Null = refl
ids_named f (Obj class ids) = refl
ids_named f (Nums kind len) = refl
ids_named f (Refs element len shape) = refl
ids_named f (Unk bound nullable shape) = refl

given_named : (f : ℕ → ℕ) (locals : List (Option ℕ)) → given_ids (map (option_map f) locals) ≡ map f (given_ids locals)
given_named f [] = refl
given_named f (None ∷ locals) = given_named f locals
given_named f (Some id ∷ locals) = ap (λ (xs : List ℕ). f id ∷ xs) (given_named f locals)

module _ (state : AbstractState) (good : IsWellFormed state) (f : ℕ → ℕ) (cell : ℕ → Option Cell) (moves : (id : ℕ)
    → HasCell (λ _. true) state id → IsIn cell (f id)) where
  renamed_in : (ids : List ℕ) → AllByRecursion (HasCell (λ _. true) state) ids → AllByRecursion (IsIn cell) (map f ids)
  renamed_in ids a = all_mapped (IsIn cell) f ids (all_weaker (HasCell (λ _. true) state) (λ id. IsIn cell (f id)) moves ids a)

  frame_in : (frame : AbstractFrame) → AllByRecursion (HasCell (λ _. true) state) (ids_of_frame frame)
      → AllByRecursion (IsIn cell) (ids_of_frame (frame_named f frame))
  frame_in frame a =
      all_joined (IsIn cell) (given_ids (map (option_map f) frame.locals)) (map f frame.stack)
      (subst (AllByRecursion (IsIn cell)) (sym (given_named f frame.locals))
      (renamed_in (given_ids frame.locals) (all_front (HasCell (λ _. true) state) (given_ids frame.locals) frame.stack a)))
      (renamed_in frame.stack (all_back (HasCell (λ _. true) state) (given_ids frame.locals) frame.stack a))

  frames_in : AllByRecursion (λ frame. AllByRecursion (IsIn cell) (ids_of_frame frame)) (map (frame_named f) state.frames)
  frames_in =
      all_mapped (λ frame. AllByRecursion (IsIn cell) (ids_of_frame frame)) (frame_named f) state.frames
      (all_weaker (λ frame. AllByRecursion (HasCell (λ _. true) state) (ids_of_frame frame))
      (λ frame. AllByRecursion (IsIn cell) (ids_of_frame (frame_named f frame))) frame_in
      state.frames (frames_there state good))

  thrown_in : AllByRecursion (IsIn cell) (given_ids (option_map f state.throwing ∷ []))
  thrown_in = subst (AllByRecursion (IsIn cell)) (sym (given_named f (state.throwing ∷ [])))
      (renamed_in (given_ids (state.throwing ∷ [])) (thrown_there state good))

  -- the same cells under other names
  pub well_named : (equal sharing : ℕ → ℕ → Type 0) (child : AbstractState)
      → IsGiven (map (frame_named f) state.frames) (option_map f state.throwing) cell equal sharing child
      → ((a b : ℕ) → equal a b → sharing a b) → ((id : ℕ) (c : Cell) → cell id ≡ Some c
      → (old : Cell) × ((c ≡ cell_named f old) × AllByRecursion (HasCell (λ _. true) state) (ids_in old)))
      → IsWellFormed child
  well_named equal sharing child g both were =
      well_given (map (frame_named f) state.frames) (option_map f state.throwing) cell equal sharing child g both frames_in thrown_in
      (λ id c e.
      let w = were id c e in
      subst (AllByRecursion (IsIn cell)) (sym (ap ids_in w.1.0 ∙ ids_named f w.0)) (renamed_in (ids_in w.0) w.1.1))

image_shared : (state : AbstractState) → IsWellFormed state → (f : ℕ → ℕ) (a b : ℕ) → IsImage f (AreEqual state) a b
    → IsImage f (Share state) a b
image_shared state good f a b i = record { x = i.x; y = i.y; were = good.shared i.x i.y i.were; left = i.left; right = i.right }

-- ---- two ids that become one

merged_names : (sub : Ty → Ty → Bool) (c d : Cell) → ids_in (merged_cell sub c d) ≡ ids_in c
merged_names sub (Int interval) d = refl
merged_names sub Null d = refl
merged_names sub (Obj class ids) d = refl
merged_names sub (Nums kind len) d = refl
merged_names sub (Refs element len shape) d = refl
merged_names sub (Unk bound nullable shape) d = refl

module _ (sub : Ty → Ty → Bool) (state : AbstractState) (good : IsWellFormed state) (stays goes : ℕ) (apart : stays ≢ goes)
    (child : AbstractState) (h : IsMergedChild sub state stays goes child) where
  abbrev Merged : ℕ → Option Cell
  Merged id = if id == goes then None else option_map (cell_named (one_name goes stays))
      (cell_in ((stays, merged_cell sub h.left h.right) ∷ state.cells) id)

  kept_in : (id : ℕ) → (id ≡ goes → ⊥) → IsIn (cell_in ((stays, merged_cell sub h.left h.right) ∷ state.cells)) id → IsIn Merged id
  kept_in id other i = record {
    found = cell_named (one_name goes stays) i.found;
    is =
        ap (λ (b : Bool). if b then None else option_map (cell_named (one_name goes stays))
        (cell_in ((stays, merged_cell sub h.left h.right) ∷ state.cells) id)) (ne_eqb id goes other)
        ∙ ap (option_map (cell_named (one_name goes stays))) i.is;
  }

  moved_in : (id : ℕ) → HasCell (λ _. true) state id → IsIn Merged (one_name goes stays id)
  moved_in id there = at (id == goes) refl
    where
      at : (b : Bool) → eqb id goes ≡ b → IsIn Merged (if b then stays else id)
      at true e = kept_in stays apart (here_in (stays, merged_cell sub h.left h.right) state.cells)
      at false e = kept_in id (eqb-false id goes e) (later_in (stays, merged_cell sub h.left h.right) state.cells id
          (record { found = there.cell; is = there.is }))

  were_in : (id : ℕ) (c : Cell) → Merged id ≡ Some c → (old : Cell) × ((c ≡ cell_named (one_name goes stays) old)
      × AllByRecursion (HasCell (λ _. true) state) (ids_in old))
  were_in id c e = at (id == goes) e
    where
      named : (o : Option Cell) → ((d : Cell) → o ≡ Some d → AllByRecursion (HasCell (λ _. true) state) (ids_in d))
          → option_map (cell_named (one_name goes stays)) o ≡ Some c
          → (old : Cell) × ((c ≡ cell_named (one_name goes stays) old) × AllByRecursion (HasCell (λ _. true) state) (ids_in old))
      named None n f = absurd (none-some c f)
      named (Some d) n f = (d, (sym (some_is f), n d refl))

      at : (b : Bool) → (if b then None else option_map (cell_named (one_name goes stays))
          (cell_in ((stays, merged_cell sub h.left h.right) ∷ state.cells) id)) ≡ Some c
          → (old : Cell) × ((c ≡ cell_named (one_name goes stays) old) × AllByRecursion (HasCell (λ _. true) state) (ids_in old))
      at true f = absurd (none-some c f)
      at false f =
          named (cell_in ((stays, merged_cell sub h.left h.right) ∷ state.cells) id)
          (λ d k. cell_cases (λ (x : Cell). AllByRecursion (HasCell (λ _. true) state) (ids_in x)) (
            stays,
            merged_cell sub h.left h.right,
          ) state.cells id d
          (subst (AllByRecursion (HasCell (λ _. true) state)) (sym (merged_names sub h.left h.right))
          (names_there state good stays h.left h.left_is)) (names_there state good id d) k)
          f

  pub well_merged : IsWellFormed child
  well_merged =
      well_named state good (one_name goes stays) Merged moved_in (λ a b. IsImage (one_name goes stays) (AreEqual state) a b)
      (λ a b. IsImage (one_name goes stays) (Share state) a b) child h.is
      (image_shared state good (one_name goes stays)) were_in

-- ---- a write

set_in : (P : ℕ → Type 0) (ids : List ℕ) (n x : ℕ) → AllByRecursion P ids → P x → AllByRecursion P (slice_set ids n x)
set_in P [] n x a p = tt
set_in P (id ∷ ids) zero x a p = (p, a.1)
set_in P (id ∷ ids) (suc n) x a p = (a.0, set_in P ids n x a.1 p)

fielded_names : (P : ℕ → Type 0) (field : Option ℕ) (w : ℕ) (c : Cell) → P w → AllByRecursion P (ids_in c)
    → AllByRecursion P (ids_in (with_field field w c))
fielded_names P None w c p a = a
fielded_names P (Some n) w (Int interval) p a = a
fielded_names P (Some n) w Null p a = a
fielded_names P (Some n) w (Obj class ids) p a = set_in P ids n w a p
fielded_names P (Some n) w (Nums kind len) p a = a
fielded_names P (Some n) w (Refs element len shape) p a = a
fielded_names P (Some n) w (Unk bound nullable shape) p a = a

shaped_names : (P : ℕ → Type 0) (change : Shape → Shape) (c : Cell) → AllByRecursion P (ids_in c)
    → AllByRecursion P (ids_in (with_shape change c))
shaped_names P change (Int interval) a = a
shaped_names P change Null a = a
shaped_names P change (Obj class ids) a = a
shaped_names P change (Nums kind len) a = a
shaped_names P change (Refs element len shape) a = a
shaped_names P change (Unk bound nullable shape) a = a

if_names : (P : ℕ → Type 0) (b : Bool) (c d : Cell) → AllByRecursion P (ids_in c) → AllByRecursion P (ids_in d)
    → AllByRecursion P (ids_in (if b then c else d))
if_names P true c d x y = x
if_names P false c d x y = y

module _ (state : AbstractState) (good : IsWellFormed state) (names : List (ℕ × ℕ)) (change : Shape → Shape) (write : Write)
    (value : HasCell (λ _. true) state write.value) where
  abbrev Before : ℕ × Cell → Cell
  Before c = if c.0 == write.object then with_field write.field write.value (reshaped names change c) else reshaped names change c

  abbrev After : ℕ → Option Cell
  After = cell_in (map (cell_after names change write) state.cells)

  before_names : (c : ℕ × Cell) → AllByRecursion (HasCell (λ _. true) state) (ids_in c.1)
      → AllByRecursion (HasCell (λ _. true) state) (ids_in (Before c))
  before_names c a =
      let P = HasCell (λ _. true) state in
      let shaped = if_names P (is_renamed names c.0) (with_shape change c.1) c.1 (shaped_names P change c.1 a) a in
      if_names P (c.0 == write.object) (with_field write.field write.value (reshaped names change c)) (reshaped names change c)
      (fielded_names P write.field write.value (reshaped names change c) value shaped) shaped

  listed_after : (list : List (ℕ × Cell)) (id : ℕ) → IsIn (cell_in list) id
      → IsIn (cell_in (map (cell_after names change write) list)) (name_in names id)
  listed_after [] id i = absurd (none-some i.found i.is)
  listed_after (c ∷ list) id i = at (c.0 == id) refl i.is (λ f. listed_after list id (record { found = i.found; is = f }))
    where
      at : (b : Bool) → eqb c.0 id ≡ b → (if b then Some c.1 else cell_in list id) ≡ Some i.found
          → (cell_in list id ≡ Some i.found → IsIn (cell_in (map (cell_after names change write) list)) (name_in names id))
          → IsIn (cell_in (map (cell_after names change write) (c ∷ list))) (name_in names id)
      at true e f rest =
          subst (λ (n : ℕ). IsIn (cell_in (map (cell_after names change write) (c ∷ list))) (name_in names n)) (eqb-true c.0 id e)
          (here_in (cell_after names change write c) (map (cell_after names change write) list))
      at false e f rest = later_in (cell_after names change write c) (map (cell_after names change write) list) (name_in names id) (rest f)

  were_after : (list : List (ℕ × Cell)) → AllByRecursion (λ (c : ℕ × Cell). AllByRecursion (HasCell (λ _. true) state) (ids_in c.1))
      list → (id : ℕ) (c : Cell)
      → cell_in (map (cell_after names change write) list) id ≡ Some c
      → (old : Cell) × ((c ≡ cell_named (name_in names) old) × AllByRecursion (HasCell (λ _. true) state) (ids_in old))
  were_after [] a id c e = absurd (none-some c e)
  were_after (x ∷ list) a id c e =
      cell_cases (λ (y : Cell). (old : Cell) × ((y ≡ cell_named (name_in names) old) × AllByRecursion (HasCell (λ _. true) state)
      (ids_in old))) (cell_after names change write x)
      (map (cell_after names change write) list) id c (Before x, (refl, before_names x a.0)) (were_after list a.1 id c) e

pub well_write : (state : AbstractState) → IsWellFormed state → (write : Write) (child : AbstractState)
    → HasCell (λ _. true) state write.value → IsWriteChild state write child → IsWellFormed child
well_write state good write child value h =
    let names = h.names in
    let change = shape_after h.null h.no_cycle in
    well_named state good (name_in names) (After state good names change write value)
    (λ id there. listed_after state good names change write value state.cells id (record { found = there.cell; is = there.is }))
    (IsImage (name_in names) (AreEqual state)) (λ a b. IsImage (name_in names) (Share state) a b ⊎ GainsPair state names write a b)
    child h.is
    (λ a b e. inl (image_shared state good (name_in names) a b e))
    (were_after state good names change write value state.cells (cells_there state good))
