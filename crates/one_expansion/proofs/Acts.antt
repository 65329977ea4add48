-- What an act makes of states that are alike is alike, under one id.
use Rattle.std.proofs.Common.{◌≡◌, ◌∙◌, ◌⊎◌, ◌↔◌, ℕ, suc, Bool, true, false, List, [], ◌∷◌, map, zip, length, Option, Some, None}
use Rattle.std.proofs.Common.{inl, inr, refl, sym, ap, subst}
use Rattle.std.specs.Option.{option_map}
use Rattle.std.proofs.lemmas.Bool.{false≢true}
use Rattle.std.proofs.lemmas.List.{length-map}
use Rattle.list_views.proofs.Truths.{same_truth}
use Rattle.jvm_values.proofs.Options.{some_is}
use Rattle.jvm_values.specs.declared.types.Ty.{Ty}
use Rattle.jvm_values.specs.declared.types.Slot.{Slot}
use Rattle.jvm_values.specs.declared.shape.Shape.{Shape}
use Rattle.jvm_values.specs.TypedHeaps.{WorldTypes}
use Rattle.abs_cells.specs.declared.cells.Cell.{Cell}
use Rattle.abs_cells.specs.declared.cells.Cell.TheVariants as cells
use Rattle.abs_cells.specs.AbstractStates.{AbstractFrame, AbstractState}
use Rattle.abs_cells.specs.Cells.{cell_in, cell_at, AreEqual, Share}
use Rattle.abs_expand.specs.AbsHeapGiven.{IsGiven, first_cell, with_cells, MayBeOne}
use Rattle.abs_expand.specs.AbsHeapNames.{name_in, frame_named, IsImage}
use Rattle.abs_expand.specs.AbsHeapWriting.{shape_after, Write, cell_after, GainsPair, IsWriteChild, JoinsItem, IsItemChild, zero_cell}
use Rattle.abs_expand.specs.AbsHeapWriting.{IsObjectChild, array_cell, IsNewArrayChild}
use Rattle.abs_expand.specs.abs_turns.Plans.{Act, nothing, makes, writes, item, object, array, Goal, nowhere, on_stack, in_local, in_bottom}
use Rattle.abs_expand.specs.abs_turns.Plans.{in_field, is_thrown}
use Rattle.abs_expand.specs.Children.{IsActed, field_with, gone_to}
use Rattle.steady_plans.specs.Steps.{makes_id}
use Rattle.one_expansion.proofs.Alike.{Alike, back, between, as_equal, cell_alike, given_cells, given_alike}
use Rattle.one_expansion.proofs.Closing.{fresh_there, joins_there, image_both, null_both, affected_both, no_cycle_both, shared_both}
use Rattle.one_expansion.proofs.FreshIds.{rising_one, fresh_one, first_same, rest_same, fresh_id_one}

-- ---- pairs that some relation joins, over the child's cells

pub joined_both : (sub : Ty → Ty → Bool) (one other : ℕ → ℕ → Type 0) (cs ds : List (ℕ × Cell)) → cs ≡ ds
    → ((x y : ℕ) → one x y → other x y) → ((x y : ℕ) → other x y → one x y) → (x y : ℕ)
    → MayBeOne sub one cs x y ↔ MayBeOne sub other ds x y
joined_both sub one other cs ds e to from x y = (
  λ h. subst (λ (d : List (ℕ × Cell)). MayBeOne sub other d x y) e
      (record {
        joins = to x y h.joins;
        left = h.left;
        left_is = h.left_is;
        right = h.right;
        right_is = h.right_is;
        compatible =
            h.compatible;
      }),
  λ h. subst (λ (c : List (ℕ × Cell)). MayBeOne sub one c x y) (sym e)
      (record {
        joins = from x y h.joins;
        left = h.left;
        left_is = h.left_is;
        right = h.right;
        right_is = h.right_is;
        compatible =
            h.compatible;
      }),
)

pub either_both : {P Q R S : Type 0} → P ↔ Q → R ↔ S → (P ⊎ R) ↔ (Q ⊎ S)
either_both e f = (
  λ h. elim h [ inl p ↦ inl (e.0 p) | inr r ↦ inr (f.0 r) ],
  λ h. elim h [ inl q ↦ inl (e.1 q) | inr s ↦ inr (f.1 s) ],
)

-- two lists of pairs with the same lefts and the same rights
pairs_one : (xs ys : List (ℕ × ℕ)) → map (λ e. e.0) xs ≡ map (λ e. e.0) ys → map (λ e. e.1) xs ≡ map (λ e. e.1) ys → xs ≡ ys
pairs_one [] [] e f = refl
pairs_one [] (y ∷ ys) e f = let no : ⊥ = cc in absurd no
pairs_one (x ∷ xs) [] e f = let no : ⊥ = cc in absurd no
pairs_one (x ∷ xs) (y ∷ ys) e f =
    let left : x.0 ≡ y.0 = cc in
    let lefts : map (λ e. e.0) xs ≡ map (λ e. e.0) ys = cc in
    let right : x.1 ≡ y.1 = cc in
    let rights : map (λ e. e.1) xs ≡ map (λ e. e.1) ys = cc in
    ap (λ n. (n, x.1) ∷ xs) left ∙ ap (λ n. (y.0, n) ∷ xs) right ∙ ap (λ zs. y ∷ zs) (pairs_one xs ys lefts rights)

-- an item of an array of references is read
record IsItemOf (types : WorldTypes) (k : ℕ) (state child : AbstractState) (id : ℕ) : Type 0 where
  element : Ty
  len : ℕ
  shape : Shape
  is : cell_at state k ≡ Some (cells.Refs element len shape)
  child_is : IsItemChild types.sub state k element shape id child

of_item : (types : WorldTypes) (k : ℕ) (state child : AbstractState) (id : ℕ) → IsActed types (item k) id state child
    → IsItemOf types k state child id
of_item types k state child id g = record { element = g.0; len = g.1; shape = g.2; is = g.3.0; child_is = g.3.1 }

module _ (types : WorldTypes) (a b after other : AbstractState) (s : Alike a b) where
  -- cells of a list in the place of those of either state
  with_both : (one more : List (ℕ × Cell)) → one ≡ more → (k : ℕ) → with_cells one a k ≡ with_cells more b k
  with_both one more e k =
      ap (λ (cs : List (ℕ × Cell)). first_cell (cell_in cs k) (cell_at a k)) e ∙ ap (first_cell (cell_in more k)) (cell_alike a b k s)

  -- ---- one fresh id

  made_alike : (cell : ℕ → Cell) (id more : ℕ) → id ≡ more
      → IsGiven a.frames a.throwing (with_cells ((id, cell id) ∷ []) a) (AreEqual a) (Share a) after
      → IsGiven b.frames b.throwing (with_cells ((more, cell more) ∷ []) b) (AreEqual b) (Share b) other → Alike after other
  made_alike cell id more e g h =
      given_alike g h s.frames s.throwing
      (with_both ((id, cell id) ∷ []) ((more, cell more) ∷ []) (ap (λ (n : ℕ). (n, cell n) ∷ []) e)) s.eq s.share

  -- ---- an item

  item_given : (k : ℕ) (element : Ty) (shape : Shape) (id : ℕ) → IsItemChild types.sub a k element shape id after
      → IsItemChild types.sub b k element shape id other → Alike after other
  item_given k element shape id g h =
      let same = with_both ((id, cells.Unk element true shape) ∷ []) ((id, cells.Unk element true shape) ∷ []) refl in
      let joins = joins_there a b s k id shape in
      let back_joins = joins_there b a (back a b s) k id shape in
      given_alike g.is h.is s.frames s.throwing same
      (λ x y. either_both (s.eq x y) (joined_both types.sub (JoinsItem a k id shape) (JoinsItem b k id shape) after.cells
      other.cells (given_cells g.is h.is same) joins back_joins x y))
      (λ x y. either_both (s.share x y) (either_both (joins x y, back_joins x y) (λ e. e, λ e. e)))

  item_same : (k id more : ℕ) → IsItemOf types k a after id → IsItemOf types k b other more → (id ≡ more) × Alike after other
  item_same k id more g h =
      let e = fresh_id_one b id more (fresh_there a b s (id ∷ []) g.child_is.fresh) h.child_is.fresh in
      let cell : cells.Refs g.element g.len g.shape ≡ cells.Refs h.element h.len h.shape = some_is (sym g.is ∙ cell_alike a b k s
      ∙ h.is) in
      let element : g.element ≡ h.element = cc in
      let shape : g.shape ≡ h.shape = cc in
      let child : IsItemChild types.sub b k g.element g.shape id other =
      subst (λ (n : ℕ). IsItemChild types.sub b k g.element g.shape n other) (sym e)
      (subst (λ (t : Ty). IsItemChild types.sub b k t g.shape more other) (sym element)
      (subst (λ (f : Shape). IsItemChild types.sub b k h.element f more other) (sym shape) h.child_is)) in
      (e, item_given k g.element g.shape id g.child_is child)

  -- ---- new objects

  abbrev instance_cells : ℕ → ℕ → List ℕ → List (ℕ × Cell)
  instance_cells class id ids = (id, cells.Obj class ids) ∷ zip ids (map zero_cell (types.fields class))

  object_same : (class id more : ℕ) → IsObjectChild types a class id after → IsObjectChild types b class more other → (id ≡ more)
      × Alike after other
  object_same class id more g h =
      let all : id ∷ g.ids ≡ more ∷ h.ids =
      fresh_one b (id ∷ g.ids) (more ∷ h.ids) (ap (λ (n : ℕ). suc n) (g.count ∙ sym h.count))
      (fresh_there a b s (id ∷ g.ids) g.fresh) h.fresh in
      let e = first_same id more g.ids h.ids all in
      let ids = rest_same id more g.ids h.ids all in (
        e,
        given_alike g.is h.is s.frames s.throwing
            (with_both (instance_cells class id g.ids) (instance_cells class more h.ids)
            (ap (λ (n : ℕ). instance_cells class n g.ids) e ∙ ap (instance_cells class more) ids)) s.eq s.share,
      )

  -- ---- a write

  abbrev IsWritten : Write → List (ℕ × ℕ) → Bool → Bool → Type 0
  IsWritten write names null no_cycle =
      IsGiven (map (frame_named (name_in names)) b.frames) (option_map (name_in names) b.throwing)
      (cell_in (map (cell_after names (shape_after null no_cycle) write) b.cells))
      (IsImage (name_in names) (AreEqual b)) (λ x y. IsImage (name_in names) (Share b) x y ⊎ GainsPair b names write x y) other

  write_same : (write : Write) → IsWriteChild a write after → IsWriteChild b write other → Alike after other
  write_same write g h =
      let olds : map (λ e. e.0) g.names ≡ map (λ e. e.0) h.names =
      rising_one (map (λ e. e.0) g.names) (map (λ e. e.0) h.names) g.renamed.old_rise h.renamed.old_rise (λ x.
      let both = affected_both a b s write.object x in (
        λ c. (h.renamed.affected x).1 (both.0 ((g.renamed.affected x).0 c)),
        λ c. (g.renamed.affected x).1
            (both.1 ((h.renamed.affected x).0 c)),
      )) in
      let news : map (λ e. e.1) g.names ≡ map (λ e. e.1) h.names =
      fresh_one b (map (λ e. e.1) g.names) (map (λ e. e.1) h.names)
      (length-map g.names (λ e. e.1) ∙ sym (length-map g.names (λ e. e.0)) ∙ ap length olds ∙ length-map h.names (λ e. e.0)
      ∙ sym (length-map h.names (λ e. e.1)))
      (fresh_there a b s (map (λ e. e.1) g.names) g.renamed.fresh) h.renamed.fresh in
      let names : g.names ≡ h.names = pairs_one g.names h.names olds news in
      let null : g.null ≡ h.null =
      same_truth g.null h.null (λ e. h.null_is.1 ((null_both a b s write.value).0 (g.null_is.0 e)))
      (λ e. g.null_is.1 ((null_both a b s write.value).1 (h.null_is.0 e))) in
      let no_cycle : g.no_cycle ≡ h.no_cycle =
      let both = no_cycle_both a b s write.object write.value in
      same_truth g.no_cycle h.no_cycle (λ e. h.no_cycle_is.1 (both.0 (g.no_cycle_is.0 e)))
      (λ e. g.no_cycle_is.1 (both.1 (h.no_cycle_is.0 e))) in
      let given : IsWritten write g.names g.null g.no_cycle =
      subst (λ (ns : List (ℕ × ℕ)). IsWritten write ns g.null g.no_cycle) (sym names)
      (subst (λ (n : Bool). IsWritten write h.names n g.no_cycle) (sym null)
      (subst (λ (n : Bool). IsWritten write h.names h.null n) (sym no_cycle) h.is)) in
      given_alike g.is given (ap (map (frame_named (name_in g.names))) s.frames) (ap (option_map (name_in g.names)) s.throwing)
      (λ id. ap (λ (cs : List (ℕ × Cell)). cell_in (map (cell_after g.names (shape_after g.null g.no_cycle) write) cs) id) s.cells)
      (image_both (name_in g.names) (AreEqual a) (AreEqual b) s.eq) (shared_both a b s g.names write)

  -- ---- acts

  pub acted_alike : (act : Act) (id more : ℕ) → IsActed types act id a after → IsActed types act more b other → Alike after other
  acted_alike nothing id more g h = between after a other (as_equal after a g) (between a b other s (as_equal b other (sym h)))
  acted_alike (makes cell) id more g h = made_alike (λ n. cell) id more
      (fresh_id_one b id more (fresh_there a b s (id ∷ []) g.0) h.0) g.1 h.1
  acted_alike (writes write) id more g h = write_same write g h
  acted_alike (item k) id more g h = (item_same k id more (of_item types k a after id g) (of_item types k b other more h)).1
  acted_alike (object class) id more g h = (object_same class id more g h).1
  acted_alike (array slot len) id more g h =
      made_alike (λ n. array_cell types.erase slot len) id more
      (fresh_id_one b id more (fresh_there a b s (id ∷ []) g.fresh) h.fresh) g.is h.is

  pub acted_id : (act : Act) (id more : ℕ) → makes_id act ≡ true → IsActed types act id a after → IsActed types act more b other
      → id ≡ more
  acted_id nothing id more e g h = absurd (false≢true e)
  acted_id (makes cell) id more e g h = fresh_id_one b id more (fresh_there a b s (id ∷ []) g.0) h.0
  acted_id (writes write) id more e g h = absurd (false≢true e)
  acted_id (item k) id more e g h = (item_same k id more (of_item types k a after id g) (of_item types k b other more h)).0
  acted_id (object class) id more e g h = (object_same class id more g h).0
  acted_id (array slot len) id more e g h = fresh_id_one b id more (fresh_there a b s (id ∷ []) g.fresh) h.fresh

-- ---- goals

pub gone_alike : (goal : Goal) (id : ℕ) (a b : AbstractState) → Alike a b → Alike (gone_to goal id a) (gone_to goal id b)
gone_alike nowhere id a b s = s
gone_alike on_stack id a b s = record {
  frames = ap (λ (fs : List AbstractFrame). (gone_to on_stack id (record a { frames = fs })).frames) s.frames;
  throwing = s.throwing;
  cells = s.cells;
  eq = s.eq;
  share = s.share;
}
gone_alike (in_local n) id a b s = record {
  frames = ap (λ (fs : List AbstractFrame). (gone_to (in_local n) id (record a { frames = fs })).frames) s.frames;
  throwing = s.throwing;
  cells = s.cells;
  eq = s.eq;
  share = s.share;
}
gone_alike (in_bottom n) id a b s = record {
  frames = ap (λ (fs : List AbstractFrame). (gone_to (in_bottom n) id (record a { frames = fs })).frames) s.frames;
  throwing = s.throwing;
  cells = s.cells;
  eq = s.eq;
  share = s.share;
}
gone_alike (in_field k place) id a b s = record {
  frames = s.frames;
  throwing = s.throwing;
  cells = ap (λ (cs : List (ℕ × Cell)). map (field_with k place id) cs) s.cells;
  eq = s.eq;
  share = s.share;
}
gone_alike is_thrown id a b s = record { frames = s.frames; throwing = refl; cells = s.cells; eq = s.eq; share = s.share }
