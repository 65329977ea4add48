-- Whether no cycle is in the region of an id: that is found by going along the paths from it, since no path passes more ids than have
-- cells.
use Rattle.std.proofs.Common.{◌≡◌, inl, inr, ℕ, zero, suc, ◌<◌, Bool, true, false, cond, eqb, List, [], ◌∷◌, length}
use Rattle.std.proofs.Common.{get_or, set, Option, Some, None, refl, sym, ap, subst, ◌∙◌, arith}
use Rattle.std.specs.Prelude.{slice_get, not, ◌&&◌, ◌||◌}
use Rattle.std.specs.List.{list_all}
use Rattle.std.specs.Option.{option_and_then}
use Rattle.std.proofs.Math.ListN.{length-set, length-replicate}
use Rattle.std.proofs.lemmas.Bool.{false≢true, and_parts, eqb-true, cases_Bool}
use Rattle.std.proofs.lemmas.Option.{none-some}
use Rattle.list_views.specs.Lists.{open_count}
use Rattle.list_views.proofs.Options.{then_some, one_answer}
use Rattle.list_views.proofs.Quantified.{holds_at}
use Rattle.jvm_values.proofs.Options.{some_is}
use Rattle.jvm_values.specs.declared.shape.Shape.{Shape}
use Rattle.jvm_values.specs.declared.shape.Shape.TheVariants.{Tree, Dag, Any}
use Rattle.jvm_values.specs.Paths.{follow}
use Rattle.term_enc.specs.JvmHeapsMarks.{IsMarked}
use Rattle.term_enc.proofs.JvmHeapsDagPaths.{dag_at}
use Rattle.term_enc.proofs.JvmHeapsMarkLaws.{set_only}
use Rattle.term_enc.proofs.JvmHeapsMarkTurns.{none_marked}
use Rattle.term_enc.proofs.JvmHeapsTermLaws.{ComesTo, one_step, step_more, no_return, fewer_open}
use Rattle.abs_cells.specs.declared.cells.Cell.{Cell}
use Rattle.abs_cells.specs.declared.cells.Cell.TheVariants.{Int, Null, Obj, Nums, Refs, Unk}
use Rattle.abs_cells.specs.AbstractStates.{AbstractState}
use Rattle.abs_cells.specs.Cells.{is_reference, is_of_sort, ids_of, shape_of, may_have_cycle, cell_in, cell_at, HasCell}
use Rattle.abs_cells.specs.Closures.{cell_steps, counted, counted_steps, IsFiniteId}
use Rattle.path_rules.specs.Sizing.{above_ids, none_passed, counts, is_finite_cell, is_finite_by, is_finite_id}

-- ---- tests

not_or : (a b : Bool) → a ≡ true → (not a || b) ≡ true → b ≡ true
not_or true b e h = h
not_or false b e h = absurd (false≢true e)

neither : (a b : Bool) → (not a || b) ≡ false → (a ≡ true) × (b ≡ false)
neither true b h = (refl, h)
neither false b h = absurd (false≢true (sym h))

not_both : (a b : Bool) → (not a && b) ≡ false → a ≡ false → b ≡ false
not_both true b h e = absurd (false≢true (sym e))
not_both false b h e = h

is_not : (a : Bool) → not a ≡ true → a ≡ false
is_not true h = absurd (false≢true h)
is_not false h = refl

-- an item that a test refuses
record IsRefused (p : ℕ → Bool) (xs : List ℕ) : Type 0 where
  pub place : ℕ
  pub item : ℕ
  pub there : slice_get xs place ≡ Some item
  pub refused : p item ≡ false

some_refused : (p : ℕ → Bool) (xs : List ℕ) → list_all p xs ≡ false → IsRefused p xs
some_refused p [] h = absurd (false≢true (sym h))
some_refused p (x ∷ xs) h = at (p x) refl h (λ k. some_refused p xs k)
  where
    at : (b : Bool) → p x ≡ b → (b && list_all p xs) ≡ false → (list_all p xs ≡ false → IsRefused p xs) → IsRefused p (x ∷ xs)
    at true e k later = let r = later k in record { place = suc r.place; item = r.item; there = r.there; refused = r.refused }
    at false e k later = record { place = zero; item = x; there = refl; refused = e }

-- ---- steps

tame_shape : (shape : Option Shape) → may_have_cycle shape ≡ false → shape ≡ Some Any → ⊥
tame_shape shape h e = false≢true (sym h ∙ ap may_have_cycle e)

wild_shape : (shape : Option Shape) → may_have_cycle shape ≡ true → shape ≡ Some Any
wild_shape None h = absurd (false≢true h)
wild_shape (Some Tree) h = absurd (false≢true h)
wild_shape (Some Dag) h = absurd (false≢true h)
wild_shape (Some Any) h = refl

-- a cell that is no reference, or null, names nothing and has no shape
plain_names : (cell : Cell) → is_reference cell ≡ false → ids_of cell ≡ []
plain_names (Int interval) e = refl
plain_names Null e = refl
plain_names (Obj class ids) e = absurd (false≢true (sym e))
plain_names (Nums kind len) e = absurd (false≢true (sym e))
plain_names (Refs element len shape) e = refl
plain_names (Unk bound nullable shape) e = refl

plain_shape : (cell : Cell) → is_reference cell ≡ false → shape_of cell ≡ Some Any → ⊥
plain_shape (Int interval) e s = cc
plain_shape Null e s = cc
plain_shape (Obj class ids) e s = cc
plain_shape (Nums kind len) e s = cc
plain_shape (Refs element len shape) e s = absurd (false≢true (sym e))
plain_shape (Unk bound nullable shape) e s = absurd (false≢true (sym e))

low_id : (cells : List (ℕ × Cell)) (id : ℕ) (cell : Cell) → cell_in cells id ≡ Some cell → id < above_ids cells
low_id [] id cell e = absurd (none-some cell e)
low_id (c ∷ cells) id cell e = at (eqb c.0 id) refl e (low_id cells id cell)
  where
    at : (b : Bool) → eqb c.0 id ≡ b → cond b (Some c.1) (cell_in cells id) ≡ Some cell
        → (cell_in cells id ≡ Some cell → id < above_ids cells) → id < above_ids (c ∷ cells)
    at true h k more = let s = eqb-true c.0 id h in omega (arith, s)
    at false h k more = let m = more k in omega (arith, m)

module _ (state : AbstractState) where
  counted_is : (y c : ℕ) → counted state y ≡ Some c → HasCell is_reference state y × (y ≡ c)
  counted_is y c e =
      let d = then_some (λ (cell : Cell). cond (is_reference cell) (Some y) None) (cell_at state y) c e in
      let r = kept d.0 (is_reference d.0) refl d.1.1 in
      (record { cell = d.0; is = d.1.0; sort_is = r.0 }, r.1)
    where
      kept : (cell : Cell) (b : Bool) → is_reference cell ≡ b → cond b (Some y) None ≡ Some c → (is_reference cell ≡ true) × (y ≡ c)
      kept cell true h k = (h, some_is k)
      kept cell false h k = absurd (none-some c k)

  is_counted : (y : ℕ) → HasCell is_reference state y → counted state y ≡ Some y
  is_counted y h = ap (option_and_then (λ (cell : Cell). cond (is_reference cell) (Some y) None)) h.is
      ∙ ap (λ (b : Bool). cond b (Some y) None) h.sort_is

  -- a step to a reference goes from a cell that names it
  record IsStep (a i c : ℕ) : Type 0 where
    pub cell : Cell
    pub is : cell_at state a ≡ Some cell
    pub names : slice_get (ids_of cell) i ≡ Some c

  step_is : (a i c : ℕ) → cell_steps state a i ≡ Some c → IsStep a i c
  step_is a i c e =
      let d = then_some (λ (cell : Cell). slice_get (ids_of cell) i) (cell_at state a) c e in
      record { cell = d.0; is = d.1.0; names = d.1.1 }

  is_step : (a i c : ℕ) → IsStep a i c → cell_steps state a i ≡ Some c
  is_step a i c s = ap (option_and_then (λ (cell : Cell). slice_get (ids_of cell) i)) s.is ∙ s.names

  reference_of : (a i c : ℕ) → counted_steps state a i ≡ Some c → HasCell is_reference state c × (cell_steps state a i ≡ Some c)
  reference_of a i c e =
      let y = then_some (counted state) (cell_steps state a i) c e in
      let r = counted_is y.0 c y.1.1 in
      (subst (HasCell is_reference state) r.1 r.0, y.1.0 ∙ ap (λ (n : ℕ). Some n) r.1)

  counted_step : (a i c : ℕ) → HasCell is_reference state c → cell_steps state a i ≡ Some c → counted_steps state a i ≡ Some c
  counted_step a i c h e = ap (option_and_then (counted state)) e ∙ is_counted c h

  -- ---- what one step tells

  pub finite_after : (a i c : ℕ) → IsFiniteId state a → counted_steps state a i ≡ Some c → IsFiniteId state c
  finite_after a i c f e = record {
    acyclic = λ p b g. f.acyclic (i ∷ p) b (ap (option_and_then (follow (counted_steps state) p)) e ∙ g);
    hazy = λ q cell k. f.hazy q cell
        (record { path = i ∷ k.path; leads = ap (option_and_then (follow (cell_steps state) k.path)) (reference_of a i c e).1 ∙ k.leads });
  }

  -- an id that is no reference leads nowhere
  nowhere : (c : ℕ) (d : Cell) (path : List ℕ) (q : ℕ) (cell : Cell) → cell_at state c ≡ Some d → is_reference d ≡ false
      → follow (cell_steps state) path c ≡ Some q → cell_at state q ≡ Some cell → shape_of cell ≡ Some Any → ⊥
  nowhere c d [] q cell e r f k s =
      let same = one_answer (cell_at state q) d cell (subst (λ (n : ℕ). cell_at state n ≡ Some d) (some_is f) e) k in
      plain_shape d r (ap shape_of same ∙ s)
  nowhere c d (i ∷ path) q cell e r f k s =
      let g = then_some (follow (cell_steps state) path) (cell_steps state c i) q f in
      let n = step_is c i g.0 g.1.0 in
      let same = one_answer (cell_at state c) n.cell d n.is e in
      none-some g.0 (ap (λ (ids : List ℕ). slice_get ids i) (sym (ap ids_of same ∙ plain_names d r)) ∙ n.names)

  no_cell : (c : ℕ) (path : List ℕ) (q : ℕ) (cell : Cell) → cell_at state c ≡ None → follow (cell_steps state) path c ≡ Some q
      → cell_at state q ≡ Some cell → ⊥
  no_cell c [] q cell e f k = none-some cell (sym (subst (λ (n : ℕ). cell_at state n ≡ None) (some_is f) e) ∙ k)
  no_cell c (i ∷ path) q cell e f k =
      let g = then_some (follow (cell_steps state) path) (cell_steps state c i) q f in
      let n = step_is c i g.0 g.1.0 in
      none-some n.cell (sym e ∙ n.is)

  pub finite_from : (a : ℕ) → ((cell : Cell) → cell_at state a ≡ Some cell → shape_of cell ≡ Some Any → ⊥)
      → ((i c : ℕ) → counted_steps state a i ≡ Some c → IsFiniteId state c) → IsFiniteId state a
  finite_from a tame h = record {
    acyclic = dag_at (counted_steps state) a (λ i c e. (h i c e).acyclic);
    hazy = λ q cell k. on k.path q cell k.leads;
  }
    where
      by : (i c : ℕ) (path : List ℕ) (q : ℕ) (cell : Cell) (o : Option Cell) → cell_at state c ≡ o → cell_steps state a i ≡ Some c
          → follow (cell_steps state) path c ≡ Some q → cell_at state q ≡ Some cell → shape_of cell ≡ Some Any → ⊥
      by i c path q cell None e s f k = λ z. no_cell c path q cell e f k
      by i c path q cell (Some d) e s f k = elim (cases_Bool (is_reference d)) [
        | inl r ↦ λ z. (h i c (counted_step a i c (record { cell = d; is = e; sort_is = r }) s)).hazy q cell
            (record { path = path; leads = f }) k z
        | inr r ↦ λ z. nowhere c d path q cell e r f k z
      ]

      on : (path : List ℕ) (q : ℕ) (cell : Cell) → follow (cell_steps state) path a ≡ Some q → cell_at state q ≡ Some cell
          → shape_of cell ≡ Some Any → ⊥
      on [] q cell f k = tame cell (subst (λ (n : ℕ). cell_at state n ≡ Some cell) (sym (some_is f)) k)
      on (i ∷ path) q cell f k =
          let g = then_some (follow (cell_steps state) path) (cell_steps state a i) q f in
          by i g.0 path q cell (cell_at state g.0) refl g.1.0 g.1.1 k

  -- ---- the test

  counts_is : (c : ℕ) → HasCell is_reference state c → counts state c ≡ true
  counts_is c h = by (cell_at state c) h.is
    where
      by : (o : Option Cell) → o ≡ Some h.cell → is_of_sort is_reference o ≡ true
      by None e = absurd (none-some h.cell e)
      by (Some d) e = ap is_reference (some_is e) ∙ h.sort_is

  reference_by : (c : ℕ) → counts state c ≡ true → HasCell is_reference state c
  reference_by c e = by (cell_at state c) refl e
    where
      by : (o : Option Cell) → cell_at state c ≡ o → is_of_sort is_reference o ≡ true → HasCell is_reference state c
      by None k e = absurd (false≢true e)
      by (Some d) k e = record { cell = d; is = k; sort_is = e }

  true_is : (depth : ℕ) (passed : List Bool) (a : ℕ) → is_finite_by depth state passed a ≡ true → IsFiniteId state a
  true_is zero passed a e = absurd (false≢true e)
  true_is (suc depth) passed a e =
      let cell_is = (and_parts (not (get_or passed a false))
      (is_finite_cell (counts state) (is_finite_by depth state (set passed a true)) (cell_at state a)) e).1 in
      finite_from a
      (λ cell k. tame_shape (shape_of cell) (is_not (may_have_cycle (shape_of cell)) (parts cell k cell_is).0))
      (λ i c s.
      let r = reference_of a i c s in
      let n = step_is a i c r.1 in
      true_is depth (set passed a true) c (not_or (counts state c) (is_finite_by depth state (set passed a true) c) (counts_is c r.0)
      (holds_at (λ (id : ℕ). not (counts state id) || is_finite_by depth state (set passed a true) id) (ids_of n.cell) i c
      (parts n.cell n.is cell_is).1 n.names)))
    where
      parts : (cell : Cell) → cell_at state a ≡ Some cell
          → is_finite_cell (counts state) (is_finite_by depth state (set passed a true)) (cell_at state a) ≡ true
          → (not (may_have_cycle (shape_of cell)) ≡ true)
          × (list_all (λ (id : ℕ). not (counts state id) || is_finite_by depth state (set passed a true) id) (ids_of cell) ≡ true)
      parts cell k h =
          and_parts (not (may_have_cycle (shape_of cell)))
          (list_all (λ (id : ℕ). not (counts state id) || is_finite_by depth state (set passed a true) id) (ids_of cell))
          (ap (is_finite_cell (counts state) (is_finite_by depth state (set passed a true))) (sym k) ∙ h)

  -- what is said of the steps that are told to lead into a cycle
  abbrev Refuses : ℕ → Type 0
  Refuses depth = (passed : List Bool) (a : ℕ) → length passed ≡ above_ids state.cells → open_count passed < depth
      → ((x : ℕ) → IsMarked passed x → ComesTo (counted_steps state) x a) →
      is_finite_by depth state passed a ≡ false → IsFiniteId state a → ⊥

  refuses_cell : (depth : ℕ) → Refuses depth → (passed : List Bool) (a : ℕ) → length passed ≡ above_ids state.cells
      → open_count passed < suc depth → ((x : ℕ) → IsMarked passed x → ComesTo (counted_steps state) x a) →
      IsFiniteId state a → get_or passed a false ≡ false → (o : Option Cell) → cell_at state a ≡ o
      → is_finite_cell (counts state) (is_finite_by depth state (set passed a true)) o ≡ false → ⊥
  refuses_cell depth rest passed a size few came f m None k h = false≢true (sym h)
  refuses_cell depth rest passed a size few came f m (Some d) k h = elim (cases_Bool (may_have_cycle (shape_of d))) [
    | inl w ↦ f.hazy a d (record { path = []; leads = refl }) k (wild_shape (shape_of d) w)
    | inr w ↦
        let r = some_refused (λ (id : ℕ). not (counts state id) || is_finite_by depth state (set passed a true) id) (ids_of d)
        (not_both (may_have_cycle (shape_of d))
        (list_all (λ (id : ℕ). not (counts state id) || is_finite_by depth state (set passed a true) id) (ids_of d)) h w) in
        let n = neither (counts state r.item) (is_finite_by depth state (set passed a true) r.item) r.refused in
        let step = counted_step a r.place r.item (reference_by r.item n.0)
        (is_step a r.place r.item (record { cell = d; is = k; names = r.there })) in
        let low = low_id state.cells a d k in
        let fewer = fewer_open passed a (omega (arith, low, size)) (λ marked. false≢true (sym m ∙ marked)) in
        rest (set passed a true) r.item (length-set passed a true ∙ size) (omega (arith, fewer, few))
        (λ x marked. elim (set_only passed a x marked) [
          | inl before ↦ step_more (counted_steps state) x a r.place r.item (came x before) step
          | inr s ↦ subst (λ (y : ℕ). ComesTo (counted_steps state) y r.item) (sym s)
              (one_step (counted_steps state) a r.place r.item step)
        ]) n.1 (finite_after a r.place r.item f step)
  ]

  false_is : (depth : ℕ) → Refuses depth
  false_is zero passed a size few came e f = omega (arith, few)
  false_is (suc depth) passed a size few came e f = elim (cases_Bool (get_or passed a false)) [
    | inl m ↦ no_return (counted_steps state) a f.acyclic (came a m)
    | inr m ↦
        refuses_cell depth (false_is depth) passed a size few came f m (cell_at state a) refl
        (not_both (get_or passed a false)
        (is_finite_cell (counts state) (is_finite_by depth state (set passed a true)) (cell_at state a)) e m)
  ]

pub is_finite : (state : AbstractState) (id : ℕ) → is_finite_id state id ≡ true → IsFiniteId state id
unfolding is_finite_id
is_finite state id e = true_is state (suc (open_count (none_passed state))) (none_passed state) id e

pub not_finite : (state : AbstractState) (id : ℕ) → is_finite_id state id ≡ false → IsFiniteId state id → ⊥
unfolding is_finite_id
not_finite state id e =
    false_is state (suc (open_count (none_passed state))) (none_passed state) id (length-replicate (above_ids state.cells) false)
    (omega arith)
    (λ x marked. absurd (none_marked (above_ids state.cells) x marked)) e
