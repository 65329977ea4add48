-- States with the same frames, thrown id, cells and pairs, in whatever order their pairs are listed; and what is left of them without the
-- ids that nothing reaches.
use Rattle.std.proofs.Common.{◌≡◌, ◌<◌, ◌∙◌, ◌↔◌, ◌++◌, ℕ, suc, Bool, true, false, eqb, List, [], ◌∷◌, Option, Some, None}
use Rattle.std.proofs.Common.{slice_get, inl, inr, refl, sym, ap, subst, arith}
use Rattle.std.specs.List.{AllZip, flat_map}
use Rattle.std.specs.Option.{option_and_then}
use Rattle.std.proofs.lemmas.Bool.{cases_lt, eqb-true, ne_eqb, cases_Bool}
use Rattle.std.proofs.lemmas.Option.{none-some}
use Rattle.abs_cells.proofs.CellLaws.{first_cell_is, past_first_cell}
use Rattle.jvm_values.proofs.Options.{some_is}
use Rattle.jvm_values.specs.Paths.{Reaches}
use Rattle.abs_cells.specs.declared.cells.Cell.{Cell}
use Rattle.abs_cells.specs.AbstractStates.{AbstractFrame, AbstractState}
use Rattle.abs_cells.specs.Cells.{ids_in, cell_in, cell_at, HasCell, AreEqual, Share}
use Rattle.abs_cells.specs.Sound.{AreIdsRising, given_ids, ids_of_frame}
use Rattle.abs_reach.proofs.Same.{state_same, pairs_same}
use Rattle.abs_reach.specs.Reached.{named_steps, positions, IsReached}
use Rattle.abs_expand.specs.AbsHeapGiven.{IsPair, IsGiven}
use Rattle.abs_expand.specs.TermGraphGraphs.{GraphChild}
use Rattle.abs_expand.specs.Children.{IsLean}

-- ---- cells

none_low : (low id : ℕ) (cells : List (ℕ × Cell)) → AreIdsRising low cells → id < low → cell_in cells id ≡ None
none_low low id [] rise l = refl
none_low low id (c ∷ cells) rise l =
    past_first_cell c cells id (ne_eqb c.0 id (omega (arith, l, rise.0))) ∙ none_low (suc c.0) id cells rise.1.1 (omega (arith, l, rise.0))

no_lower : (x y : ℕ × Cell) (xs ys : List (ℕ × Cell)) (low : ℕ) → AreIdsRising low (y ∷ ys)
    → ((id : ℕ) → cell_in (x ∷ xs) id ≡ cell_in (y ∷ ys) id) → x.0 < y.0 → ⊥
no_lower x y xs ys low rise same l =
    none-some x.1 (sym (none_low y.0 x.0 (y ∷ ys) (omega arith, rise.1) l) ∙ sym (same x.0) ∙ first_cell_is x xs)

pub cells_one : (low : ℕ) (xs ys : List (ℕ × Cell)) → AreIdsRising low xs → AreIdsRising low ys
    → ((id : ℕ) → cell_in xs id ≡ cell_in ys id) → xs ≡ ys
cells_one low [] [] r s same = refl
cells_one low [] (y ∷ ys) r s same = absurd (none-some y.1 (same y.0 ∙ first_cell_is y ys))
cells_one low (x ∷ xs) [] r s same = absurd (none-some x.1 (sym (same x.0) ∙ first_cell_is x xs))
cells_one low (x ∷ xs) (y ∷ ys) r s same =
    let e : x.0 ≡ y.0 = elim (cases_lt x.0 y.0) [
      | inl l ↦ absurd (no_lower x y xs ys low s same l)
      | inr l ↦ elim (cases_lt y.0 x.0) [
        | inl m ↦ absurd (no_lower y x ys xs low r (λ id. sym (same id)) m)
        | inr m ↦ omega (arith, l, m)
      ]
    ] in
    let cell : x.1 ≡ y.1 = some_is (sym (first_cell_is x xs) ∙ same x.0 ∙ ap (cell_in (y ∷ ys)) e ∙ first_cell_is y ys) in
    let tails : xs ≡ ys = cells_one (suc x.0) xs ys r.1.1 (subst (λ n. AreIdsRising (suc n) ys) (sym e) s.1.1) (λ id.
    elim (cases_Bool (eqb x.0 id)) [
      | inl t ↦
          let is = eqb-true x.0 id t in
          none_low (suc x.0) id xs r.1.1 (omega (arith, is)) ∙ sym (none_low (suc y.0) id ys s.1.1 (omega (arith, is, e)))
      | inr f ↦ sym (past_first_cell x xs id f) ∙ same id ∙ past_first_cell y ys id (ap (λ n. eqb n id) (sym e) ∙ f)
    ]) in
    ap (λ n. (n, x.1) ∷ xs) e ∙ ap (λ d. (y.0, d) ∷ xs) cell ∙ ap (λ zs. y ∷ zs) tails

-- ---- states

pub record Alike (a b : AbstractState) : Type 0 where
  pub frames : a.frames ≡ b.frames
  pub throwing : a.throwing ≡ b.throwing
  pub cells : a.cells ≡ b.cells
  pub eq : (x y : ℕ) → AreEqual a x y ↔ AreEqual b x y
  pub share : (x y : ℕ) → Share a x y ↔ Share b x y

turned : {P Q : Type 0} → P ↔ Q → Q ↔ P
turned e = (e.1, e.0)

onward : {P Q R : Type 0} → P ↔ Q → Q ↔ R → P ↔ R
onward e f = (λ h. f.0 (e.0 h), λ h. e.1 (f.1 h))

pub itself : (a : AbstractState) → Alike a a
itself a = record { frames = refl; throwing = refl; cells = refl; eq = λ x y. (λ h. h, λ h. h); share = λ x y. (λ h. h, λ h. h) }

pub back : (a b : AbstractState) → Alike a b → Alike b a
back a b s = record {
  frames = sym s.frames;
  throwing = sym s.throwing;
  cells = sym s.cells;
  eq = λ x y. turned (s.eq x y);
  share = λ x y. turned (s.share x y);
}

pub between : (a b c : AbstractState) → Alike a b → Alike b c → Alike a c
between a b c s t = record {
  frames = s.frames ∙ t.frames;
  throwing = s.throwing ∙ t.throwing;
  cells = s.cells ∙ t.cells;
  eq = λ x y. onward (s.eq x y) (t.eq x y);
  share = λ x y. onward (s.share x y) (t.share x y);
}

pub as_equal : (a b : AbstractState) → a ≡ b → Alike a b
as_equal a b e = subst (Alike a) e (itself a)

pub has_alike : (a b : AbstractState) (sort : Cell → Bool) (id : ℕ) → Alike a b → HasCell sort a id → HasCell sort b id
has_alike a b sort id s h = record { cell = h.cell; is = ap (λ cs. cell_in cs id) (sym s.cells) ∙ h.is; sort_is = h.sort_is }

pub cell_alike : (a b : AbstractState) (id : ℕ) → Alike a b → cell_at a id ≡ cell_at b id
cell_alike a b id s = ap (λ cs. cell_in cs id) s.cells

reached_alike : (a b : AbstractState) (id : ℕ) → Alike a b → IsReached a id → IsReached b id
reached_alike a b id s r = record {
  place = r.place;
  start = r.start;
  stands =
      ap (λ ps. slice_get ps r.place) (sym (ap (λ fs. flat_map ids_of_frame fs ++ given_ids (a.throwing ∷ [])) s.frames
      ∙ ap (λ t. flat_map ids_of_frame b.frames ++ given_ids (t ∷ [])) s.throwing))
      ∙ r.stands;
  reaches = subst (λ cs. Reaches (λ k i. option_and_then (λ cell. slice_get (ids_in cell) i) (cell_in cs k)) r.start id) s.cells r.reaches;
}

-- ---- states that are given

pair_alike : (wanted other : ℕ → ℕ → Type 0) (cells more : List (ℕ × Cell)) (x y : ℕ) → cells ≡ more
    → ((u v : ℕ) → wanted u v → other u v) → IsPair wanted cells x y → IsPair other more x y
pair_alike wanted other cells more x y e to h =
    subst (λ cs. IsPair other cs x y) e (h.0, (h.1.0, elim h.1.1 [ inl w ↦ inl (to x y w) | inr w ↦ inr (to y x w) ]))

-- the cells of two that have them by the same function
pub given_cells : {frames others : List AbstractFrame} {thrown other : Option ℕ} {cell more : ℕ → Option Cell}
    {equal equals sharing shares : ℕ → ℕ → Type 0}
    {a b : AbstractState} → IsGiven frames thrown cell equal sharing a → IsGiven others other more equals shares b
    → ((id : ℕ) → cell id ≡ more id) → a.cells ≡ b.cells
given_cells {a = a} {b = b} g h c = cells_one 0 a.cells b.cells g.rising h.rising (λ id. g.cells id ∙ c id ∙ sym (h.cells id))

pub given_alike : {frames others : List AbstractFrame} {thrown other : Option ℕ} {cell more : ℕ → Option Cell}
    {equal equals sharing shares : ℕ → ℕ → Type 0}
    {a b : AbstractState} → IsGiven frames thrown cell equal sharing a → IsGiven others other more equals shares b
    → frames ≡ others → thrown ≡ other → ((id : ℕ) → cell id ≡ more id)
    → ((x y : ℕ) → equal x y ↔ equals x y) → ((x y : ℕ) → sharing x y ↔ shares x y) → Alike a b
given_alike {equal = equal} {equals = equals} {sharing = sharing} {shares = shares} {a = a} {b = b} g h f t c e s =
    let same : a.cells ≡ b.cells = given_cells g h c in
    record {
      frames = g.frames_are ∙ f ∙ sym h.frames_are;
      throwing = g.throwing_is ∙ t ∙ sym h.throwing_is;
      cells = same;
      eq = λ x y. (
        λ k. (h.eq x y).1 (pair_alike equal equals a.cells b.cells x y same (λ u v. (e u v).0) ((g.eq x y).0 k)),
        λ k. (g.eq x y).1 (pair_alike equals equal b.cells a.cells x y (sym same) (λ u v. (e u v).1) ((h.eq x y).0 k)),
      );
      share = λ x y. (
        λ k. (h.share x y).1 (pair_alike sharing shares a.cells b.cells x y same (λ u v. (s u v).0) ((g.share x y).0 k)),
        λ k. (g.share x y).1 (pair_alike shares sharing b.cells a.cells x y (sym same) (λ u v. (s u v).1) ((h.share x y).0 k)),
      );
    }

-- ---- what is left without the ids that nothing reaches

module _ (whole other : GraphChild) (c d : GraphChild) (s : Alike whole.state other.state) (g : IsLean whole c) (h : IsLean other d) where
  to_other : (id : ℕ) → IsReached whole.state id → IsReached other.state id
  to_other id = reached_alike whole.state other.state id s

  to_whole : (id : ℕ) → IsReached other.state id → IsReached whole.state id
  to_whole id = reached_alike other.state whole.state id (back whole.state other.state s)

  if_reached : (id : ℕ) → IsReached whole.state id → cell_at c.state id ≡ cell_at d.state id
  if_reached id r = g.dropped.kept id r ∙ cell_alike whole.state other.state id s ∙ sym (h.dropped.kept id (to_other id r))

  cell_same : (id : ℕ) (o q : Option Cell) → cell_at c.state id ≡ o → cell_at d.state id ≡ q → cell_at c.state id ≡ cell_at d.state id
  cell_same id None None e f = e ∙ sym f
  cell_same id (Some cell) q e f = if_reached id (g.dropped.gone id (record { cell = cell; is = e; sort_is = refl }))
  cell_same id None (Some cell) e f = if_reached id (to_whole id (h.dropped.gone id (record { cell = cell; is = f; sort_is = refl })))

  pub lean_same : c.state ≡ d.state
  lean_same =
      state_same c.state d.state (
        g.dropped.throwing ∙ s.throwing ∙ sym h.dropped.throwing,
        g.dropped.frames ∙ s.frames
            ∙ sym h.dropped.frames,
      ) (
        cells_one 0 c.state.cells d.state.cells g.rising h.rising (λ id. cell_same id (cell_at c.state id) (cell_at d.state id) refl refl),
        (
          pairs_same c.state.eq d.state.eq g.eq_rise h.eq_rise
              (λ x y k. let p = (g.dropped.eq x y).0 k in (h.dropped.eq x y).1 ((s.eq x y).0 p.0, (to_other x p.1.0, to_other y p.1.1)))
              (λ x y k. let p = (h.dropped.eq x y).0 k in (g.dropped.eq x y).1 ((s.eq x y).1 p.0, (to_whole x p.1.0, to_whole y p.1.1))),
          pairs_same c.state.share d.state.share g.share_rise h.share_rise
              (λ x y k. let p = (g.dropped.share x y).0 k in (h.dropped.share x y).1
              ((s.share x y).0 p.0, (to_other x p.1.0, to_other y p.1.1)))
              (λ x y k. let p = (h.dropped.share x y).0 k in (g.dropped.share x y).1
              ((s.share x y).1 p.0, (to_whole x p.1.0, to_whole y p.1.1))),
        ),
      )

-- ---- children, and lists of them

pub record IsAlikeChild (one other : GraphChild) : Type 0 where
  pub states : Alike one.state other.state
  pub links : one.link ≡ other.link

child_same : (whole other c d : GraphChild) → IsAlikeChild whole other → IsLean whole c → IsLean other d → c ≡ d
child_same whole other c d s g h =
    ap (λ state. record c { state = state }) (lean_same whole other c d s.states g h)
    ∙ ap (λ link. record d { link = link }) (g.link ∙ s.links ∙ sym h.link)

pub leans_same : (wholes others c d : List GraphChild) → AllZip IsAlikeChild wholes others → AllZip IsLean wholes c
    → AllZip IsLean others d → c ≡ d
leans_same [] [] [] [] s g h = refl
leans_same [] [] (x ∷ c) d s g h = absurd g
leans_same [] [] [] (y ∷ d) s g h = absurd h
leans_same [] (o ∷ os) c d s g h = absurd s
leans_same (w ∷ ws) [] c d s g h = absurd s
leans_same (w ∷ ws) (o ∷ os) [] d s g h = absurd g
leans_same (w ∷ ws) (o ∷ os) (x ∷ c) [] s g h = absurd h
leans_same (w ∷ ws) (o ∷ os) (x ∷ c) (y ∷ d) s g h =
    ap (λ first. first ∷ c) (child_same w o x y s.0 g.0 h.0) ∙ ap (λ rest. y ∷ rest) (leans_same ws os c d s.1 g.1 h.1)
