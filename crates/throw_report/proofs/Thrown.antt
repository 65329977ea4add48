-- What an End node in throwing mode throws has an `Obj`: any other cell is refined, or has no child, before a frame is left.
use Rattle.std.proofs.Common.{◌≡◌, ◌∙◌, inl, inr, ℕ, Bool, true, false, cond, List, [], ◌∷◌, Option, Some, None, slice_get}
use Rattle.std.proofs.Common.{refl, sym, subst}
use Rattle.std.proofs.Common.{arith, eqb, ltb}
use Rattle.std.specs.Prelude.{◌&&◌, ◌||◌, filter, length}
use Rattle.std.specs.List.{find, list_any}
use Rattle.std.specs.Option.{option_map_or, is_none}
use Rattle.std.proofs.lemmas.Bool.{false≢true, and_parts, or_cases, or_right, ne_eqb, ltb-true}
use Rattle.jvm_values.specs.declared.types.Ty.{Ty}
use Rattle.jvm_values.specs.declared.types.Base.TheVariants.{Class}
use Rattle.jvm_values.specs.declared.typing.PlaceType.TheVariants as places
use Rattle.jvm_values.specs.Subtyping.{class_type, array_of, array_of_numbers}
use Rattle.jvm_values.specs.TypedHeaps.{WorldTypes}
use Rattle.abs_cells.specs.declared.cells.Cell.{Cell}
use Rattle.abs_cells.specs.declared.cells.Cell.TheVariants as cells
use Rattle.abs_cells.specs.AbstractStates.{AbstractFrame, AbstractState}
use Rattle.abs_cells.specs.Cells.{cell_at, is_comparable}
use Rattle.abs_cells.specs.Sound.{is_object}
use Rattle.class_world.specs.BuiltIns.{throwable}
use Rattle.class_world.specs.World.{World}
use Rattle.class_world.specs.Types.{is_sub, is_sub_by, is_class_below, is_reference, is_base_below}
use Rattle.class_world.specs.Types.{is_object as is_top}
use Rattle.class_world.specs.WorldTypes.{types_of}
use Rattle.class_program.specs.declared.program.CatchRange.{CatchRange}
use Rattle.class_program.specs.declared.program.Method.{Method}
use Rattle.class_program.specs.Programs.{Program}
use Rattle.code_verify.specs.Flows.{covers}
use Rattle.frame_types.specs.Tables.{CodeTypes}
use Rattle.term_graph.specs.declared.nodes.By.{By}
use Rattle.term_graph.specs.declared.nodes.By.TheVariants.{End}
use Rattle.abs_turns.specs.Plans.{Plan, ends, steps, by_null, by_class, by_equal}
use Rattle.abs_turns.specs.Needs.{Passing, passes, fails, splits, passes_if, passing, passing_id, is_unknown}
use Rattle.abs_turns.specs.Needs.{split_unknown, split_below, known_partner}
use Rattle.abs_turns.specs.Throwing.{takes, is_open, may_take, before_taker, handled, caught_plan, if_passes, throwing_plan}
use Rattle.cert_check.specs.abs_plans.Planning.{plan_in, plan_of}
use Rattle.cert_check.proofs.abs_expand.ZipLists.{beside}
use Rattle.cert_check.specs.graph_check.Good.{IsLeftBy, IsGoodNode}
use Rattle.throw_report.specs.Laws.{HasObject, EndNodesThrowObjects}

-- ---- plans

abbrev Ends : Plan → Type 0
Ends ends = Unit {0}
Ends (steps turns) = ⊥
Ends (by_null x) = ⊥
Ends (by_class x t) = ⊥
Ends (by_equal x y) = ⊥

passed : (q : Passing) (plan : Plan) → Ends (if_passes q plan) → (q ≡ passes) × Ends plan
passed passes plan e = (refl, e)
passed fails plan e = absurd e
passed splits plan e = absurd e

no_split : (id : ℕ) (t : Ty) (other : Option ℕ) → Ends (split_unknown id t other) → ⊥
no_split id t None e = e
no_split id t (Some other) e = e

none_takes : (x : ℕ) (frame : AbstractFrame) (below : List AbstractFrame) (range : Option CatchRange)
    → Ends (handled x frame below range) → range ≡ None
none_takes x frame below (Some range) e = absurd e
none_takes x frame below None e = refl

-- what ends isn't open, and nothing takes it
not_open : (types : WorldTypes) (state : AbstractState) (x : ℕ) (frame : AbstractFrame) (below : List AbstractFrame)
    (ranges : List CatchRange) (b : Bool) → is_open types state x ranges ≡ b
    → Ends (cond b (split_below state x (places.Ref (class_type throwable))) (handled x frame below (find (takes types state x) ranges)))
    → (is_open types state x ranges ≡ false) × (find (takes types state x) ranges ≡ None)
not_open types state x frame below ranges true is e = absurd (no_split x (class_type throwable) (known_partner state x) e)
not_open types state x frame below ranges false is e = (is, none_takes x frame below (find (takes types state x) ranges) e)

-- its class is known, then
known_by : (unknown any none : Bool) → (unknown && (any || none)) ≡ false → none ≡ true → unknown ≡ false
known_by false any none e n = refl
known_by true any none e n = absurd (false≢true (sym e ∙ or_right any none n))

none_is : (o : Option CatchRange) → o ≡ None → is_none o ≡ true
none_is o e = rw e refl

pub record Passed (types : WorldTypes) (state : AbstractState) (x : ℕ) : Type 0 where
  pub tested : passing_id types state (places.Ref (class_type throwable)) x ≡ passes
  pub known : is_unknown (cell_at state x) ≡ false

throwing_ends : (types : WorldTypes) (state : AbstractState) (x : ℕ) (frame : AbstractFrame) (below : List AbstractFrame)
    (table : List CatchRange) → Ends (throwing_plan types state x frame below table) → Passed types state x
throwing_ends types state x frame below table e =
    let ranges = filter (covers frame.pc) table in
    let both = passed (passing_id types state (places.Ref (class_type throwable)) x) (caught_plan types state x frame below ranges) e in
    let shut = not_open types state x frame below ranges (is_open types state x ranges) refl both.1 in
    record {
      tested = both.0;
      known = known_by (is_unknown (cell_at state x)) (list_any (may_take types state x) (before_taker types state x ranges))
          (is_none (find (takes types state x) ranges)) shut.0
          (none_is (find (takes types state x) ranges) shut.1);
    }

plan_ends : (p : Program) (typing : ℕ → CodeTypes) (state : AbstractState) (x : ℕ) (frames : List AbstractFrame)
    → Ends (plan_in p typing state (Some x) frames) → Passed (types_of p.world) state x
plan_ends p typing state x [] e = absurd e
plan_ends p typing state x (frame ∷ below) e = throwing_ends (types_of p.world) state x frame below
    (option_map_or (λ (m : Method). m.table) (slice_get p.methods frame.method) []) e

-- ---- cells

-- what a test of two types asks of their dimensions
by_dims : (classes : ℕ) (below : ℕ → ℕ → Bool) (a b : Ty) → is_sub_by classes below a b ≡ true
    → cond (eqb a.dims b.dims) (is_base_below below a.base b.base) (ltb b.dims a.dims && is_top b.base) ≡ true
unfolding is_sub_by
by_dims classes below a b e = (and_parts (is_reference classes a && is_reference classes b) _ e).1

-- no array is below Throwable, and it is below none
no_array_below : (world : World) (a : Ty) → (a.dims ≡ 0 → ⊥) → is_sub world a (class_type throwable) ≡ true → ⊥
no_array_below world a deep e =
    let k = by_dims (length world) (is_class_below world) a (class_type throwable) e in
    let j = subst (λ (b : Bool). cond b (is_base_below (is_class_below world) a.base (Class throwable))
    (ltb 0 a.dims && is_top (Class throwable)) ≡ true) (ne_eqb a.dims 0 deep) k in
    false≢true (and_parts (ltb 0 a.dims) (is_top (Class throwable)) j).1

no_array_above : (world : World) (a : Ty) → (a.dims ≡ 0 → ⊥) → is_sub world (class_type throwable) a ≡ true → ⊥
no_array_above world a deep e =
    let k = by_dims (length world) (is_class_below world) (class_type throwable) a e in
    let j = subst (λ (b : Bool). cond b (is_base_below (is_class_below world) (Class throwable) a.base)
    (ltb a.dims 0 && is_top a.base) ≡ true) (ne_eqb 0 a.dims (λ z. deep (sym z))) k in
    let l = ltb-true a.dims 0 (and_parts (ltb a.dims 0) (is_top a.base) j).0 in
    omega (arith, l)

it_passes : (b : Bool) → passes_if b fails ≡ passes → b ≡ true
it_passes true e = refl
it_passes false e = absurd cc

by_cell : (p : Program) (state : AbstractState) (id : ℕ) (cell : Cell) → cell_at state id ≡ Some cell → is_object cell ≡ true
    → passing (types_of p.world) (places.Ref (class_type throwable)) cell ≡ passes → is_unknown (Some cell) ≡ false → HasObject state id
by_cell p state id (cells.Int interval) at o q u = absurd (false≢true o)
by_cell p state id cells.Null at o q u = absurd (false≢true o)
by_cell p state id (cells.Obj class ids) at o q u = record { class = class; fields = ids; cell = at }
by_cell p state id (cells.Nums kind len) at o q u = absurd (no_array_below p.world (array_of_numbers kind) (λ k. omega (arith, k))
    (it_passes (is_sub p.world (array_of_numbers kind) (class_type throwable)) q))
by_cell p state id (cells.Refs element len shape) at o q u = absurd (elim (or_cases
    (is_sub p.world (array_of element) (class_type throwable)) (is_sub p.world (class_type throwable) (array_of element))
    (it_passes (is_comparable (is_sub p.world) (array_of element) (class_type throwable)) q)) as (λ o. ⊥) [
      | inl e ↦ no_array_below p.world (array_of element) (λ k. omega (arith, k)) e
      | inr e ↦ no_array_above p.world (array_of element) (λ k. omega (arith, k)) e
    ])
by_cell p state id (cells.Unk bound nullable shape) at o q u = absurd (false≢true (sym u ∙ o))

by_passed : (p : Program) (state : AbstractState) (id : ℕ) (cell : Cell) → cell_at state id ≡ Some cell → is_object cell ≡ true
    → Passed (types_of p.world) state id → HasObject state id
by_passed p state id cell at o h = by_cell p state id cell at o
    (subst (λ (found : Option Cell). option_map_or (passing (types_of p.world) (places.Ref (class_type throwable))) found passes ≡ passes)
    at h.tested)
    (subst (λ (found : Option Cell). is_unknown found ≡ false) at h.known)

pub ends_throw : EndNodesThrowObjects
ends_throw p typing nodes root links good n node is by_end id thrown =
    let at = beside (IsGoodNode p typing nodes) nodes links n node good.each is in
    let left : IsLeftBy p typing nodes node.state End at.other = subst
    (λ (b : By). IsLeftBy p typing nodes node.state b at.other) by_end at.alike in
    let planned : Ends (plan_of p typing node.state) = subst Ends (sym left.0.1) tt in
    let has = left.0.0.sound.thrown id thrown in
    by_passed p node.state id has.cell has.is has.sort_is (plan_ends p typing node.state id node.state.frames
    (subst (λ (o : Option ℕ). Ends (plan_in p typing node.state o node.state.frames)) thrown planned))
