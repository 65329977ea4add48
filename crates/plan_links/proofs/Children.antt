-- The int that a step makes and keeps is in its child.
use Rattle.std.proofs.Common.{◌≡◌, ◌∙◌, ◌<◌, ℕ, zero, suc, Bool, if◌then◌else◌, List, [], ◌∷◌, ◌++◌, length, Option, Some, None}
use Rattle.std.proofs.Common.{slice_get, refl, sym, ap, subst, arith, eq-eqb}
use Rattle.std.specs.Prelude.{slice_set}
use Rattle.std.specs.List.{flat_map}
use Rattle.std.proofs.lemmas.Option.{none-some}
use Rattle.jvm_values.specs.TypedHeaps.{WorldTypes}
use Rattle.abs_cells.specs.declared.cells.Cell.TheVariants as cells
use Rattle.abs_cells.specs.AbstractStates.{AbstractFrame, AbstractState}
use Rattle.abs_cells.specs.Cells.{is_int, cell_at, HasCell}
use Rattle.abs_cells.specs.Sound.{given_ids, ids_of_frame}
use Rattle.abs_expand.specs.AbsReachReached.{IsReached}
use Rattle.term_graph.specs.Graphs.{GraphChild}
use Rattle.abs_expand.specs.AbsHeapGiven.{first_cell}
use Rattle.abs_expand.specs.Children.{IsActed, top_with, gone_to, IsTurnChild, IsLean}
use Rattle.abs_expand.specs.Plans.{Act, Goal, nowhere, on_stack, in_local, in_bottom, in_field, is_thrown, Turn}
use Rattle.plan_links.proofs.Rows.{Keeps, IsKept}

-- ---- places of lists

abbrev Stands : List ℕ → ℕ → Type 0
Stands xs id = (n : ℕ) × (slice_get xs n ≡ Some id)

stands_before : (xs ys : List ℕ) (id n : ℕ) → slice_get xs n ≡ Some id → slice_get (xs ++ ys) n ≡ Some id
stands_before [] ys id n e = absurd (none-some id e)
stands_before (x ∷ xs) ys id zero e = e
stands_before (x ∷ xs) ys id (suc n) e = stands_before xs ys id n e

first_stands : (xs ys : List ℕ) (id : ℕ) → Stands xs id → Stands (xs ++ ys) id
first_stands xs ys id s = (s.0, stands_before xs ys id s.0 s.1)

second_stands : (xs ys : List ℕ) (id : ℕ) → Stands ys id → Stands (xs ++ ys) id
second_stands [] ys id s = s
second_stands (x ∷ xs) ys id s = let r = second_stands xs ys id s in (suc r.0, r.1)

given_stands : (locals : List (Option ℕ)) (n id : ℕ) → n < length locals → Stands (given_ids (slice_set locals n (Some id))) id
given_stands [] n id l = absurd (omega (arith, l))
given_stands (None ∷ locals) zero id l = (0, refl)
given_stands (Some y ∷ locals) zero id l = (0, refl)
given_stands (None ∷ locals) (suc n) id l = given_stands locals n id (omega (arith, l))
given_stands (Some y ∷ locals) (suc n) id l = let r = given_stands locals n id (omega (arith, l)) in (suc r.0, r.1)

-- ---- an id that stands where a goal says

abbrev on_top : ℕ → AbstractFrame → AbstractFrame
on_top id frame = record frame { stack = id ∷ frame.stack }

abbrev in_place : ℕ → ℕ → AbstractFrame → AbstractFrame
in_place n id frame = record frame { locals = slice_set frame.locals n (Some id) }

stack_stands : (id : ℕ) (frames : List AbstractFrame) → Keeps on_stack frames
    → Stands (flat_map ids_of_frame (top_with (on_top id) frames)) id
stack_stands id [] k = absurd k
stack_stands id (frame ∷ below) k = first_stands (given_ids frame.locals ++ (id ∷ frame.stack)) (flat_map ids_of_frame below) id
    (second_stands (given_ids frame.locals) (id ∷ frame.stack) id (0, refl))

local_stands : (n id : ℕ) (frames : List AbstractFrame) → Keeps (in_local n) frames
    → Stands (flat_map ids_of_frame (top_with (in_place n id) frames)) id
local_stands n id [] k = absurd k
local_stands n id (frame ∷ below) k = first_stands (given_ids (slice_set frame.locals n (Some id)) ++ frame.stack)
    (flat_map ids_of_frame below) id
    (first_stands (given_ids (slice_set frame.locals n (Some id))) frame.stack id (given_stands frame.locals n id k))

goal_stands : (goal : Goal) (id : ℕ) (acted : AbstractState) → Keeps goal acted.frames
    → Stands (flat_map ids_of_frame (gone_to goal id acted).frames) id
goal_stands nowhere id acted k = absurd k
goal_stands on_stack id acted k = stack_stands id acted.frames k
goal_stands (in_local n) id acted k = local_stands n id acted.frames k
goal_stands (in_bottom n) id acted k = absurd k
goal_stands (in_field m place) id acted k = absurd k
goal_stands is_thrown id acted k = absurd k

goal_cells : (goal : Goal) (id : ℕ) (acted : AbstractState) → Keeps goal acted.frames
    → cell_at (gone_to goal id acted) id ≡ cell_at acted id
goal_cells nowhere id acted k = absurd k
goal_cells on_stack id acted k = refl
goal_cells (in_local n) id acted k = refl
goal_cells (in_bottom n) id acted k = absurd k
goal_cells (in_field m place) id acted k = absurd k
goal_cells is_thrown id acted k = absurd k

reached : (state : AbstractState) (id : ℕ) → Stands (flat_map ids_of_frame state.frames) id → IsReached state id
reached state id s = record {
  place = s.0;
  start = id;
  stands = stands_before (flat_map ids_of_frame state.frames) (given_ids (state.throwing ∷ [])) id s.0 s.1;
  reaches = record { path = []; leads = refl };
}

-- the child has the int that a step makes and keeps
pub kept_int : (types : WorldTypes) (state : AbstractState) (turn : Turn) (whole child : GraphChild)
    (is : IsTurnChild types state turn whole) → IsLean whole child → IsKept turn → HasCell is_int child.state is.id
kept_int types state turn whole child is lean kept =
    let acted = subst (λ (act : Act). IsActed types act is.id is.changed is.acted) kept.is is.is_acted in
    let frames : turn.frames ≡ is.acted.frames = sym (acted.1.frames_are ∙ is.is_changed.frames_are) in
    let keeps : Keeps turn.goal is.acted.frames = subst (Keeps turn.goal) frames kept.goes in
    let stands : IsReached whole.state is.id = subst (λ (s : AbstractState). IsReached s is.id) (sym is.is)
    (reached (gone_to turn.goal is.id is.acted) is.id (goal_stands turn.goal is.id is.acted keeps)) in
    let made : cell_at is.acted is.id ≡ Some (cells.Int kept.interval) = acted.1.cells is.id
    ∙ ap (λ (b : Bool). first_cell (if b then Some (cells.Int kept.interval) else None) (cell_at is.changed is.id))
    (eq-eqb is.id is.id refl) in
    record {
      cell = cells.Int kept.interval;
      is = lean.dropped.kept is.id stands
          ∙ (ap (λ (s : AbstractState). cell_at s is.id) is.is ∙ (goal_cells turn.goal is.id is.acted keeps ∙ made));
      sort_is = refl;
    }
