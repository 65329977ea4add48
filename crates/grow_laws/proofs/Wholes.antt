-- Children before ids are dropped, and what they are without the ids that nothing reaches.
use Rattle.std.proofs.Common.{◌≡◌, ◌∙◌, ℕ, List, [], ◌∷◌, Some, sym, subst}
use Rattle.std.specs.List.{AllByRecursion, AllZip}
use Rattle.std.proofs.lemmas.List.Elements.{All-from_recursion}
use Rattle.abs_cells.specs.declared.cells.Cell.{Cell}
use Rattle.abs_cells.specs.AbstractStates.{AbstractState}
use Rattle.abs_cells.specs.Cells.{HasCell}
use Rattle.abs_cells.specs.Sound.{is_object, IsSoundCell, IsWellFormed}
use Rattle.abs_match.specs.Laws.{DroppedStatesReachAll}
use Rattle.class_world.specs.WorldTypes.{types_of}
use Rattle.class_program.specs.Programs.{Program}
use Rattle.frame_types.specs.Tables.{CodeTypes}
use Rattle.term_graph.specs.Graphs.{GraphChild}
use Rattle.place_sorts.specs.AbsExpandBadStates.{ArePlaced}
use Rattle.place_sorts.specs.AbsExpandChildren.{IsLean}
use Rattle.place_sorts.specs.Growing.{WaitBelow, IsGrowing}
use Rattle.place_sorts.proofs.Dropping.{left_formed, left_sound, left_thrown, left_placed}
use Rattle.place_sorts.proofs.SortLists.{each_listed}
use Rattle.place_sorts.proofs.Waiting.{at_calls}
use Rattle.grow_laws.proofs.NewCells.{AreSound}

-- a child before ids are dropped
pub record IsWhole (p : Program) (typing : ℕ → CodeTypes) (whole : AbstractState) : Type 0 where
  pub formed : IsWellFormed whole
  pub framed : whole.frames ≡ [] → ⊥
  pub cells : AreSound (types_of p.world) whole
  pub thrown : (id : ℕ) → whole.throwing ≡ Some id → HasCell is_object whole id
  pub placed : ArePlaced p typing whole whole.frames
  pub waiting : WaitBelow p whole.frames

pub lean_grows : DroppedStatesReachAll → (p : Program) (typing : ℕ → CodeTypes) (whole child : GraphChild)
    → IsWhole p typing whole.state → IsLean whole child → IsGrowing p typing child.state
lean_grows law p typing whole child w lean =
    let d = lean.dropped in
    let waiting : WaitBelow p child.state.frames = subst (WaitBelow p) (sym d.frames) w.waiting in
    record {
      good = record {
        sound = record {
          well_formed = left_formed whole.state child.state w.formed d lean.rising;
          framed = λ e. w.framed (sym d.frames ∙ e);
          cells = All-from_recursion (λ (c : ℕ × Cell). IsSoundCell (types_of p.world) child.state c.1) child.state.cells
              (each_listed (λ id c. IsSoundCell (types_of p.world) child.state c) 0 child.state.cells lean.rising
              (left_sound whole.state child.state w.formed d lean.rising (types_of p.world) w.cells));
          thrown = left_thrown whole.state child.state w.formed d lean.rising is_object w.thrown;
        };
        placed = left_placed whole.state child.state w.formed d lean.rising p typing w.placed;
        called = at_calls p child.state.frames waiting;
      };
      waiting = waiting;
      reached = law whole.state child.state d;
    }

pub all_grow : DroppedStatesReachAll → (p : Program) (typing : ℕ → CodeTypes) (wholes children : List GraphChild)
    → AllByRecursion (λ (whole : GraphChild). IsWhole p typing whole.state) wholes → AllZip IsLean wholes children
    → AllByRecursion (λ (child : GraphChild). IsGrowing p typing child.state) children
all_grow law p typing [] [] w lean = tt
all_grow law p typing [] (child ∷ children) w lean = absurd lean
all_grow law p typing (whole ∷ wholes) [] w lean = absurd lean
all_grow law p typing (whole ∷ wholes) (child ∷ children) w lean =
    (lean_grows law p typing whole child w.0 lean.0, all_grow law p typing wholes children w.1 lean.1)
