-- A state that lost the ids which its positions don't reach: they reach all that is left.
use Rattle.std.proofs.Common.{◌≡◌, ℕ, true, List, [], ◌∷◌, ◌++◌, Option, Some, slice_get, refl, ap, ◌∙◌}
use Rattle.std.specs.List.{flat_map}
use Rattle.std.specs.Option.{option_and_then}
use Rattle.list_views.proofs.Options.{then_some}
use Rattle.jvm_values.proofs.PathLaws.{joined}
use Rattle.jvm_values.specs.Paths.{follow}
use Rattle.abs_cells.specs.declared.cells.Cell.{Cell}
use Rattle.abs_cells.specs.AbstractStates.{AbstractFrame, AbstractState}
use Rattle.abs_cells.specs.Sound.{given_ids, ids_of_frame}
use Rattle.abs_cells.specs.Cells.{ids_in, HasCell}
use Rattle.abs_reach.specs.Reached.{named_steps, positions, IsReached, IsDropped}
use Rattle.abs_match.specs.Laws.{DroppedStatesReachAll}

module _ (whole part : AbstractState) (d : IsDropped whole part) where
  step : (x n y : ℕ) → IsReached whole x → named_steps whole x n ≡ Some y → named_steps part x n ≡ Some y
  step x n y r e = ap (option_and_then (λ (cell : Cell). slice_get (ids_in cell) n)) (d.kept x r) ∙ e

  next : (x n y : ℕ) → IsReached whole x → named_steps whole x n ≡ Some y → IsReached whole y
  next x n y r e = record {
    place = r.place;
    start = r.start;
    stands = r.stands;
    reaches = record {
      path = r.reaches.path ++ (n ∷ []);
      leads = joined (named_steps whole) r.reaches.path (n ∷ []) r.start x y
          r.reaches.leads (ap (option_and_then (follow (named_steps whole) [])) e);
    };
  }

  walk : (path : List ℕ) (x y : ℕ) → IsReached whole x → follow (named_steps whole) path x ≡ Some y
      → follow (named_steps part) path x ≡ Some y
  walk [] x y r e = e
  walk (n ∷ path) x y r e =
      let to = then_some (follow (named_steps whole) path) (named_steps whole x n) y e in
      ap (option_and_then (follow (named_steps part) path)) (step x n to.0 r to.1.0) ∙ walk path to.0 y (next x n to.0 r to.1.0) to.1.1

  same_positions : positions part ≡ positions whole
  same_positions =
      ap (λ (frames : List AbstractFrame). flat_map ids_of_frame frames ++ given_ids (part.throwing ∷ [])) d.frames
      ∙ ap (λ (thrown : Option ℕ). flat_map ids_of_frame whole.frames ++ given_ids (thrown ∷ [])) d.throwing

  start : (n x : ℕ) → slice_get (positions whole) n ≡ Some x → IsReached whole x
  start n x e = record { place = n; start = x; stands = e; reaches = record { path = []; leads = refl } }

  all : (id : ℕ) → HasCell (λ _. true) part id → IsReached part id
  all id h =
      let r = d.gone id h in record {
        place = r.place;
        start = r.start;
        stands = ap (λ (ids : List ℕ). slice_get ids r.place) same_positions ∙ r.stands;
        reaches = record {
          path = r.reaches.path;
          leads = walk r.reaches.path r.start id (start r.place r.start r.stands)
              r.reaches.leads;
        };
      }

pub dropped_reach_all : DroppedStatesReachAll
dropped_reach_all whole part d id h = all whole part d id h
