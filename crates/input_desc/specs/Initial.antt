-- The abstract state that a description begins with.
use Rattle.std.specs.Prelude.{ℕ, ◌+◌, ◌-◌, Bool, false, List, [], ◌∷◌, ◌++◌, length, map, replicate, slice_get, filter, Option, Some, None}
use Rattle.std.specs.List.{range_with_len}
use Rattle.std.specs.Option.{option_map_or}
use Rattle.abs_cells.specs.declared.cells.Cell.{Cell}
use Rattle.abs_cells.specs.declared.cells.Cell.TheVariants as cells
use Rattle.abs_cells.specs.AbstractStates.{AbstractState}
use Rattle.abs_cells.specs.Cells.{are_compatible}
use Rattle.abs_cells.specs.PairLists.{added}
use Rattle.class_world.specs.World.{World}
use Rattle.class_world.specs.Types.{is_sub}
use Rattle.class_program.specs.Programs.{Program}
use Rattle.input_desc.specs.declared.desc.Input.{Input}
use Rattle.input_desc.specs.declared.desc.Input.TheVariants.{Int, Ref}
use Rattle.input_desc.specs.declared.desc.Desc.{Desc}
use Rattle.input_desc.specs.Given.{params_of, statics_of}

-- the cell of what is described of an input: an int by its interval, a reference by its type, its shape and whether it may be null
abbrev pub cell_of : Input → Cell
cell_of (Int interval) = cells.Int interval
cell_of (Ref ty null shape) = cells.Unk ty null shape

-- the cells of inputs, each under its input's number, from number n on
abbrev pub cells_from : ℕ → List Input → List (ℕ × Cell)
cells_from n [] = []
cells_from n (input ∷ inputs) = (n, cell_of input) ∷ cells_from (n + 1) inputs

-- a set of pairs with the pairs of a list
abbrev pub with_pairs : List (ℕ × ℕ) → List (ℕ × ℕ) → List (ℕ × ℕ)
with_pairs pairs [] = pairs
with_pairs pairs (pair ∷ more) = with_pairs (added pair.0 pair.1 pairs) more

-- two inputs may be one object by their types: both are references, and the type of the one is below that of the other
abbrev pub are_alike : World → List Input → ℕ × ℕ → Bool
are_alike world inputs pair = option_map_or (λ a. option_map_or (λ b. are_compatible (is_sub world) (cell_of a) (cell_of b))
    (slice_get inputs pair.1) false) (slice_get inputs pair.0) false

-- how many locals the entry method has
abbrev pub locals_of : Program → ℕ
locals_of p = option_map_or (λ m. m.max_locals) (slice_get p.methods 0) 0

-- ids from a number on, so many
abbrev pub given_from : ℕ → ℕ → List (Option ℕ)
given_from first count = map Some (range_with_len first count)

-- The locals of the entry method at its start: the first ones have the ids of the parameters, 0, 1, ..; behind its max_locals places
-- stand the ids of the static fields.
abbrev pub initial_locals : ℕ → ℕ → ℕ → List (Option ℕ)
initial_locals places params statics = given_from 0 params ++ (replicate (places - params) None ++ given_from params statics)

-- The abstract state that a description begins with: the frame of the entry method at its start, with an empty stack. Pairs share
-- as they are listed; pairs of `same` that may be one object are equal.
unfoldable pub initial_of : Program → Desc → AbstractState
initial_of p desc = record {
  frames = record {
    method = 0;
    pc = 0;
    locals = initial_locals (locals_of p) (length (params_of p)) (length (statics_of p));
    stack = [];
  } ∷ [];
  throwing = None;
  cells = cells_from 0 desc.inputs;
  eq = with_pairs [] (filter (are_alike p.world desc.inputs) desc.same);
  share = with_pairs (with_pairs [] desc.same) desc.share;
}
