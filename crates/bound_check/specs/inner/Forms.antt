-- Words of private calls: the forms of rank steps over the inputs.
use Rattle.std.specs.Prelude.{ℕ, ℤ, Bool, true, if◌then◌else◌, List, [], Option, is_some, filter}
use Rattle.abs_cells.specs.AbstractStates.{AbstractState}
use Rattle.abs_cells.specs.Cells.{is_int, is_of_sort, cell_at}
use Rattle.path_rules.specs.Sizing.{size_at}
use Rattle.descent.specs.declared.proof.CutForm.{CutForm}
use Rattle.descent.specs.declared.proof.RankStep.{RankStep}
use Rattle.descent.specs.Rankings.{ints_of, sizes_of, base_of}
use Rattle.bound_check.specs.declared.bound.RootForm.{RootForm}

-- an id's cell is an int
abbrev pub has_int : AbstractState → ℕ → Bool
has_int state id = is_of_sort is_int (cell_at state id)

-- an id has a pattern, by which it has a size
abbrev pub is_sized : AbstractState → ℕ → Bool
is_sized state id = is_some (size_at state id)

-- of multiples of ints those whose id is an int of a state
abbrev pub kept_ints : AbstractState → List (ℕ × ℤ) → List (ℕ × ℤ)
kept_ints state entries = filter (λ (e : ℕ × ℤ). is_of_sort is_int (cell_at state e.0)) entries

-- of multiples of sizes those whose id is sized
abbrev pub kept_sizes : (ℕ → Bool) → List (ℕ × ℤ) → List (ℕ × ℤ)
kept_sizes sized entries = filter (λ (e : ℕ × ℤ). sized e.0) entries

-- the weights of classes by which a step counts sizes; a step of ints alone has none
abbrev pub weights_of : RankStep → List (ℕ × ℤ)
weights_of step = if step.size then step.weights else []

-- a form over the ints and sizes of a state
abbrev pub form_over : AbstractState → (ℕ → Bool) → Option CutForm → RankStep → RootForm
form_over root sized form step = record {
  constant = base_of form;
  ints = kept_ints root (ints_of form);
  sizes = kept_sizes sized (sizes_of true form);
  weights = weights_of step;
}
