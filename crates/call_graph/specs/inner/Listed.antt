-- The calls of a program, listed.
use Rattle.std.specs.Prelude.{◌+◌, ℕ, List, [], ◌∷◌, length, if◌then◌else◌, Option, Some, None}
use Rattle.std.specs.List.{filter_map, flat_map, range_with_len}
use Rattle.std.specs.Option.{option_map_or, option_to_list}
use Rattle.class_program.specs.declared.op.Op.{Op}
use Rattle.class_program.specs.declared.op.Op.TheVariants.{Invokevirtual, Invokespecial, Invokestatic, Invokeinterface}
use Rattle.class_program.specs.declared.program.Method.{Method}
use Rattle.class_program.specs.declared.selected.Selected.{Selected}
use Rattle.class_program.specs.declared.selected.Selected.TheVariants as answers
use Rattle.class_program.specs.Programs.{Program, op_at}
use Rattle.class_program.specs.Selected.{selected_at, can_receive_at}

-- the number of the method that a call runs on an object, where it runs one and throws nothing
abbrev pub method_of : Option Selected → Option ℕ
method_of (Some (answers.Method number)) = Some number
method_of _ = None

-- what the call at a place runs on an object of a class
unfoldable pub class_run : Program → ℕ → ℕ → ℕ → Option ℕ
class_run p a place class = if can_receive_at p a place class then method_of (selected_at p a place class) else None

-- the methods that the call at a place runs on objects of all classes, class by class
unfoldable pub class_runs : Program → ℕ → ℕ → List ℕ
class_runs p a place = filter_map (class_run p a place) (range_with_len 0 (length p.world))

-- the methods that an instruction at a place can run
abbrev pub op_runs : Program → ℕ → ℕ → Op → List ℕ
op_runs p a place (Invokestatic call) = option_to_list call.target
op_runs p a place (Invokespecial call) = option_to_list call.target
op_runs p a place (Invokevirtual call) = class_runs p a place
op_runs p a place (Invokeinterface call) = class_runs p a place
op_runs p a place _ = []

-- the methods that the instruction at a place of a method can run; none where no instruction stands
unfoldable pub place_runs : Program → ℕ → ℕ → List ℕ
place_runs p a place = option_map_or (op_runs p a place) (op_at p.methods a place) []

-- the methods that the instructions of a method can run, in the order of the instructions
unfoldable pub method_runs : Program → ℕ → List (ℕ × Op) → List ℕ
method_runs p a insns = flat_map (λ x. place_runs p a x.0) insns

-- for each of these methods, which are numbered from `a` on, the methods that its instructions can run
abbrev pub rows_from : Program → ℕ → List Method → List (List ℕ)
rows_from p a [] = []
rows_from p a (m ∷ methods) = method_runs p a m.insns ∷ rows_from p (a + 1) methods

-- the graph of calls of a program: for each method, by its number, the methods that it can run
abbrev pub graph_of : Program → List (List ℕ)
graph_of p = rows_from p 0 p.methods
