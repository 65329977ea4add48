-- Heads: the states at which a growing graph looks for earlier ones.
use Rattle.std.specs.Prelude.{ℕ, ◌==◌, ◌||◌, ◌&&◌, not, nat_eq, nat_le, nat_lt, Bool, false, List, [], ◌∷◌, slice_get}
use Rattle.std.specs.List.{list_any}
use Rattle.std.specs.Option.{option_map_or}
use Rattle.abs_cells.specs.AbstractStates.{AbstractFrame, AbstractState}
use Rattle.abs_reach.specs.Instances.{is_thrown}
use Rattle.class_program.specs.declared.op.Op.{Op}
use Rattle.class_program.specs.declared.program.CatchRange.{CatchRange}
use Rattle.class_program.specs.declared.program.Method.{Method}
use Rattle.class_program.specs.Programs.{Program}
use Rattle.code_forms.specs.declared.insn.Case.{Case}
use Rattle.code_verify.specs.Flows.{jump, table_targets, lookup_cases}
use Rattle.op_forms.specs.Forms.{Form, form_of}

-- whether an instruction of a form may jump to a place
abbrev pub jumps_to : ℕ → Form → Bool
jumps_to place form = option_map_or (nat_eq place) (jump form) false
    || (list_any (nat_eq place) (table_targets form) || list_any (λ (case : Case). nat_eq place case.target) (lookup_cases form))

-- whether an instruction may jump to a place
abbrev pub op_jumps_to : ℕ → Op → Bool
op_jumps_to place op = option_map_or (jumps_to place) (form_of op) false

-- whether an instruction at a place or behind it may jump there
abbrev pub jumps_back : ℕ → ℕ × Op → Bool
jumps_back place insn = nat_le place insn.0 && op_jumps_to place insn.1

-- whether a place is the handler of a range that ends behind it (JVM specification 4.7.3)
abbrev pub handles_back : ℕ → CatchRange → Bool
handles_back place range = (range.handler == place) && nat_lt place range.end

-- whether a loop of a method can go on from a place
abbrev pub is_loop_head : Method → ℕ → Bool
is_loop_head m place = list_any (jumps_back place) m.insns || list_any (handles_back place) m.table

-- whether the running frame is at the head of a loop of its method
abbrev pub runs_at_head : List Method → List AbstractFrame → Bool
runs_at_head methods [] = false
runs_at_head methods (frame ∷ below) = option_map_or (λ (m : Method). is_loop_head m frame.pc) (slice_get methods frame.method) false

-- whether a state is a head: no object is thrown, and the running frame is at the head of a loop
abbrev pub is_head : Program → AbstractState → Bool
is_head p state = not (is_thrown state.throwing) && runs_at_head p.methods state.frames
