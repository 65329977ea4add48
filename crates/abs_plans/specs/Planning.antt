-- The plan of a state.
use Rattle.std.specs.Prelude.{ℕ, List, [], ◌∷◌, Option, Some, None, slice_get}
use Rattle.std.specs.Option.{option_map_or}
use Rattle.jvm_values.specs.States.{PlaceTypes}
use Rattle.abs_cells.specs.AbstractStates.{AbstractFrame, AbstractState}
use Rattle.abs_turns.specs.class_world.WorldTypes.{types_of}
use Rattle.class_program.specs.declared.program.Method.{Method}
use Rattle.class_program.specs.Programs.{Program, insn_at}
use Rattle.abs_turns.specs.op_forms.Forms.{Form, form_of}
use Rattle.frame_types.specs.Tables.{CodeTypes}
use Rattle.abs_turns.specs.Plans.{Plan, no_child}
use Rattle.abs_turns.specs.Table.{plan_of_form}
use Rattle.abs_turns.specs.Throwing.{throwing_plan}

-- the plan of a state whose running frame has an instruction to do: by the instruction's form, the typing's types at its place and the
-- place of the next instruction. Where none comes after it, to which no place of a typing leads on, its own place stands for that one
abbrev pub plan_here : Program → (ℕ → CodeTypes) → AbstractState → AbstractFrame → List AbstractFrame → Option Form → Option ℕ
    → Option PlaceTypes → Plan
plan_here p typing state frame below (Some form) next (Some there) = plan_of_form
    (record {
      program = p;
      state = state;
      frame = frame;
      below = below;
      places = there.stack;
      next = option_map_or (λ place. place)
          next frame.pc;
    }) form
plan_here p typing state frame below _ next _ = no_child

-- the plan of a state by its mode: where an object is thrown, the running frame looks for a handler; else it does its instruction; a
-- state without frames has no child
abbrev pub plan_in : Program → (ℕ → CodeTypes) → AbstractState → Option ℕ → List AbstractFrame → Plan
plan_in p typing state thrown [] = no_child
plan_in p typing state (Some x) (frame ∷ below) = throwing_plan (types_of p.world) state x frame below
    (option_map_or (λ (m : Method). m.table) (slice_get p.methods frame.method) [])
plan_in p typing state None (frame ∷ below) = plan_here p typing state frame below
    (option_map_or (λ found. form_of found.0) (insn_at p.methods frame.method frame.pc) None)
    (option_map_or (λ found. found.1) (insn_at p.methods frame.method frame.pc) None) (typing frame.method frame.pc)

-- the plan of an abstract state: what becomes of it in the machine's next step, or how it is split before that
abbrev pub plan_of : Program → (ℕ → CodeTypes) → AbstractState → Plan
plan_of p typing state = plan_in p typing state state.throwing state.frames
