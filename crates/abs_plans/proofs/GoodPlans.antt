-- The plan of a sound state of a closed program can be done.
use Rattle.std.proofs.Common.{◌≡◌, ℕ, List, [], ◌∷◌, Option, Some, None, slice_get, refl}
use Rattle.std.specs.List.{AllByRecursion}
use Rattle.std.specs.Option.{IfSome, option_map, option_map_or}
use Rattle.list_views.proofs.Quantified.{all_front, all_back, all_weaker}
use Rattle.jvm_values.specs.declared.types.Kind.{Kind}
use Rattle.jvm_values.specs.Kinds.{kind_of_code}
use Rattle.jvm_values.specs.States.{PlaceTypes}
use Rattle.jvm_values.specs.TypedHeaps.{WorldTypes}
use Rattle.abs_cells.specs.AbstractStates.{AbstractFrame, AbstractState}
use Rattle.abs_cells.specs.Sound.{given_ids, ids_of_frame, IsWellFormed, IsSound}
use Rattle.abs_turns.specs.class_world.WorldTypes.{types_of}
use Rattle.class_program.specs.code_forms.declared.insn.Insn.{Insn}
use Rattle.class_program.specs.code_forms.declared.insn.Insn.TheVariants as insns
use Rattle.class_program.specs.declared.op.Op.{Op}
use Rattle.class_program.specs.declared.op.Op.TheVariants as ops
use Rattle.class_program.specs.declared.program.Method.{Method}
use Rattle.class_program.specs.Programs.{Program, insn_at}
use Rattle.class_program.specs.Good.{IsGood, IsGoodName}
use Rattle.class_program.proofs.GoodInstructions.{good_at}
use Rattle.abs_turns.specs.op_forms.Forms.{Form, form_of, form_of_insn}
use Rattle.abs_turns.specs.op_forms.Forms.Form.{Newarray}
use Rattle.frame_types.specs.Tables.{CodeTypes}
use Rattle.abs_plans.specs.Planning.{plan_here, plan_in, plan_of}
use Rattle.abs_turns.specs.Turns.{Here}
use Rattle.abs_turns.specs.GoodPlans.{IsThere, HoldsIds, IsGoodPlan}
use Rattle.abs_plans.proofs.WellFormed.{frames_there, thrown_there}
use Rattle.abs_plans.proofs.SplitPlans.{NamesClasses}
use Rattle.abs_plans.proofs.GoodRows.{form_fine, throwing_fine}

-- ---- forms

array_names : (types : WorldTypes) (kind : Option Kind) → IfSome (option_map Newarray kind) (NamesClasses types)
array_names types None = tt
array_names types (Some kind) = tt

plain_names : (types : WorldTypes) (insn : Insn) → IfSome (form_of_insn insn) (NamesClasses types)
plain_names types (insns.Newarray code) = array_names types (kind_of_code code)
plain_names types _ = tt

op_names : (p : Program) (current : ℕ) (op : Op) → IsGoodName p current op → IfSome (form_of op) (NamesClasses (types_of p.world))
op_names p current (ops.Plain insn) n = plain_names (types_of p.world) insn
op_names p current (ops.New t) n = (n.class, (n.type_is, n.within))
op_names p current _ n = tt

-- ---- frames

frame_holds : (state : AbstractState) (frame : AbstractFrame) → AllByRecursion (IsThere state) (ids_of_frame frame) → HoldsIds state frame
frame_holds state frame a = record {
  locals = all_front (IsThere state) (given_ids frame.locals) frame.stack a;
  stack = all_back (IsThere state) (given_ids frame.locals) frame.stack a;
}

pub frames_hold : (state : AbstractState) → IsWellFormed state → AllByRecursion (HoldsIds state) state.frames
frames_hold state good = all_weaker (λ frame. AllByRecursion (IsThere state) (ids_of_frame frame)) (HoldsIds state)
    (frame_holds state) state.frames (frames_there state good)

-- ---- plans

module _ (p : Program) (typing : ℕ → CodeTypes) (state : AbstractState) (is_good : IsGood p)
    (sound : IsSound (types_of p.world) state) where
  at_form : (frame : AbstractFrame) (below : List AbstractFrame) → HoldsIds state frame → AllByRecursion (HoldsIds state) below
      → (form : Option Form) (next : Option ℕ) (there : Option PlaceTypes) → IfSome form (NamesClasses (types_of p.world))
      → IsGoodPlan (types_of p.world) state (plan_here p typing state frame below form next there)
  at_form frame below h b None next there n = tt
  at_form frame below h b (Some form) next None n = tt
  at_form frame below h b (Some form) next (Some there) n =
      let here : Here = record {
        program = p;
        state = state;
        frame = frame;
        below = below;
        places = there.stack;
        next =
            option_map_or (λ place. place) next frame.pc;
      } in
      form_fine here sound b h form n

  found_names : (number pc : ℕ) (found : Option (Op × Option ℕ)) → insn_at p.methods number pc ≡ found
      → IfSome (option_map_or (λ (x : Op × Option ℕ). form_of x.0) found None) (NamesClasses (types_of p.world))
  found_names number pc None e = tt
  found_names number pc (Some x) e =
      let g = good_at p is_good number pc x.0 x.1 e in
      op_names p g.method.class x.0 g.good.named

  in_mode : (thrown : Option ℕ) (frames : List AbstractFrame) → AllByRecursion (IsThere state) (given_ids (thrown ∷ []))
      → AllByRecursion (HoldsIds state) frames
      → IsGoodPlan (types_of p.world) state (plan_in p typing state thrown frames)
  in_mode None [] t h = tt
  in_mode (Some x) [] t h = tt
  in_mode (Some x) (frame ∷ below) t h = throwing_fine (types_of p.world) state x t.0 frame h.0 below h.1
      (option_map_or (λ (m : Method). m.table) (slice_get p.methods frame.method) [])
  in_mode None (frame ∷ below) t h =
      at_form frame below h.0 h.1 (option_map_or (λ (x : Op × Option ℕ). form_of x.0) (insn_at p.methods frame.method frame.pc) None)
      (option_map_or (λ (x : Op × Option ℕ). x.1) (insn_at p.methods frame.method frame.pc) None) (typing frame.method frame.pc)
      (found_names frame.method frame.pc (insn_at p.methods frame.method frame.pc) refl)

  pub plan_is_good : IsGoodPlan (types_of p.world) state (plan_of p typing state)
  plan_is_good = in_mode state.throwing state.frames (thrown_there state sound.well_formed) (frames_hold state sound.well_formed)
