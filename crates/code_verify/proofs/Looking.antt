-- What a place leads to comes to the table.
use Rattle.std.proofs.Common.{◌≡◌, ℕ, Bool, true, false, List, [], ◌∷◌, ◌++◌, length, Option, Some, None, Result, Ok, Err, refl}
use Rattle.std.proofs.Common.{sym, ap, subst, ◌∙◌}
use Rattle.std.specs.Prelude.{IfOk}
use Rattle.jvm_values.specs.TypedHeaps.{AreLawful}
use Rattle.jvm_values.specs.States.{PlaceTypes}
use Rattle.class_program.specs.class_world.WorldTypes.{types_of}
use Rattle.class_program.specs.declared.program.Method.{Method}
use Rattle.class_program.specs.Programs.{Program}
use Rattle.op_forms.specs.Forms.{Form}
use Rattle.frame_types.specs.declared.table.Table.{Table}
use Rattle.frame_types.specs.Tables.{Flow}
use Rattle.frame_types.specs.Growth.{IsGrown, AreRefused}
use Rattle.code_verify.specs.Answers.{Comes, Looks}
use Rattle.code_verify.specs.Flows.{ways, onward, caught, runs_at, flows_from}
use Rattle.code_verify.proofs.FlowLaws.{both_come, first_refuses}
use Rattle.code_verify.proofs.Running.{flows_are, no_flows}

module _ (p : Program) (m : Method) (place : ℕ) (frame : PlaceTypes) where
  -- nothing runs there
  pub looked_none : (old new : Table) → runs_at p m place frame ≡ None
      → Looks (types_of p.world) (flows_from p m place frame) false old new
  looked_none old new e = subst (λ (x : Option (List Flow)). Looks (types_of p.world) x false old new)
      (sym (no_flows p m place frame e)) refl

  module _ (laws : AreLawful (types_of p.world)) (ran : Form × Option ℕ × PlaceTypes) (e : runs_at p m place frame ≡ Some ran) where
    -- what comes after the instruction is refused
    pub looked_away : (old new : Table) → AreRefused (types_of p.world) (onward ran.2 (ways ran.0 ran.1)) old
        → Looks (types_of p.world) (flows_from p m place frame) false old new
    looked_away old new h =
        let all = onward ran.2 (ways ran.0 ran.1) ++ caught p.world place frame m.table in
        let refuses : AreRefused (types_of p.world) all old = first_refuses (types_of p.world) laws
        (onward ran.2 (ways ran.0 ran.1)) (caught p.world place frame m.table) all old h refl in
        subst (λ (x : Option (List Flow)). Looks (types_of p.world) x false old new) (sym (flows_are p m place frame ran e)) refuses

    -- it comes, and then what is caught
    pub looked_on : {E : Type 0} (r : Result Bool E) (old mid new : Table)
        → IsGrown (types_of p.world) (onward ran.2 (ways ran.0 ran.1)) old mid
        → IfOk r (λ ok. Comes (types_of p.world) (caught p.world place frame m.table) ok mid new)
        → IfOk r (λ ok. Looks (types_of p.world) (flows_from p m place frame) ok old new)
    looked_on (Err fault) old mid new h k = tt
    looked_on (Ok ok) old mid new h k =
        let all = onward ran.2 (ways ran.0 ran.1) ++ caught p.world place frame m.table in
        let come : Comes (types_of p.world) all ok old new = both_come (types_of p.world) laws (onward ran.2 (ways ran.0 ran.1))
        (caught p.world place frame m.table) all ok old mid new h refl k in
        subst (λ (x : Option (List Flow)). Looks (types_of p.world) x ok old new) (sym (flows_are p m place frame ran e)) come

-- the same instruction on the same types
pub ran_there : (p : Program) (m : Method) (place : ℕ) (frame copy : PlaceTypes) → copy ≡ frame
    → (x : Option (Form × Option ℕ × PlaceTypes)) → runs_at p m place copy ≡ x → runs_at p m place frame ≡ x
ran_there p m place frame copy same x h = ap (runs_at p m place) (sym same) ∙ h
