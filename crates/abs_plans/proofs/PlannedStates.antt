-- The plan of a state, by what is found of its running frame.
use Rattle.std.proofs.Common.{◌≡◌, ◌∙◌, ◌-◌, ◌==◌, ℕ, true, false, List, [], ◌∷◌, length, reverse, take, get_or, Option, Some, None}
use Rattle.std.proofs.Common.{slice_get, refl, sym, ap, arith}
use Rattle.std.specs.Option.{option_map_or}
use Rattle.std.proofs.lemmas.Bool.{eqb-true}
use Rattle.std.proofs.lemmas.List.{reverse-reverse, length-reverse}
use Rattle.jvm_values.specs.States.{PlaceTypes}
use Rattle.abs_cells.specs.AbstractStates.{AbstractFrame, AbstractState}
use Rattle.abs_turns.specs.class_world.WorldTypes.{types_of}
use Rattle.class_program.specs.declared.op.Op.{Op}
use Rattle.class_program.specs.declared.program.Method.{Method}
use Rattle.class_program.specs.declared.program.CatchRange.{CatchRange}
use Rattle.class_program.specs.Programs.{Program, insn_at}
use Rattle.abs_turns.specs.op_forms.Forms.{Form, form_of}
use Rattle.frame_types.specs.Tables.{CodeTypes}
use Rattle.abs_turns.specs.Plans.{Plan, no_child}
use Rattle.abs_turns.specs.Turns.{Here}
use Rattle.abs_turns.specs.Table.{types_here, plan_of_form}
use Rattle.abs_turns.specs.Throwing.{throwing_plan}
use Rattle.abs_turns.proofs.Placing.{last_turned}
use Rattle.abs_plans.specs.Planning.{plan_here, plan_in, plan_of}

-- ---- lists that are turned round

pub none_turned : {X : Type 0} (xs ys : List X) → ys ≡ reverse xs → (length ys == 0) ≡ true → xs ≡ []
none_turned [] ys e z = refl
none_turned (x ∷ xs) ys e z =
    let none : length ys ≡ 0 = eqb-true (length ys) 0 z in
    let same : length ys ≡ length (x ∷ xs) = ap length e ∙ length-reverse (x ∷ xs) in
    absurd (omega (arith, none, same))

pub first_turned : {X : Type 0} (xs ys : List X) (n : ℕ) (x : X) → ys ≡ reverse xs → (length ys == 0) ≡ false → n ≡ length ys - 1
    → x ≡ get_or ys n x → xs ≡ x ∷ reverse (take n ys)
first_turned xs ys n x e z m is = sym (reverse-reverse xs) ∙ ap reverse (sym e) ∙ last_turned ys n x z m is

-- ---- places

-- what is asked at a frame's place, whose method and place are read before
pub asked_at : {Y : Type 0} (f : ℕ → ℕ → Y) (m n a b : ℕ) (y : Y) → m ≡ a → n ≡ b → y ≡ f m n → f a b ≡ y
asked_at f m n a b y e g h = sym (h ∙ ap (λ (k : ℕ). f k n) e ∙ ap (f a) g)

-- ---- states

module _ (p : Program) (typing : ℕ → CodeTypes) (state : AbstractState) where
  -- ---- normal mode

  pub without_form : (frame : AbstractFrame) (below : List AbstractFrame) (form : Option Form) (next : Option ℕ)
      (there : Option PlaceTypes) → form ≡ None → no_child ≡ plan_here p typing state frame below form next there
  without_form frame below form next there e = ap (λ (f : Option Form). plan_here p typing state frame below f next there) (sym e)

  pub without_types : (frame : AbstractFrame) (below : List AbstractFrame) (form : Form) (next : Option ℕ)
      (there : Option PlaceTypes) → there ≡ None → no_child ≡ plan_here p typing state frame below (Some form) next there
  without_types frame below form next there e = ap (plan_here p typing state frame below (Some form) next) (sym e)

  pub with_form : (frame : AbstractFrame) (below : List AbstractFrame) (found : Option Form) (next : Option ℕ)
      (there : Option PlaceTypes) (form : Form) → found ≡ Some form
      → plan_here p typing state frame below (Some form) next there ≡ plan_here p typing state frame below found next there
  with_form frame below found next there form e = ap (λ (o : Option Form). plan_here p typing state frame below o next there) (sym e)

  pub with_types : (frame : AbstractFrame) (below : List AbstractFrame) (form : Form) (next : Option ℕ) (types : Option PlaceTypes)
      (there : PlaceTypes) (place : ℕ) (here : Here) → types ≡ Some there → place ≡ option_map_or (λ place. place) next frame.pc
      → here ≡ record { program = p; state = state; frame = frame; below = below; places = there.stack; next = place }
      → plan_of_form here form ≡ plan_here p typing state frame below (Some form) next types
  with_types frame below form next types there place here f g h =
      ap (λ (x : Here). plan_of_form x form) h
      ∙ ap (λ (n : ℕ). plan_of_form
      (record { program = p; state = state; frame = frame; below = below; places = there.stack; next = n }) form) g
      ∙ ap (plan_here p typing state frame below (Some form) next) (sym f)

  -- an instruction that is found, and none
  pub in_normal : (frame : AbstractFrame) (below : List AbstractFrame) (op : Op) (next : Option ℕ)
      → insn_at p.methods frame.method frame.pc ≡ Some (op, next)
      → plan_here p typing state frame below (form_of op) next (typing frame.method frame.pc) ≡ plan_in p typing state None (frame ∷ below)
  in_normal frame below op next e = ap
      (λ (found : Option (Op × Option ℕ)). plan_here p typing state frame below
      (option_map_or (λ (x : Op × Option ℕ). form_of x.0) found None) (option_map_or (λ (x : Op × Option ℕ). x.1) found None)
      (typing frame.method frame.pc)) (sym e)

  pub in_no_place : (frame : AbstractFrame) (below : List AbstractFrame) → insn_at p.methods frame.method frame.pc ≡ None
      → no_child ≡ plan_in p typing state None (frame ∷ below)
  in_no_place frame below e = ap
      (λ (found : Option (Op × Option ℕ)). plan_here p typing state frame below
      (option_map_or (λ (x : Op × Option ℕ). form_of x.0) found None) (option_map_or (λ (x : Op × Option ℕ). x.1) found None)
      (typing frame.method frame.pc)) (sym e)

  pub in_mode : (frames : List AbstractFrame) (thrown mode : Option ℕ) → mode ≡ thrown
      → plan_in p typing state thrown frames ≡ plan_in p typing state mode frames
  in_mode frames thrown mode e = ap (λ (o : Option ℕ). plan_in p typing state o frames) (sym e)

  -- ---- throwing mode

  pub in_throwing : (frame : AbstractFrame) (below : List AbstractFrame) (x : ℕ) (here : Here) (table : List CatchRange)
      → here.program ≡ p → here.state ≡ state → here.frame ≡ frame → here.below ≡ below
      → table ≡ option_map_or (λ (m : Method). m.table) (slice_get p.methods frame.method) []
      → throwing_plan (types_here here) here.state x here.frame here.below table ≡ plan_in p typing state (Some x) (frame ∷ below)
  in_throwing frame below x here table a b c d t =
      ap (λ (q : Program). throwing_plan (types_of q.world) here.state x here.frame here.below table) a
      ∙ ap (λ (s : AbstractState). throwing_plan (types_of p.world) s x here.frame here.below table) b
      ∙ ap (λ (f : AbstractFrame). throwing_plan (types_of p.world) state x f here.below table) c
      ∙ ap (λ (fs : List AbstractFrame). throwing_plan (types_of p.world) state x frame fs table) d
      ∙ ap (throwing_plan (types_of p.world) state x frame below) t

  -- ---- frames

  pub no_frames : state.frames ≡ [] → no_child ≡ plan_of p typing state
  no_frames e = at state.throwing ∙ ap (plan_in p typing state state.throwing) (sym e)
    where
      at : (thrown : Option ℕ) → no_child ≡ plan_in p typing state thrown []
      at None = refl
      at (Some x) = refl

  pub at_frame : (frame : AbstractFrame) (below : List AbstractFrame) → state.frames ≡ frame ∷ below
      → plan_in p typing state state.throwing (frame ∷ below) ≡ plan_of p typing state
  at_frame frame below e = ap (plan_in p typing state state.throwing) (sym e)
