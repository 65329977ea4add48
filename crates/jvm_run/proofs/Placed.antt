-- What a typing says of a place where a frame stands.
use Rattle.std.proofs.Common.{◌≡◌, ℕ, Bool, true, false, cond, ◌||◌, not, eqb, List, [], ◌∷◌, ◌++◌, map, filter, length, Option}
use Rattle.std.proofs.Common.{Some, None, IsTrue, refl, sym, ap, ◌∙◌, subst, eq-eqb}
use Rattle.std.specs.Prelude.{slice_get, All, IfSome, find}
use Rattle.std.specs.List.{list_any, AllByRecursion}
use Rattle.std.specs.Option.{option_and_then, option_to_list, is_some}
use Rattle.std.proofs.lemmas.Bool.{false≢true, or_left, or_right}
use Rattle.std.proofs.lemmas.List.Elements.{All-head, All-tail}
use Rattle.std.proofs.lemmas.Option.{none-some}
use Rattle.list_views.proofs.Quantified.{every_back, every_front}
use Rattle.list_views.proofs.Options.{then_some}
use Rattle.list_views.specs.Options.{asked}
use Rattle.jvm_values.specs.States.{PlaceTypes}
use Rattle.jvm_values.specs.TypedHeaps.{WorldTypes}
use Rattle.jvm_values.proofs.Options.{some_is}
use Rattle.class_program.specs.class_world.WorldTypes.{types_of}
use Rattle.class_program.specs.declared.op.Op.{Op}
use Rattle.class_program.specs.declared.program.CatchRange.{CatchRange}
use Rattle.class_program.specs.declared.program.Method.{Method}
use Rattle.class_program.specs.Instructions.{instruction_at, first_place}
use Rattle.class_program.specs.Programs.{Program}
use Rattle.jvm_step.specs.op_forms.Forms.{Form, form_of}
use Rattle.code_verify.specs.FrameTypesTables.{CodeTypes, Flow, Takes}
use Rattle.code_verify.specs.Rows.{types_after}
use Rattle.code_verify.specs.Flows.{falls, jumps, ways, is_inside, covers, onward, caught, caught_frame, runs_at, flows_from}
use Rattle.code_verify.specs.Typings.{IsTyped}
use Rattle.jvm_run.proofs.Lists.{all_among, all_found}

-- an instruction stands at the place, and what it leads to is taken
pub record Placed (p : Program) (m : Method) (typing : CodeTypes) (place : ℕ) (frame : PlaceTypes) : Type 0 where
  pub op : Op
  pub next : Option ℕ
  pub insn_is : instruction_at m.insns place ≡ Some (op, next)
  pub form : Form
  pub form_is : form_of op ≡ Some form
  pub inside : is_inside form next ≡ true
  pub after : PlaceTypes
  pub types_are : types_after p m form frame ≡ Some after
  pub onwards : All (Takes (types_of p.world) typing) (onward after (ways form next))
  pub handlers : All (Takes (types_of p.world) typing) (caught p.world place frame m.table)

pub asked_is : (b : Bool) (u : Unit {0}) → asked b ≡ Some u → b ≡ true
asked_is true u e = refl
asked_is false u e = absurd (none-some u e)

pub placed : (p : Program) (m : Method) (typing : CodeTypes) (place : ℕ) (frame : PlaceTypes) → IsTyped p m typing place frame
    → Placed p m typing place frame
unfolding flows_from runs_at
placed p m typing place frame h =
    let ran = then_some _ (runs_at p m place frame) h.flows h.runs in
    let here = then_some _ (instruction_at m.insns place) ran.0 ran.1.0 in
    let form = then_some _ (form_of here.0.0) ran.0 here.1.1 in
    let inside = then_some _ (asked (is_inside form.0 here.0.1)) ran.0 form.1.1 in
    let after = then_some _ (types_after p m form.0 frame) ran.0 inside.1.1 in
    let is : (form.0, here.0.1, after.0) ≡ ran.0 = some_is after.1.1 in
    let flows_are : onward after.0 (ways form.0 here.0.1) ++ caught p.world place frame m.table ≡ h.flows = ap
    (λ (x : Form × Option ℕ × PlaceTypes). onward x.2 (ways x.0 x.1) ++ caught p.world place frame m.table) is ∙ some_is ran.1.1 in
    let all : All (Takes (types_of p.world) typing) (onward after.0 (ways form.0 here.0.1) ++ caught p.world place frame m.table) =
    subst (All (Takes (types_of p.world) typing)) (sym flows_are) h.taken in
    record {
      op = here.0.0;
      next = here.0.1;
      insn_is = here.1.0;
      form = form.0;
      form_is = form.1.0;
      inside = asked_is (is_inside form.0 here.0.1) inside.0 inside.1.0;
      after = after.0;
      types_are = after.1.0;
      onwards = every_front (Takes (types_of p.world) typing) (onward after.0 (ways form.0 here.0.1))
          (caught p.world place frame m.table) all;
      handlers = every_back (Takes (types_of p.world) typing) (onward after.0 (ways form.0 here.0.1))
          (caught p.world place frame m.table) all;
    }

-- ---- where the instruction leads

pub any_right : (x : ℕ) (xs ys : List ℕ) → list_any (eqb x) ys ≡ true → list_any (eqb x) (xs ++ ys) ≡ true
any_right x [] ys e = e
any_right x (y ∷ xs) ys e = or_right (eqb x y) (list_any (eqb x) (xs ++ ys)) (any_right x xs ys e)

-- the types after it are taken where it may jump to
pub jump_taken : (p : Program) (m : Method) (typing : CodeTypes) (place : ℕ) (frame : PlaceTypes)
    (h : Placed p m typing place frame) (to : ℕ) → list_any (eqb to) (jumps h.form) ≡ true
    → Takes (types_of p.world) typing (record { to = to; frame = h.after })
jump_taken p m typing place frame h to j =
    let among : list_any (eqb to) (ways h.form h.next) ≡ true = any_right to (option_to_list (cond (falls h.form) h.next None))
    (jumps h.form) j in
    let at : ℕ → Flow = λ (n : ℕ). record { to = n; frame = h.after } in
    all_among (Takes (types_of p.world) typing) at (ways h.form h.next) to h.onwards among

-- the next instruction, where it falls through
pub record HasNext (p : Program) (m : Method) (typing : CodeTypes) (next : Option ℕ) (after : PlaceTypes) : Type 0 where
  pub to : ℕ
  pub next_is : next ≡ Some to
  pub taken : Takes (types_of p.world) typing (record { to = to; frame = after })

next_by : (p : Program) (m : Method) (typing : CodeTypes) (form : Form) (next : Option ℕ) (after : PlaceTypes) → falls form ≡ true
    → (not (falls form) || is_some next) ≡ true
    → All (Takes (types_of p.world) typing) (onward after (option_to_list (cond (falls form) next None) ++ jumps form))
    → HasNext p m typing next after
next_by p m typing form None after f i all = absurd (false≢true (ap (λ (b : Bool). not b || false) (sym f) ∙ i))
next_by p m typing form (Some to) after f i all =
    let at : ℕ → Flow = λ (n : ℕ). record { to = n; frame = after } in
    let ways_are : option_to_list (cond (falls form) (Some to) None) ++ jumps form ≡ to ∷ jumps form = ap
    (λ (b : Bool). option_to_list (cond b (Some to) None) ++ jumps form) f in
    let first : list_any (eqb to) (to ∷ jumps form) ≡ true = or_left (eqb to to) (list_any (eqb to) (jumps form)) (eq-eqb to to refl) in
    record {
      to = to;
      next_is = refl;
      taken = all_among (Takes (types_of p.world) typing) at
          (option_to_list (cond (falls form) (Some to) None) ++ jumps form) to all
          (subst (λ (xs : List ℕ). list_any (eqb to) xs ≡ true) (sym ways_are) first);
    }

pub next_taken : (p : Program) (m : Method) (typing : CodeTypes) (place : ℕ) (frame : PlaceTypes)
    (h : Placed p m typing place frame) → falls h.form ≡ true → HasNext p m typing h.next h.after
next_taken p m typing place frame h f = next_by p m typing h.form h.next h.after f h.inside h.onwards

-- the handler that takes what is thrown at the place
pub handler_taken : (p : Program) (m : Method) (typing : CodeTypes) (place : ℕ) (frame : PlaceTypes)
    (h : Placed p m typing place frame) (test : CatchRange → Bool) (range : CatchRange)
    → ((r : CatchRange) → test r ≡ true → covers place r ≡ true) → find test m.table ≡ Some range
    → Takes (types_of p.world) typing (record { to = range.handler; frame = caught_frame p.world frame range })
handler_taken p m typing place frame h test range k e =
    let at : CatchRange → Flow = λ (r : CatchRange). record { to = r.handler; frame = caught_frame p.world frame r } in
    all_found (Takes (types_of p.world) typing) at test (covers place) k m.table range h.handlers e

-- ---- instructions

-- what stands at some place has what all of the instructions have
pub at_has : {A : Type 0} (P : A → Type 0) (xs : List (ℕ × A)) (pc : ℕ) (x : A × Option ℕ)
    → AllByRecursion (λ (y : ℕ × A). P y.1) xs → instruction_at xs pc ≡ Some x → P x.0
at_has P [] pc x h e = absurd (none-some x e)
at_has {A} P (y ∷ ys) pc x h e = go (eqb y.0 pc) e (at_has P ys pc x h.1)
  where
    go : (b : Bool) → cond b (Some (y.1, first_place ys)) (instruction_at ys pc) ≡ Some x → (instruction_at ys pc ≡ Some x → P x.0) → P x.0
    go true f rest = subst P (ap (λ (z : A × Option ℕ). z.0) (some_is f)) h.0
    go false f rest = rest f

pub at_has_all : {A : Type 0} (P : A → Type 0) (xs : List (ℕ × A)) (pc : ℕ) (x : A × Option ℕ) → All (λ (y : ℕ × A). P y.1) xs
    → instruction_at xs pc ≡ Some x → P x.0
at_has_all P [] pc x h e = absurd (none-some x e)
at_has_all {A} P (y ∷ ys) pc x h e = go (eqb y.0 pc) e (at_has_all P ys pc x (All-tail (λ (z : ℕ × A). P z.1) y ys h))
  where
    go : (b : Bool) → cond b (Some (y.1, first_place ys)) (instruction_at ys pc) ≡ Some x → (instruction_at ys pc ≡ Some x → P x.0) → P x.0
    go true f rest = subst P (ap (λ (z : A × Option ℕ). z.0) (some_is f)) (All-head (λ (z : ℕ × A). P z.1) y ys h)
    go false f rest = rest f
