-- Forms over ints: constants, operators, jumps and switches.
use Rattle.std.proofs.Common.{◌≡◌, ℕ, zero, suc, ◌+◌, ◌<◌, ◌≤◌, ℤ, pos, negsuc, ◌-ℤ◌, ◌+ℤ◌, Bool, true, false, cond, ◌||◌, eqb}
use Rattle.std.proofs.Common.{List, [], ◌∷◌, ◌++◌, length, map, Option, Some, None, IsTrue, refl, sym, ap, ◌∙◌, subst, eq-eqb}
use Rattle.std.proofs.Common.{arith}
use Rattle.std.specs.Prelude.{slice_get, IfSome, nat_eq, unwrap_or}
use Rattle.std.specs.List.{list_any}
use Rattle.std.specs.Int.{int_wrap, w32}
use Rattle.std.specs.Ordering.{int_eq}
use Rattle.std.proofs.lemmas.Bool.{false≢true, or_left, or_right}
use Rattle.std.proofs.lemmas.Option.{none-some}
use Rattle.class_program.specs.code_forms.declared.insn.Case.{Case}
use Rattle.jvm_values.specs.declared.heap.Value.{Value}
use Rattle.jvm_values.specs.declared.heap.Value.TheVariants as values
use Rattle.jvm_values.specs.declared.ints.IntOp.{IntOp}
use Rattle.jvm_values.specs.declared.ints.Cond.{Cond}
use Rattle.jvm_values.specs.declared.types.Kind.{Kind}
use Rattle.jvm_values.specs.declared.types.Kind.TheVariants as kinds
use Rattle.jvm_values.specs.declared.typing.PlaceType.{PlaceType}
use Rattle.jvm_values.specs.declared.typing.PlaceType.TheVariants as places
use Rattle.jvm_values.specs.States.{PlaceTypes}
use Rattle.jvm_values.specs.Ints.{int_result, cond_holds}
use Rattle.jvm_values.specs.Kinds.{IsOfKind, narrowed}
use Rattle.jvm_values.proofs.Options.{some_is}
use Rattle.code_verify.specs.declared.want.Want.{Want}
use Rattle.code_verify.specs.declared.want.Want.TheVariants as wants
use Rattle.code_verify.specs.Rows.{taken, acted}
use Rattle.code_verify.specs.Flows.{falls, jumps}
use Rattle.code_verify.specs.TypedStates.{HasPlaceType, HasStack}
use Rattle.jvm_step.specs.Effects.{with_stack, branch, constant_effect, arith_result, arith_effect, ineg_effect, narrow_effect}
use Rattle.jvm_step.specs.Effects.{if_effect, if_icmp_effect, goto_effect, target_at, tableswitch_effect, target_of}
use Rattle.jvm_step.specs.Effects.{lookupswitch_effect}
use Rattle.jvm_step.specs.Operands.{top_int}
use Rattle.jvm_run.proofs.Numbers.{result_is, narrowed_is, of_int, wrapped_is_int}
use Rattle.jvm_run.proofs.Forms.{Here, Stands, Well, FrameGood, types_here, acted_of, left, pushed, top_int_of, rest_has}

-- ---- one int and two

pub record OneInt (here : Here) (below : List PlaceType) : Type 0 where
  pub number : ℤ
  pub rest : List Value
  pub is_top : top_int here.work.frame.stack ≡ Some (number, rest)
  pub kind : IsOfKind kinds.Int number
  pub has : HasStack (types_here here) here.work.heap below rest

pub one_int : (here : Here) → Stands here → (below : List PlaceType)
    → taken (types_here here) (wants.Int ∷ []) here.before.stack ≡ Some below → OneInt here below
one_int here s below e =
    let top = top_int_of (types_here here) here.work.heap [] below here.before.stack here.work.frame.stack s.stack e in
    record {
      number = top.number;
      rest = top.rest;
      is_top = top.is_top;
      kind = top.kind;
      has = rest_has (types_here here)
          here.work.heap top.under below top.rest top.others top.has;
    }

pub record TwoInts (here : Here) (below : List PlaceType) : Type 0 where
  pub right : ℤ
  pub under : List Value
  pub left : ℤ
  pub rest : List Value
  pub right_is : top_int here.work.frame.stack ≡ Some (right, under)
  pub left_is : top_int under ≡ Some (left, rest)
  pub right_kind : IsOfKind kinds.Int right
  pub left_kind : IsOfKind kinds.Int left
  pub has : HasStack (types_here here) here.work.heap below rest

pub two_ints : (here : Here) → Stands here → (below : List PlaceType)
    → taken (types_here here) (wants.Int ∷ wants.Int ∷ []) here.before.stack ≡ Some below → TwoInts here below
two_ints here s below e =
    let first = top_int_of (types_here here) here.work.heap (wants.Int ∷ []) below here.before.stack here.work.frame.stack s.stack e in
    let second = top_int_of (types_here here) here.work.heap [] below first.under first.rest first.has first.others in
    record {
      right = first.number;
      under = first.rest;
      left = second.number;
      rest = second.rest;
      right_is = first.is_top;
      left_is = second.is_top;
      right_kind = first.kind;
      left_kind = second.kind;
      has = rest_has (types_here here) here.work.heap second.under below second.rest second.others second.has;
    }

-- ---- constants and operators

pub constant_well : (here : Here) → Stands here → IsTrue (falls here.form)
    → (place : PlaceType) (value : Value) (after : PlaceTypes) → HasPlaceType (types_here here) here.work.heap place (Some value)
    → acted (types_here here) [] (Some place) here.before ≡ Some after
    → Well here (FrameGood here after) (constant_effect value here.work.frame)
unfolding constant_effect
constant_well here s f place value after h e =
    let a = acted_of (types_here here) [] (Some place) here.before after e in (
      f,
      pushed here s after place a.below value here.work.frame.stack a.after_is h
          (rest_has (types_here here) here.work.heap here.before.stack a.below here.work.frame.stack a.taken_is s.stack),
    )

arith_done : (here : Here) → Stands here → IsTrue (falls here.form)
    → (after : PlaceTypes) (below : List PlaceType) (rest : List Value) (result : Option ℤ)
    → after ≡ record { locals = here.before.locals; stack = places.Int ∷ below }
    → HasStack (types_here here) here.work.heap below rest → IfSome result (IsOfKind kinds.Int)
    → Well here (FrameGood here after) (Some (arith_result result rest here.work.frame))
arith_done here s f after below rest None e h k = (omega arith, omega arith)
arith_done here s f after below rest (Some n) e h k = (f, pushed here s after places.Int below (values.Int n) rest e k h)

pub arith_well : (here : Here) → Stands here → IsTrue (falls here.form) → (op : IntOp) (after : PlaceTypes)
    → acted (types_here here) (wants.Int ∷ wants.Int ∷ []) (Some places.Int) here.before ≡ Some after
    → Well here (FrameGood here after) (arith_effect op here.work.frame)
unfolding arith_effect
arith_well here s f op after e =
    let a = acted_of (types_here here) (wants.Int ∷ wants.Int ∷ []) (Some places.Int) here.before after e in
    let two = two_ints here s a.below a.taken_is in
    rw (two.right_is, two.left_is) (arith_done here s f after a.below two.rest (int_result op two.left two.right) a.after_is two.has
    (result_is op two.left two.right two.left_kind))

pub ineg_well : (here : Here) → Stands here → IsTrue (falls here.form) → (after : PlaceTypes)
    → acted (types_here here) (wants.Int ∷ []) (Some places.Int) here.before ≡ Some after
    → Well here (FrameGood here after) (ineg_effect here.work.frame)
unfolding ineg_effect
ineg_well here s f after e =
    let a = acted_of (types_here here) (wants.Int ∷ []) (Some places.Int) here.before after e in
    let one = one_int here s a.below a.taken_is in
    rw one.is_top (
      f,
      pushed here s after places.Int a.below (values.Int (int_wrap w32 (pos 0 -ℤ one.number))) one.rest a.after_is
          (wrapped_is_int (pos 0 -ℤ one.number)) one.has,
    )

pub narrow_well : (here : Here) → Stands here → IsTrue (falls here.form) → (kind : Kind) (after : PlaceTypes)
    → acted (types_here here) (wants.Int ∷ []) (Some places.Int) here.before ≡ Some after
    → Well here (FrameGood here after) (narrow_effect kind here.work.frame)
unfolding narrow_effect
narrow_well here s f kind after e =
    let a = acted_of (types_here here) (wants.Int ∷ []) (Some places.Int) here.before after e in
    let one = one_int here s a.below a.taken_is in
    rw one.is_top (
      f,
      pushed here s after places.Int a.below (values.Int (narrowed kind one.number)) one.rest a.after_is
          (of_int kind (narrowed kind one.number) (narrowed_is kind one.number one.kind)) one.has,
    )

-- ---- jumps

pub branch_well : {X : Type 0} (here : Here) (G : X → Type 0) (test : Bool) (place : ℕ) (x : X) → IsTrue (falls here.form)
    → IsTrue (list_any (nat_eq place) (jumps here.form)) → G x → Well here G (Some (branch test place x))
branch_well here G true place x f j g = (j, g)
branch_well here G false place x f j g = (f, g)

pub if_int_well : (here : Here) → Stands here → IsTrue (falls here.form) → (test : Cond) (place : ℕ) (after : PlaceTypes)
    → IsTrue (list_any (nat_eq place) (jumps here.form)) → acted (types_here here) (wants.Int ∷ []) None here.before ≡ Some after
    → Well here (FrameGood here after) (if_effect test place here.work.frame)
unfolding if_effect
if_int_well here s f test place after j e =
    let a = acted_of (types_here here) (wants.Int ∷ []) None here.before after e in
    let one = one_int here s a.below a.taken_is in
    rw one.is_top (branch_well here (FrameGood here after) (cond_holds test one.number (pos 0)) place
    (with_stack here.work.frame one.rest) f j (left here s after a.below one.rest a.after_is one.has))

pub if_icmp_well : (here : Here) → Stands here → IsTrue (falls here.form) → (test : Cond) (place : ℕ) (after : PlaceTypes)
    → IsTrue (list_any (nat_eq place) (jumps here.form))
    → acted (types_here here) (wants.Int ∷ wants.Int ∷ []) None here.before ≡ Some after
    → Well here (FrameGood here after) (if_icmp_effect test place here.work.frame)
unfolding if_icmp_effect
if_icmp_well here s f test place after j e =
    let a = acted_of (types_here here) (wants.Int ∷ wants.Int ∷ []) None here.before after e in
    let two = two_ints here s a.below a.taken_is in
    rw (two.right_is, two.left_is) (branch_well here (FrameGood here after) (cond_holds test two.left two.right) place
    (with_stack here.work.frame two.rest) f j (left here s after a.below two.rest a.after_is two.has))

pub goto_well : (here : Here) → Stands here → (place : ℕ) (after : PlaceTypes) → IsTrue (list_any (nat_eq place) (jumps here.form))
    → Some here.before ≡ Some after → Well here (FrameGood here after) (goto_effect place here.work.frame)
unfolding goto_effect
goto_well here s place after j e = (j, left here s after here.before.stack here.work.frame.stack (sym (some_is e)) s.stack)

-- ---- switches

among : (xs more : List ℕ) (i x : ℕ) → slice_get xs i ≡ Some x → list_any (eqb x) (xs ++ more) ≡ true
among [] more i x e = absurd (none-some x e)
among (y ∷ xs) more zero x e = or_left (eqb x y) (list_any (eqb x) (xs ++ more)) (eq-eqb x y (sym (some_is e)))
among (y ∷ xs) more (suc i) x e = or_right (eqb x y) (list_any (eqb x) (xs ++ more)) (among xs more i x e)

pub first_among : (x : ℕ) (xs : List ℕ) → list_any (eqb x) (x ∷ xs) ≡ true
first_among x xs = or_left (eqb x x) (list_any (eqb x) xs) (eq-eqb x x refl)

target_by : (default : ℕ) (targets more : List ℕ) (i : ℕ) (o : Option ℕ) → slice_get targets i ≡ o
    → list_any (eqb (unwrap_or o default)) (default ∷ (targets ++ more)) ≡ true
target_by default targets more i None e = first_among default (targets ++ more)
target_by default targets more i (Some x) e = or_right (eqb x default) (list_any (eqb x) (targets ++ more)) (among targets more i x e)

pub target_among : (default : ℕ) (targets more : List ℕ) (key : ℤ)
    → list_any (eqb (target_at default targets key)) (default ∷ (targets ++ more)) ≡ true
target_among default targets more (pos i) = target_by default targets more i (slice_get targets i) refl
target_among default targets more (negsuc i) = first_among default (targets ++ more)

skipped : (x default y : ℕ) (xs : List ℕ) → list_any (eqb x) (default ∷ xs) ≡ true → list_any (eqb x) (default ∷ y ∷ xs) ≡ true
skipped x default y xs e = go (eqb x default) e
  where
    go : (b : Bool) → (b || list_any (eqb x) xs) ≡ true → (b || (eqb x y || list_any (eqb x) xs)) ≡ true
    go true f = refl
    go false f = or_right (eqb x y) (list_any (eqb x) xs) f

pub case_among : (default : ℕ) (cases : List Case) (key : ℤ)
    → list_any (eqb (target_of default cases key)) (default ∷ map (λ c. c.target) cases) ≡ true
case_among default [] key = first_among default []
case_among default (c ∷ cases) key = go (int_eq c.key key) (case_among default cases key)
  where
    go : (b : Bool) → list_any (eqb (target_of default cases key)) (default ∷ map (λ c. c.target) cases) ≡ true
        → list_any (eqb (cond b c.target (target_of default cases key))) (default ∷ c.target ∷ map (λ c. c.target) cases) ≡ true
    go true more = or_right (eqb c.target default) (list_any (eqb c.target) (c.target ∷ map (λ c. c.target) cases))
        (first_among c.target (map (λ c. c.target) cases))
    go false more = skipped (target_of default cases key) default c.target (map (λ c. c.target) cases) more

pub tableswitch_well : (here : Here) → Stands here → (default : ℕ) (low : ℤ) (targets : List ℕ) (after : PlaceTypes)
    → ((key : ℤ) → IsTrue (list_any (nat_eq (target_at default targets key)) (jumps here.form)))
    → acted (types_here here) (wants.Int ∷ []) None here.before ≡ Some after
    → Well here (FrameGood here after) (tableswitch_effect default low targets here.work.frame)
unfolding tableswitch_effect
tableswitch_well here s default low targets after j e =
    let a = acted_of (types_here here) (wants.Int ∷ []) None here.before after e in
    let one = one_int here s a.below a.taken_is in
    rw one.is_top (j (one.number -ℤ low), left here s after a.below one.rest a.after_is one.has)

pub lookupswitch_well : (here : Here) → Stands here → (default : ℕ) (cases : List Case) (after : PlaceTypes)
    → ((key : ℤ) → IsTrue (list_any (nat_eq (target_of default cases key)) (jumps here.form)))
    → acted (types_here here) (wants.Int ∷ []) None here.before ≡ Some after
    → Well here (FrameGood here after) (lookupswitch_effect default cases here.work.frame)
unfolding lookupswitch_effect
lookupswitch_well here s default cases after j e =
    let a = acted_of (types_here here) (wants.Int ∷ []) None here.before after e in
    let one = one_int here s a.below a.taken_is in
    rw one.is_top (j one.number, left here s after a.below one.rest a.after_is one.has)
