-- The methods that instructions can run have bodies.
use Rattle.std.proofs.Common.{◌≡◌, ℕ, Bool, true, false, not, cond, List, [], ◌∷◌, Option, Some, None, refl, ◌∙◌}
use Rattle.std.specs.Prelude.{flat_map, option_and_then}
use Rattle.std.specs.List.{list_all, filter_map, cons_option}
use Rattle.std.specs.Option.{option_map_or, option_to_list}
use Rattle.std.proofs.lemmas.Bool.{and_from, and_parts}
use Rattle.std.proofs.lemmas.List.Folds.{list_all-append}
use Rattle.class_world.specs.class_read.Content.{MethodContent}
use Rattle.class_program.specs.declared.op.Op.{Op}
use Rattle.class_program.specs.declared.op.Op.TheVariants.{Plain, Constant, Getstatic, Putstatic, Getfield, Putfield, Invokevirtual}
use Rattle.class_program.specs.declared.op.Op.TheVariants.{Invokespecial, Invokestatic, Invokeinterface, New, Anewarray, Checkcast}
use Rattle.class_program.specs.declared.op.Op.TheVariants.{Instanceof}
use Rattle.class_program.specs.declared.op.Call.{Call}
use Rattle.class_world.specs.declared.world.MethodRef.{MethodRef}
use Rattle.class_world.specs.World.{World}
use Rattle.class_world.specs.Resolve.{method_at, has_body, has_no_body}
use Rattle.class_world.specs.Select.{select, receivers}
use Rattle.class_program.specs.Runs.{with_body, selected_body, selections, call_selections, runs}

pub all_flat_map : {A B : Type 0} (p : B → Bool) (f : A → List B) (xs : List A) → ((x : A) → list_all p (f x) ≡ true)
    → list_all p (flat_map f xs) ≡ true
all_flat_map p f [] h = refl
all_flat_map p f (x ∷ xs) h = list_all-append p (f x) (flat_map f xs) ∙ and_from (list_all p (f x)) (list_all p (flat_map f xs))
    (h x) (all_flat_map p f xs h)

with_body_all : (world : World) (ref : MethodRef) → list_all (has_body world) (option_to_list (with_body world ref)) ≡ true
unfolding with_body
with_body_all world ref = by (has_no_body world ref) refl
  where
    by : (b : Bool) → has_no_body world ref ≡ b → list_all (has_body world) (option_to_list (cond b None (Some ref))) ≡ true
    by true s = refl
    by false s = and_from (not (has_no_body world ref)) true (λ i. not (s i)) refl

selected_all : (world : World) (name desc : List ℕ) (class : ℕ)
    → list_all (has_body world) (option_to_list (selected_body world name desc class)) ≡ true
unfolding selected_body
selected_all world name desc class = by (select world name desc class)
  where
    by : (o : Option MethodRef) → list_all (has_body world) (option_to_list (option_and_then (with_body world) o)) ≡ true
    by None = refl
    by (Some ref) = with_body_all world ref

all_filter_map : {A B : Type 0} (p : B → Bool) (f : A → Option B) (xs : List A)
    → ((x : A) → list_all p (option_to_list (f x)) ≡ true) → list_all p (filter_map f xs) ≡ true
all_filter_map p f [] h = refl
all_filter_map {B = B} p f (x ∷ xs) h = by (f x) (h x) (all_filter_map p f xs h)
  where
    by : (o : Option B) → list_all p (option_to_list o) ≡ true → list_all p (filter_map f xs) ≡ true
        → list_all p (cons_option o (filter_map f xs)) ≡ true
    by None k r = r
    by (Some y) k r = and_from (p y) (list_all p (filter_map f xs)) (and_parts (p y) true k).0 r

selections_all : (world : World) (named : ℕ) (m : MethodContent) → list_all (has_body world) (selections world named m) ≡ true
unfolding selections
selections_all world named m = all_filter_map (has_body world) (selected_body world m.name m.desc) (receivers world named)
    (λ class. selected_all world m.name m.desc class)

call_all : (world : World) (call : Call) → list_all (has_body world) (call_selections world call) ≡ true
unfolding call_selections
call_all world call = by (method_at world call.method)
  where
    by : (o : Option MethodContent) → list_all (has_body world) (option_map_or (selections world call.class) o []) ≡ true
    by None = refl
    by (Some m) = selections_all world call.class m

pub runs_all : (world : World) (op : Op) → list_all (has_body world) (runs world op) ≡ true
unfolding runs
runs_all world (Plain insn) = refl
runs_all world (Constant value) = refl
runs_all world (Getstatic place) = refl
runs_all world (Putstatic place) = refl
runs_all world (Getfield used) = refl
runs_all world (Putfield used) = refl
runs_all world (Invokevirtual call) = call_all world call
runs_all world (Invokespecial call) = with_body_all world call.method
runs_all world (Invokestatic call) = with_body_all world call.method
runs_all world (Invokeinterface call) = call_all world call
runs_all world (New t) = refl
runs_all world (Anewarray t) = refl
runs_all world (Checkcast t) = refl
runs_all world (Instanceof t) = refl
