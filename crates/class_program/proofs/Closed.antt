-- What a call selects is one of the reached methods.
use Rattle.std.proofs.Common.{◌≡◌, ◌++◌, ◌||◌, ◌&&◌, ℕ, zero, suc, ◌+◌, ◌<◌, ◌≤◌, Bool, true, false, not, cond, eqb, List, [], ◌∷◌}
use Rattle.std.proofs.Common.{length, get_or, Option, Some, None, Ok, Err, sym, refl, ap, ◌∙◌, subst, inl, inr, ◌⊎◌, arith}
use Rattle.std.specs.Prelude.{flat_map, slice_get, map, position, option_and_then}
use Rattle.std.specs.List.{list_any, list_all, filter, filter_map, cons_option, range_with_len, position_or_len}
use Rattle.std.specs.Option.{option_map, option_map_or, option_or}
use Rattle.std.proofs.lemmas.Bool.{false≢true, and_from, and_parts, or_left, or_right, lt-ltb}
use Rattle.std.proofs.lemmas.List.Folds.{list_any-append, list_all-append}
use Rattle.std.proofs.lemmas.Option.{slice_get_within, slice_get_read, slice_get_past}
use Rattle.class_world.specs.class_read.Content.{ClassContent, MethodContent}
use Rattle.class_world.proofs.Counting.{in_range}
use Rattle.class_program.specs.declared.op.Op.{Op}
use Rattle.class_program.specs.declared.op.Op.TheVariants.{Plain, Constant, Getstatic, Putstatic, Getfield, Putfield, Invokevirtual}
use Rattle.class_program.specs.declared.op.Op.TheVariants.{Invokespecial, Invokestatic, Invokeinterface, New, Anewarray, Checkcast}
use Rattle.class_program.specs.declared.op.Op.TheVariants.{Instanceof}
use Rattle.class_program.specs.declared.program.Method.{Method}
use Rattle.class_program.specs.declared.program.StaticField.{StaticField}
use Rattle.class_program.specs.declared.selected.Selected.{Selected}
use Rattle.class_program.specs.declared.selected.Selected.TheVariants as answers
use Rattle.class_world.specs.declared.world.MethodRef.{MethodRef}
use Rattle.class_world.specs.World.{World, line_of, is_abstract, is_interface}
use Rattle.class_world.specs.lemmas.Walks.{IsIn}
use Rattle.class_program.specs.Said.{Said, ◌>>=◌, each}
use Rattle.class_world.specs.Types.{is_class_below}
use Rattle.class_world.specs.Fields.{can_be_made}
use Rattle.class_world.specs.Members.{declared_method}
use Rattle.class_world.specs.Resolve.{first_found, method_ref, method_at, has_no_body}
use Rattle.class_world.specs.Select.{is_selectable, selectable_method, select, is_abstract_method, selection_of, selected_virtual}
use Rattle.class_world.specs.Select.{selected_interface, is_receiver, receivers}
use Rattle.class_world.specs.Select.Selection.{Runs, Lacks, Unfit}
use Rattle.class_program.specs.Runs.{with_body, selected_body, selections, call_selections, runs}
use Rattle.class_program.specs.Methods.{method_of}
use Rattle.class_program.specs.Reached.{has_runs, is_closed, same_method, has_method, with_one, with_new, runs_in, runs_said}
use Rattle.class_program.specs.Reached.{runs_from, contents_of, methods_of, op_numbered, insns_numbered, method_numbered}
use Rattle.class_program.proofs.Room.{same_self}
use Rattle.class_program.proofs.Reaching.{made_by}
use Rattle.class_program.proofs.GoingThrough.{IsReaching, all_gone}
use Rattle.class_program.specs.Instructions.{first_place, instruction_at}
use Rattle.class_program.specs.Programs.{Program, refs_of, insn_at, op_at}
use Rattle.class_program.specs.Selected.{selection_at, selected_in, selected_at, can_receive, can_receive_at}

-- ---- what all of a list has

module _ {A : Type 0} (p : A → Bool) where
  all_cons : (x : A) (xs : List A) → p x ≡ true → list_all p xs ≡ true → list_all p (x ∷ xs) ≡ true
  all_cons x xs e f = and_from (p x) (list_all p xs) e f

  all_left : (xs ys : List A) → list_all p (xs ++ ys) ≡ true → list_all p xs ≡ true
  all_left xs ys e = (and_parts (list_all p xs) (list_all p ys) (sym (list_all-append p xs ys) ∙ e)).0

  all_right : (xs ys : List A) → list_all p (xs ++ ys) ≡ true → list_all p ys ≡ true
  all_right xs ys e = (and_parts (list_all p xs) (list_all p ys) (sym (list_all-append p xs ys) ∙ e)).1

  -- at a place
  pub all_get : (xs : List A) (i : ℕ) (x : A) → list_all p xs ≡ true → slice_get xs i ≡ Some x → p x ≡ true
  all_get [] i x e s = cc
  all_get (y ∷ ys) zero x e s = let same : y ≡ x = cc in subst (λ (z : A). p z ≡ true) same (and_parts (p y) (list_all p ys) e).0
  all_get (y ∷ ys) (suc i) x e s = all_get ys i x (and_parts (p y) (list_all p ys) e).1 s

-- what stands in a list of lists stands in each
all_flat : {A B : Type 0} (p : B → Bool) (f : A → List B) (xs : List A) → list_all p (flat_map f xs) ≡ true
    → list_all (λ x. list_all p (f x)) xs ≡ true
all_flat p f [] e = refl
all_flat p f (x ∷ xs) e = and_from (list_all p (f x)) _ (all_left p (f x) (flat_map f xs) e)
    (all_flat p f xs (all_right p (f x) (flat_map f xs) e))

-- what is made of one that stands in a list
all_made : {B : Type 0} (p : B → Bool) (f : ℕ → Option B) (xs : List ℕ) (x : ℕ) (y : B) → list_all p (filter_map f xs) ≡ true
    → IsIn x xs → f x ≡ Some y → p y ≡ true
all_made p f [] x y e i m = absurd i
all_made {B} p f (z ∷ zs) x y e i m = go (f z) refl e i (all_made p f zs x y)
  where
    go : (o : Option B) → f z ≡ o → list_all p (cons_option o (filter_map f zs)) ≡ true → (x ≡ z) ⊎ IsIn x zs
        → (list_all p (filter_map f zs) ≡ true → IsIn x zs → f x ≡ Some y → p y ≡ true) → p y ≡ true
    go o q h (inl s) rest =
        let same : o ≡ Some y = sym q ∙ sym (ap f s) ∙ m in
        (and_parts (p y) (list_all p (filter_map f zs))
        (subst (λ (v : Option B). list_all p (cons_option v (filter_map f zs)) ≡ true) same h)).0
    go None q h (inr t) rest = rest h t m
    go (Some w) q h (inr t) rest = rest (and_parts (p w) (list_all p (filter_map f zs)) h).1 t m

-- ---- the reached methods have what they run

has_more : (refs rest : List MethodRef) (x : MethodRef) → has_method refs x ≡ true → has_method (refs ++ rest) x ≡ true
has_more refs rest x e = list_any-append (same_method x) refs rest ∙ or_left _ _ e

with_one_keeps : (refs : List MethodRef) (y x : MethodRef) → has_method refs x ≡ true → has_method (with_one refs y) x ≡ true
with_one_keeps refs y x e = go (has_method refs y)
  where
    go : (b : Bool) → has_method (cond b refs (refs ++ y ∷ [])) x ≡ true
    go true = e
    go false = has_more refs (y ∷ []) x e

with_new_keeps : (refs mores : List MethodRef) (x : MethodRef) → has_method refs x ≡ true → has_method (with_new refs mores) x ≡ true
with_new_keeps refs [] x e = e
with_new_keeps refs (y ∷ ys) x e = with_new_keeps (with_one refs y) ys x (with_one_keeps refs y x e)

with_one_has : (refs : List MethodRef) (x : MethodRef) → has_method (with_one refs x) x ≡ true
with_one_has refs x = go (has_method refs x) refl
  where
    go : (b : Bool) → has_method refs x ≡ b → has_method (cond b refs (refs ++ x ∷ [])) x ≡ true
    go true e = e
    go false e = list_any-append (same_method x) refs (x ∷ [])
        ∙ or_right (has_method refs x) _ (or_left (same_method x x) false (same_self x))

with_new_has : (refs mores : List MethodRef) → list_all (has_method (with_new refs mores)) mores ≡ true
with_new_has refs [] = refl
with_new_has refs (x ∷ xs) = and_from _ _ (with_new_keeps (with_one refs x) xs x (with_one_has refs x)) (with_new_has (with_one refs x) xs)

-- the methods of a list have what they run where it stands in another
each_has : (world : World) (p : MethodRef → Bool) (refs : List MethodRef) (methods : List Method)
    → methods_of world refs ≡ Ok methods → list_all p (flat_map (runs_from world) refs) ≡ true
    → list_all (λ m. list_all p (runs_in world m)) methods ≡ true
unfolding methods_of contents_of runs_from
each_has world p [] [] e h = refl
each_has world p [] (m ∷ methods) e h = cc
each_has world p (r ∷ rs) methods e h = go (each_has world p rs) (method_at world r) e h
  where
    of : MethodRef × MethodContent → Said Method
    of x = method_of world x.0 x.1

    contents : List (MethodRef × MethodContent)
    contents = filter_map (λ ref. option_map (λ m. (ref, m)) (method_at world ref)) rs

    runs_at : Option MethodContent → List MethodRef
    runs_at o = option_map_or (λ m. runs_said world (method_of world r m)) o []

    Rest : Type 0
    Rest = (ms : List Method) → each of contents ≡ Ok ms → list_all p (flat_map (runs_from world) rs) ≡ true
        → list_all (λ m. list_all p (runs_in world m)) ms ≡ true

    both : Rest → (s : Said Method) (t : Said (List Method)) → each of contents ≡ t
        → (s >>= λ y. t >>= λ ys. Ok (y ∷ ys)) ≡ Ok methods → list_all p (runs_said world s ++ flat_map (runs_from world) rs) ≡ true
        → list_all (λ m. list_all p (runs_in world m)) methods ≡ true
    both rest (Ok y) (Ok ys) q f k =
        let same : y ∷ ys ≡ methods = cc in
        subst (λ (ms : List Method). list_all (λ m. list_all p (runs_in world m)) ms ≡ true) same
        (and_from _ _ (all_left p (runs_in world y) (flat_map (runs_from world) rs) k)
        (rest ys q (all_right p (runs_in world y) (flat_map (runs_from world) rs) k)))
    both rest (Ok y) (Err fault) q f k = cc
    both rest (Err fault) t q f k = cc

    go : Rest → (o : Option MethodContent) → each of (cons_option (option_map (λ m. (r, m)) o) contents) ≡ Ok methods
        → list_all p (runs_at o ++ flat_map (runs_from world) rs) ≡ true → list_all (λ m. list_all p (runs_in world m)) methods ≡ true
    go rest None f k = rest methods f k
    go rest (Some c) f k = both rest (method_of world r c) (each of contents) refl f k

-- ---- a call's number in it changes nothing that it runs

runs_numbered : (world : World) (refs : List MethodRef) (statics : List StaticField) (op : Op)
    → runs world (op_numbered refs statics op) ≡ runs world op
unfolding runs
runs_numbered world refs statics (Plain insn) = refl
runs_numbered world refs statics (Constant value) = refl
runs_numbered world refs statics (Getstatic used) = refl
runs_numbered world refs statics (Putstatic used) = refl
runs_numbered world refs statics (Getfield used) = refl
runs_numbered world refs statics (Putfield used) = refl
runs_numbered world refs statics (Invokevirtual call) = refl
runs_numbered world refs statics (Invokespecial call) = refl
runs_numbered world refs statics (Invokestatic call) = refl
runs_numbered world refs statics (Invokeinterface call) = refl
runs_numbered world refs statics (New t) = refl
runs_numbered world refs statics (Anewarray t) = refl
runs_numbered world refs statics (Checkcast t) = refl
runs_numbered world refs statics (Instanceof t) = refl

insns_run : (world : World) (refs : List MethodRef) (statics : List StaticField) (insns : List (ℕ × Op))
    → flat_map (λ x. runs world x.1) (insns_numbered refs statics insns) ≡ flat_map (λ x. runs world x.1) insns
insns_run world refs statics [] = refl
insns_run world refs statics (x ∷ xs) = ap (λ ys. ys ++ flat_map (λ y. runs world y.1) (insns_numbered refs statics xs))
    (runs_numbered world refs statics x.1) ∙ ap (λ ys. runs world x.1 ++ ys) (insns_run world refs statics xs)

method_runs : (world : World) (refs : List MethodRef) (statics : List StaticField) (m : Method)
    → runs_in world (method_numbered refs statics m) ≡ runs_in world m
unfolding runs_in
method_runs world refs statics m = insns_run world refs statics m.insns

pub numbered_closed : (world : World) (refs : List MethodRef) (statics : List StaticField) (methods : List Method)
    → is_closed world refs methods ≡ true → is_closed world refs (map (method_numbered refs statics) methods) ≡ true
numbered_closed world refs statics [] e = refl
numbered_closed world refs statics (m ∷ ms) e =
    let r = and_parts (has_runs world refs m) (is_closed world refs ms) e in
    and_from _ _ (ap (list_all (has_method refs)) (method_runs world refs statics m) ∙ r.0) (numbered_closed world refs statics ms r.1)

-- the list that is made of what its methods run has all of it
pub made_closed : (world : World) (entry : MethodRef) (refs : List MethodRef) (methods : List Method)
    → refs ≡ with_new (entry ∷ []) (flat_map (runs_from world) refs) → methods_of world refs ≡ Ok methods
    → is_closed world refs methods ≡ true
made_closed world entry refs methods e m =
    each_has world (has_method refs) refs methods m
    (subst (λ (xs : List MethodRef). list_all (has_method xs) (flat_map (runs_from world) refs) ≡ true) (sym e)
    (with_new_has (entry ∷ []) (flat_map (runs_from world) refs)))

-- ---- the instruction at a place

-- what stands at some place stands among the instructions
pub stands_there : {A : Type 0} (p : A → Bool) (xs : List (ℕ × A)) (pc : ℕ) (x : A × Option ℕ) → list_all (λ y. p y.1) xs ≡ true
    → instruction_at xs pc ≡ Some x → p x.0 ≡ true
stands_there p [] pc x e f = cc
stands_there {A} p (y ∷ ys) pc x e f = go (eqb y.0 pc) f (stands_there p ys pc x (and_parts (p y.1) (list_all (λ z. p z.1) ys) e).1)
  where
    go : (b : Bool) → cond b (Some (y.1, first_place ys)) (instruction_at ys pc) ≡ Some x
        → (instruction_at ys pc ≡ Some x → p x.0 ≡ true) → p x.0 ≡ true
    go true g rest = let same : y.1 ≡ x.0 = cc in subst (λ (z : A). p z ≡ true) same (and_parts (p y.1) (list_all (λ z. p z.1) ys) e).0
    go false g rest = rest g

-- an instruction of a program is one of a method's
pub op_among : (p : Op → Bool) (methods : List Method) (number pc : ℕ) (op : Op)
    → list_all (λ m. list_all (λ y. p y.1) m.insns) methods ≡ true → op_at methods number pc ≡ Some op → p op ≡ true
unfolding insn_at
op_among p methods number pc op e a = go (slice_get methods number) refl a
  where
    inside : (m : Method) → list_all (λ y. p y.1) m.insns ≡ true → (f : Option (Op × Option ℕ)) → instruction_at m.insns pc ≡ f
        → option_map (λ x. x.0) f ≡ Some op → p op ≡ true
    inside m h None q g = cc
    inside m h (Some x) q g = let same : x.0 ≡ op = cc in subst (λ (o : Op). p o ≡ true) same (stands_there p m.insns pc x h q)

    go : (o : Option Method) → slice_get methods number ≡ o
        → option_map (λ x. x.0) (option_and_then (λ m. instruction_at m.insns pc) o) ≡ Some op → p op ≡ true
    go None s g = cc
    go (Some m) s g = inside m (all_get (λ y. list_all (λ z. p z.1) y.insns) methods number m e s) (instruction_at m.insns pc) refl g

pub insns_have : (world : World) (refs : List MethodRef) (ms : List Method) → is_closed world refs ms ≡ true
    → list_all (λ m. list_all (λ y. list_all (has_method refs) (runs world y.1)) m.insns) ms ≡ true
unfolding runs_in
insns_have world refs [] h = refl
insns_have world refs (m ∷ ms) h =
    let r = and_parts (has_runs world refs m) (is_closed world refs ms) h in
    and_from _ _ (all_flat (has_method refs) (λ y. runs world y.1) m.insns r.0) (insns_have world refs ms r.1)

op_has : (world : World) (refs : List MethodRef) (methods : List Method) (number pc : ℕ) (op : Op)
    → is_closed world refs methods ≡ true → op_at methods number pc ≡ Some op → list_all (has_method refs) (runs world op) ≡ true
op_has world refs methods number pc op e a = op_among (λ o. list_all (has_method refs) (runs world o)) methods number pc op
    (insns_have world refs methods e) a

-- ---- what a class selects

pub found_at : (place : ℕ → Option ℕ) (xs : List ℕ) (r : ℕ × ℕ) → first_found place xs ≡ Some r → place r.0 ≡ Some r.1
found_at place [] r e = cc
found_at place (x ∷ xs) r e = go (place x) refl e (found_at place xs r)
  where
    go : (o : Option ℕ) → place x ≡ o → option_or (option_map (λ i. (x, i)) o) (first_found place xs) ≡ Some r
        → (first_found place xs ≡ Some r → place r.0 ≡ Some r.1) → place r.0 ≡ Some r.1
    go None q f rest = rest f
    go (Some i) q f rest = let same : (x, i) ≡ r = cc in subst (λ (y : ℕ × ℕ). place y.0 ≡ Some y.1) same q

pub selectable_there : (world : World) (class : ℕ) (name desc : List ℕ) (i : ℕ) → selectable_method world class name desc ≡ Some i
    → option_map_or is_selectable (method_at world (method_ref (class, i))) false ≡ true
unfolding selectable_method
selectable_there world class name desc i e = go (declared_method world class name desc) e
  where
    by : (j : ℕ) (b : Bool) → option_map_or is_selectable (method_at world (method_ref (class, j))) false ≡ b
        → cond b (Some j) None ≡ Some i → option_map_or is_selectable (method_at world (method_ref (class, i))) false ≡ true
    by j true q f = let same : j ≡ i = cc in subst (λ (k : ℕ). option_map_or is_selectable (method_at world (method_ref (class, k)))
        false ≡ true) same q
    by j false q f = cc

    go : (o : Option ℕ) → option_and_then (λ j. cond (option_map_or is_selectable (method_at world (method_ref (class, j))) false)
        (Some j) None) o ≡ Some i → option_map_or is_selectable (method_at world (method_ref (class, i))) false ≡ true
    go None f = cc
    go (Some j) f = by j (option_map_or is_selectable (method_at world (method_ref (class, j))) false) refl f

-- a method that is selected and isn't abstract has a body
selected_with_body : (world : World) (name desc : List ℕ) (class : ℕ) (ref : MethodRef) → select world name desc class ≡ Some ref
    → is_abstract_method world ref ≡ false → selected_body world name desc class ≡ Some ref
unfolding select selected_body with_body
selected_with_body world name desc class ref e a =
    ap (option_and_then (λ r. cond (has_no_body world r) None (Some r))) e
    ∙ ap (λ b. cond b None (Some ref))
    (body (method_at world ref) (there (first_found (λ c. selectable_method world c name desc) (line_of world class)) refl e) a)
  where
    there : (o : Option (ℕ × ℕ)) → first_found (λ c. selectable_method world c name desc) (line_of world class) ≡ o
        → option_map method_ref o ≡ Some ref → option_map_or is_selectable (method_at world ref) false ≡ true
    there None q f = cc
    there (Some x) q f =
        let same : method_ref x ≡ ref = cc in
        subst (λ (r : MethodRef). option_map_or is_selectable (method_at world r) false ≡ true) same
        (selectable_there world x.0 name desc x.1 (found_at (λ c. selectable_method world c name desc) (line_of world class) x q))

    body : (o : Option MethodContent) → option_map_or is_selectable o false ≡ true
        → option_map_or (λ m. is_abstract m.flags) o false ≡ false → option_map_or (λ m. is_abstract m.flags) o true ≡ false
    body None s b = absurd (false≢true s)
    body (Some m) s b = b

-- ---- a class that a receiver can be of

pub made_within : (world : World) (class : ℕ) → can_be_made world class ≡ true → class < length world
unfolding can_be_made
made_within world class e = go (slice_get world class) refl e
  where
    test : ClassContent → Bool
    test c = not (is_abstract c.flags) && not (is_interface c.flags)

    go : (o : Option ClassContent) → slice_get world class ≡ o → option_map_or test o false ≡ true → class < length world
    go None s f = absurd (false≢true f)
    go (Some c) s f = slice_get_within world class c s

filter_In : (p : ℕ → Bool) (xs : List ℕ) (x : ℕ) → IsIn x xs → p x ≡ true → IsIn x (filter p xs)
filter_In p [] x h e = absurd h
filter_In p (y ∷ ys) x (inl same) e =
    subst (λ (b : Bool). IsIn x (cond b (y ∷ filter p ys) (filter p ys))) (sym (ap p (sym same) ∙ e)) (inl same)
filter_In p (y ∷ ys) x (inr there) e = go (p y) (filter_In p ys x there e)
  where
    go : (b : Bool) → IsIn x (filter p ys) → IsIn x (cond b (y ∷ filter p ys) (filter p ys))
    go true h = inr h
    go false h = h

receiver_In : (world : World) (named class : ℕ) → is_receiver world named class ≡ true → IsIn class (receivers world named)
unfolding receivers
receiver_In world named class e =
    let l = made_within world class (and_parts (can_be_made world class) (is_class_below world class named) e).0 in
    filter_In (is_receiver world named) (range_with_len 0 (length world)) class
    (in_range 0 (length world) class (omega arith) (omega (arith, l))) e

-- ---- what is selected has a number

prefix_stops : (p : MethodRef → Bool) (xs : List MethodRef) → list_any p xs ≡ true → position_or_len p xs < length xs
prefix_stops p [] e = absurd (false≢true e)
prefix_stops p (x ∷ xs) e = go (p x) e (prefix_stops p xs)
  where
    go : (b : Bool) → (b || list_any p xs) ≡ true → (list_any p xs ≡ true → position_or_len p xs < length xs)
        → cond (not b) (1 + position_or_len p xs) 0 < suc (length xs)
    go true f rest = omega arith
    go false f rest = omega (arith, rest f)

pub position_there : (p : MethodRef → Bool) (xs : List MethodRef) → list_any p xs ≡ true → position p xs ≡ Some (position_or_len p xs)
position_there p xs e = ap (λ b. cond b (Some (position_or_len p xs)) None)
    (lt-ltb (position_or_len p xs) (length xs) (prefix_stops p xs e))

abbrev pub IsAnswered : Option Selected → Type 0
IsAnswered o = (s : Selected) × (o ≡ Some s)

-- of a selection that runs no method but a reached one
answered : (world : World) (refs : List MethodRef) (o : Option MethodRef)
    → ((ref : MethodRef) → o ≡ Some ref → is_abstract_method world ref ≡ false → has_method refs ref ≡ true)
    → IsAnswered (selected_in refs (selection_of world o))
unfolding selected_in
answered world refs None h = (answers.Abstract, refl)
answered world refs (Some ref) h = go (is_abstract_method world ref) refl
  where
    go : (b : Bool) → is_abstract_method world ref ≡ b → IsAnswered (selected_in refs (cond b Lacks (Runs ref)))
    go true e = (answers.Abstract, refl)
    go false e = (
      answers.Method (position_or_len (same_method ref) refs),
      ap (option_map answers.Method)
          (position_there (same_method ref) refs (h ref refl e)),
    )

virtual_answered : (world : World) (refs : List MethodRef) (named : ℕ) (m : MethodContent) (class : ℕ)
    → list_all (has_method refs) (selections world named m) ≡ true → is_receiver world named class ≡ true
    → IsAnswered (selected_in refs (selected_virtual world m.name m.desc class))
unfolding selections selected_virtual
virtual_answered world refs named m class h r =
    answered world refs (select world m.name m.desc class)
    (λ ref e a. all_made (has_method refs) (selected_body world m.name m.desc) (receivers world named) class ref h
    (receiver_In world named class r) (selected_with_body world m.name m.desc class ref e a))

interface_answered : (world : World) (refs : List MethodRef) (named : ℕ) (m : MethodContent) (class : ℕ)
    → list_all (has_method refs) (selections world named m) ≡ true → can_be_made world class ≡ true
    → IsAnswered (selected_in refs (selected_interface world named m.name m.desc class))
unfolding selected_interface selected_in
interface_answered world refs named m class h r = go (is_class_below world class named) refl
  where
    no : IsAnswered (selected_in refs Unfit)
    no = (answers.NoInterface, refl)

    go : (b : Bool) → is_class_below world class named ≡ b
        → IsAnswered (selected_in refs (cond b (selected_virtual world m.name m.desc class) Unfit))
    go true e = virtual_answered world refs named m class h (and_from _ _ r e)
    go false e = no

lacking : (refs : List MethodRef) → IsAnswered (selected_in refs Lacks)
unfolding selected_in
lacking refs = (answers.Abstract, refl)

pub op_answered : (world : World) (refs : List MethodRef) (op : Op) (class : ℕ) → list_all (has_method refs) (runs world op) ≡ true
    → can_receive world op class ≡ true → IsAnswered (option_and_then (selected_in refs) (selection_at world op class))
unfolding runs call_selections can_receive selection_at
op_answered world refs (Invokevirtual call) class h r = go (method_at world call.method) h
  where
    go : (o : Option MethodContent) → list_all (has_method refs) (option_map_or (selections world call.class) o []) ≡ true
        → IsAnswered (selected_in refs (option_map_or (λ m. selected_virtual world m.name m.desc class) o Lacks))
    go None k = lacking refs
    go (Some m) k = virtual_answered world refs call.class m class k r
op_answered world refs (Invokeinterface call) class h r = go (method_at world call.method) h
  where
    go : (o : Option MethodContent) → list_all (has_method refs) (option_map_or (selections world call.class) o []) ≡ true
        → IsAnswered (selected_in refs (option_map_or (λ m. selected_interface world call.class m.name m.desc class) o Lacks))
    go None k = lacking refs
    go (Some m) k = interface_answered world refs call.class m class k r
op_answered world refs (Plain insn) class h r = absurd (false≢true r)
op_answered world refs (Constant value) class h r = absurd (false≢true r)
op_answered world refs (Getstatic used) class h r = absurd (false≢true r)
op_answered world refs (Putstatic used) class h r = absurd (false≢true r)
op_answered world refs (Getfield used) class h r = absurd (false≢true r)
op_answered world refs (Putfield used) class h r = absurd (false≢true r)
op_answered world refs (Invokespecial call) class h r = absurd (false≢true r)
op_answered world refs (Invokestatic call) class h r = absurd (false≢true r)
op_answered world refs (New t) class h r = absurd (false≢true r)
op_answered world refs (Anewarray t) class h r = absurd (false≢true r)
op_answered world refs (Checkcast t) class h r = absurd (false≢true r)
op_answered world refs (Instanceof t) class h r = absurd (false≢true r)

pub place_answered : (p : Program) (number pc class : ℕ) → is_closed p.world (refs_of p.methods) p.methods ≡ true
    → can_receive_at p number pc class ≡ true → IsAnswered (selected_at p number pc class)
unfolding can_receive_at selected_at
place_answered p number pc class e r = go (op_at p.methods number pc) refl r
  where
    go : (o : Option Op) → op_at p.methods number pc ≡ o → option_map_or (λ op. can_receive p.world op class) o false ≡ true
        → IsAnswered (option_and_then (selected_in (refs_of p.methods)) (option_and_then (λ op. selection_at p.world op class) o))
    go None q f = absurd (false≢true f)
    go (Some op) q f = op_answered p.world (refs_of p.methods) op class (op_has p.world (refs_of p.methods) p.methods number pc op e q) f

receives_within : (world : World) (op : Op) (class : ℕ) → can_receive world op class ≡ true → class < length world
unfolding can_receive
receives_within world (Invokevirtual call) class r = made_within world class
    (and_parts (can_be_made world class) (is_class_below world class call.class) r).0
receives_within world (Invokeinterface call) class r = made_within world class r
receives_within world (Plain insn) class r = absurd (false≢true r)
receives_within world (Constant value) class r = absurd (false≢true r)
receives_within world (Getstatic used) class r = absurd (false≢true r)
receives_within world (Putstatic used) class r = absurd (false≢true r)
receives_within world (Getfield used) class r = absurd (false≢true r)
receives_within world (Putfield used) class r = absurd (false≢true r)
receives_within world (Invokespecial call) class r = absurd (false≢true r)
receives_within world (Invokestatic call) class r = absurd (false≢true r)
receives_within world (New t) class r = absurd (false≢true r)
receives_within world (Anewarray t) class r = absurd (false≢true r)
receives_within world (Checkcast t) class r = absurd (false≢true r)
receives_within world (Instanceof t) class r = absurd (false≢true r)

pub place_within : (p : Program) (number pc class : ℕ) → can_receive_at p number pc class ≡ true → class < length p.world
unfolding can_receive_at
place_within p number pc class r = go (op_at p.methods number pc) r
  where
    go : (o : Option Op) → option_map_or (λ op. can_receive p.world op class) o false ≡ true → class < length p.world
    go None f = absurd (false≢true f)
    go (Some op) f = receives_within p.world op class f

-- ---- what the code looks up

pub insn_found : (methods : List Method) (number pc : ℕ) (m : Method) (r : Option (Op × Option ℕ)) → number < length methods
    → m ≡ get_or methods number m → r ≡ instruction_at m.insns pc → r ≡ insn_at methods number pc
unfolding insn_at
insn_found methods number pc m r l e a =
    a ∙ ap (option_and_then (λ y. instruction_at y.insns pc)) (sym (slice_get_read methods (length methods) number m refl l e))

pub insn_past : (methods : List Method) (number pc : ℕ) → length methods ≤ number → None ≡ insn_at methods number pc
unfolding insn_at
insn_past methods number pc l = ap (option_and_then (λ y. instruction_at y.insns pc)) (sym (slice_get_past methods number l))

pub reach_closed : (world : World) (entry : MethodRef) (refs : List MethodRef) (methods : List Method)
    → IsReaching world entry refs methods → slice_get refs (length methods) ≡ None → is_closed world refs methods ≡ true
reach_closed world entry refs methods h e =
    let same = all_gone world entry refs methods h e in
    made_closed world entry refs methods (h.growing.made ∙ ap (made_by (runs_from world) entry) same)
    (ap (methods_of world) (sym same) ∙ h.found)

pub never_none : (o r : Option Selected) (s : Selected) → r ≡ o → r ≡ None → (x : Selected) × (o ≡ Some x) → o ≡ Some s
never_none o r s e f h = let w = h.1 in cc

pub closed_from : (world : World) (refs : List MethodRef) (statics : List StaticField) (methods numbered : List Method)
    → numbered ≡ map (method_numbered refs statics) methods → is_closed world refs methods ≡ true → is_closed world refs numbered ≡ true
closed_from world refs statics methods numbered e h = ap (is_closed world refs) e ∙ numbered_closed world refs statics methods h
