-- What is listed is what can be called.
use Rattle.std.proofs.Common.{◌≡◌, ◌⊎◌, ◌↔◌, inl, inr, ℕ, zero, suc, ◌+◌, ◌<◌, ◌≤◌, eqb, Bool, true, false, cond, List, [], ◌∷◌}
use Rattle.std.proofs.Common.{◌++◌, length, map, Option, Some, None, subst, ap, arith, refl, ◌∙◌, sym}
use Rattle.std.specs.Prelude.{IsTrue, slice_get, option_and_then, option_map}
use Rattle.std.specs.List.{filter_map, flat_map, range_with_len, cons_option}
use Rattle.std.specs.Option.{option_map_or, option_to_list}
use Rattle.std.proofs.lemmas.Bool.{false≢true, and_parts, eqb-true, cases_eq}
use Rattle.list_views.proofs.Orders.{zero_before}
use Rattle.class_world.specs.Fields.{can_be_made}
use Rattle.class_world.specs.Types.{is_class_below}
use Rattle.class_program.specs.declared.op.Call.{Call}
use Rattle.class_program.specs.declared.op.Op.{Op}
use Rattle.class_program.specs.declared.op.Op.TheVariants.{Plain, Constant, Getstatic, Putstatic, Getfield, Putfield, Invokevirtual}
use Rattle.class_program.specs.declared.op.Op.TheVariants.{Invokespecial, Invokestatic, Invokeinterface, New, Anewarray, Checkcast}
use Rattle.class_program.specs.declared.op.Op.TheVariants.{Instanceof}
use Rattle.class_program.specs.declared.program.Method.{Method}
use Rattle.class_program.specs.declared.selected.Selected.{Selected}
use Rattle.class_program.specs.declared.selected.Selected.TheVariants as answers
use Rattle.class_program.specs.Instructions.{instruction_at, first_place}
use Rattle.class_program.specs.Programs.{Program, refs_of, insn_at, op_at}
use Rattle.class_program.specs.Selected.{CanRun, selection_at, selected_in, selected_at, can_receive, can_receive_at}
use Rattle.class_program.proofs.Closed.{made_within}
use Rattle.number_graphs.specs.Graphs.{IsWay, IsOnCycle, IsLeastOnCycle}
use Rattle.call_graph.specs.Calls.{Calls}
use Rattle.number_graphs.specs.Lists.{Has, row_at, Edge}
use Rattle.call_graph.specs.inner.Listed.{method_of, class_run, class_runs, op_runs, place_runs, method_runs, rows_from, graph_of}

-- ---- lists

abbrev Among : {X : Type 0} → X → List X → Type 0
Among x [] = ⊥
Among x (y ∷ ys) = (y ≡ x) ⊎ Among x ys

has_either : (xs ys : List ℕ) (b : ℕ) → Has (xs ++ ys) b → Has xs b ⊎ Has ys b
has_either [] ys b h = inr h
has_either (x ∷ xs) ys b (inl e) = inl (inl e)
has_either (x ∷ xs) ys b (inr h) = elim (has_either xs ys b h) as (λ o. Has (x ∷ xs) b ⊎ Has ys b) [
  | inl k ↦ inl (inr k)
  | inr k ↦ inr k
]

has_first : (xs ys : List ℕ) (b : ℕ) → Has xs b → Has (xs ++ ys) b
has_first [] ys b h = absurd h
has_first (x ∷ xs) ys b (inl e) = inl e
has_first (x ∷ xs) ys b (inr h) = inr (has_first xs ys b h)

has_second : (xs ys : List ℕ) (b : ℕ) → Has ys b → Has (xs ++ ys) b
has_second [] ys b h = h
has_second (x ∷ xs) ys b h = inr (has_second xs ys b h)

record IsFrom {X : Type 0} (xs : List X) (P : X → Type 0) : Type 0 where
  one : X
  among : Among one xs
  holds : P one

from_flat : {X : Type 0} (f : X → List ℕ) (xs : List X) (b : ℕ) → Has (flat_map f xs) b → IsFrom xs (λ x. Has (f x) b)
from_flat f [] b h = absurd h
from_flat {X = X} f (x ∷ xs) b h = elim (has_either (f x) (flat_map f xs) b h) as (λ o. IsFrom (x ∷ xs) (λ y. Has (f y) b)) [
  | inl k ↦ record { one = x; among = inl refl; holds = k }
  | inr k ↦ let r = from_flat f xs b k in record { one = r.one; among = inr r.among; holds = r.holds }
]

to_flat : {X : Type 0} (f : X → List ℕ) (xs : List X) (x : X) (b : ℕ) → Among x xs → Has (f x) b → Has (flat_map f xs) b
to_flat f [] x b m h = absurd m
to_flat f (y ∷ xs) x b (inl e) h = has_first (f y) (flat_map f xs) b (subst (λ z. Has (f z) b) (sym e) h)
to_flat f (y ∷ xs) x b (inr m) h = has_second (f y) (flat_map f xs) b (to_flat f xs x b m h)

from_one : (f : ℕ → Option ℕ) (x : ℕ) (xs : List ℕ) (b : ℕ) (found : Option ℕ) → f x ≡ found
    → (Has (filter_map f xs) b → IsFrom xs (λ y. f y ≡ Some b)) → Has (cons_option found (filter_map f xs)) b
    → IsFrom (x ∷ xs) (λ y. f y ≡ Some b)
from_one f x xs b None e rest k = let r = rest k in record { one = r.one; among = inr r.among; holds = r.holds }
from_one f x xs b (Some y) e rest (inl s) = record { one = x; among = inl refl; holds = e ∙ ap (λ z. Some z) s }
from_one f x xs b (Some y) e rest (inr k) = let r = rest k in record { one = r.one; among = inr r.among; holds = r.holds }

from_filter : (f : ℕ → Option ℕ) (xs : List ℕ) (b : ℕ) → Has (filter_map f xs) b → IsFrom xs (λ x. f x ≡ Some b)
from_filter f [] b h = absurd h
from_filter f (x ∷ xs) b h = from_one f x xs b (f x) refl (λ k. from_filter f xs b k) h

past_one : (found : Option ℕ) (xs : List ℕ) (b : ℕ) → Has xs b → Has (cons_option found xs) b
past_one None xs b h = h
past_one (Some z) xs b h = inr h

to_filter : (f : ℕ → Option ℕ) (xs : List ℕ) (x b : ℕ) → Among x xs → f x ≡ Some b → Has (filter_map f xs) b
to_filter f [] x b m e = absurd m
to_filter f (y ∷ xs) x b (inl s) e = subst (λ (o : Option ℕ). Has (cons_option o (filter_map f xs)) b) (sym (ap f s ∙ e)) (inl refl)
to_filter f (y ∷ xs) x b (inr m) e = past_one (f y) (filter_map f xs) b (to_filter f xs x b m e)

in_range : (a n c : ℕ) → a ≤ c → c < a + n → Among c (range_with_len a n)
in_range a zero c l h = absurd (omega (arith, l, h))
in_range a (suc n) c l h = elim (cases_eq a c) as (λ o. Among c (range_with_len a (suc n))) [
  | inl s ↦ inl s
  | inr d ↦ inr (in_range (a + 1) n c (omega (arith, l, d)) (omega (arith, h)))
]

-- ---- the list of a method

rows_get : (p : Program) (k : ℕ) (methods : List Method) (i : ℕ) (m : Method) → slice_get methods i ≡ Some m
    → slice_get (rows_from p k methods) i ≡ Some (method_runs p (k + i) m.insns)
rows_get p k [] i m e = let no : ⊥ = cc in absurd no
rows_get p k (x ∷ methods) zero m e =
    let same : x ≡ m = cc in
    let first : k ≡ k + 0 = omega arith in
    ap (λ (y : Method). Some (method_runs p k y.insns)) same ∙ ap (λ (n : ℕ). Some (method_runs p n m.insns)) first
rows_get p k (x ∷ methods) (suc i) m e =
    let next : (k + 1) + i ≡ k + suc i = omega arith in
    rows_get p (k + 1) methods i m e ∙ ap (λ (n : ℕ). Some (method_runs p n m.insns)) next

rows_none : (p : Program) (k : ℕ) (methods : List Method) (i : ℕ) → slice_get methods i ≡ None → slice_get (rows_from p k methods) i ≡ None
rows_none p k [] i e = refl
rows_none p k (x ∷ methods) zero e = let no : ⊥ = cc in absurd no
rows_none p k (x ∷ methods) (suc i) e = rows_none p (k + 1) methods i e

row_is : (p : Program) (a : ℕ) (m : Method) → slice_get p.methods a ≡ Some m → row_at (graph_of p) a ≡ method_runs p a m.insns
row_is p a m e =
    ap (λ (o : Option (List ℕ)). option_map_or (λ row. row) o []) (rows_get p 0 p.methods a m e)
    ∙ ap (λ (n : ℕ). method_runs p n m.insns) (zero_before a)

row_none : (p : Program) (a : ℕ) → slice_get p.methods a ≡ None → row_at (graph_of p) a ≡ []
row_none p a e = ap (λ (o : Option (List ℕ)). option_map_or (λ row. row) o []) (rows_none p 0 p.methods a e)

-- ---- instructions

insn_at_one : {A : Type 0} (x : ℕ × A) (rest : List (ℕ × A)) (place : ℕ) (found : A × Option ℕ) (t : Bool) → eqb x.0 place ≡ t
    → (instruction_at rest place ≡ Some found → IsFrom rest (λ y. y.0 ≡ place))
    → cond t (Some (x.1, first_place rest)) (instruction_at rest place) ≡ Some found → IsFrom (x ∷ rest) (λ y. y.0 ≡ place)
insn_at_one x rest place found true s more k = record { one = x; among = inl refl; holds = eqb-true x.0 place s }
insn_at_one x rest place found false s more k = let r = more k in record { one = r.one; among = inr r.among; holds = r.holds }

insn_there : {A : Type 0} (insns : List (ℕ × A)) (place : ℕ) (found : A × Option ℕ) → instruction_at insns place ≡ Some found
    → IsFrom insns (λ x. x.0 ≡ place)
insn_there [] place found e = let no : ⊥ = cc in absurd no
insn_there (x ∷ rest) place found e = insn_at_one x rest place found (eqb x.0 place) refl (λ k. insn_there rest place found k) e

record IsThere (p : Program) (a place : ℕ) : Type 0 where
  method : Method
  is : slice_get p.methods a ≡ Some method
  insn : IsFrom method.insns (λ x. x.0 ≡ place)

op_there : (p : Program) (a place : ℕ) (op : Op) → op_at p.methods a place ≡ Some op → IsThere p a place
unfolding insn_at
op_there p a place op e = at (slice_get p.methods a) refl e
  where
    found : (m : Method) (o : Option (Op × Option ℕ)) → instruction_at m.insns place ≡ o → option_map (λ x. x.0) o ≡ Some op
        → IsFrom m.insns (λ x. x.0 ≡ place)
    found m None s k = let no : ⊥ = cc in absurd no
    found m (Some x) s k = insn_there m.insns place x s

    at : (o : Option Method) → slice_get p.methods a ≡ o
        → option_map (λ x. x.0) (option_and_then (λ m. instruction_at m.insns place) o) ≡ Some op → IsThere p a place
    at None s k = let no : ⊥ = cc in absurd no
    at (Some m) s k = record { method = m; is = s; insn = found m (instruction_at m.insns place) refl k }

-- ---- what a call selects

method_is : (o : Option Selected) (b : ℕ) → method_of o ≡ Some b → o ≡ Some (answers.Method b)
method_is None b e = let no : ⊥ = cc in absurd no
method_is (Some (answers.Method n)) b e = let same : n ≡ b = cc in ap (λ (x : ℕ). Some (answers.Method x)) same
method_is (Some answers.Abstract) b e = let no : ⊥ = cc in absurd no
method_is (Some answers.NoInterface) b e = let no : ⊥ = cc in absurd no

abbrev RunsFor : Program → Op → ℕ → ℕ → Type 0
RunsFor p op class b = IsTrue (can_receive p.world op class)
    × (option_and_then (selected_in (refs_of p.methods)) (selection_at p.world op class) ≡ Some (answers.Method b))

run_of : (p : Program) (a place class b : ℕ) (op : Op) → op_at p.methods a place ≡ Some op → class_run p a place class ≡ Some b
    → RunsFor p op class b
unfolding class_run can_receive_at selected_at
run_of p a place class b op e r = at (op_at p.methods a place) e r
  where
    test : (t : Bool) (o : Option Selected) → cond t (method_of o) None ≡ Some b → (t ≡ true) × (o ≡ Some (answers.Method b))
    test true o k = (refl, method_is o b k)
    test false o k = let no : ⊥ = cc in absurd no

    at : (o : Option Op) → o ≡ Some op
        → cond (option_map_or (λ x. can_receive p.world x class) o false)
        (method_of (option_and_then (selected_in (refs_of p.methods)) (option_and_then (λ x. selection_at p.world x class) o))) None
        ≡ Some b → RunsFor p op class b
    at None s k = let no : ⊥ = cc in absurd no
    at (Some x) s k =
        let same : x ≡ op = cc in
        subst (λ (y : Op). RunsFor p y class b) same
        (test (can_receive p.world x class) (option_and_then (selected_in (refs_of p.methods)) (selection_at p.world x class)) k)

run_to : (p : Program) (a place class b : ℕ) (op : Op) → op_at p.methods a place ≡ Some op → RunsFor p op class b
    → class_run p a place class ≡ Some b
unfolding class_run can_receive_at selected_at
run_to p a place class b op e r =
    ap (λ (o : Option Op). cond (option_map_or (λ x. can_receive p.world x class) o false)
    (method_of (option_and_then (selected_in (refs_of p.methods)) (option_and_then (λ x. selection_at p.world x class) o))) None) e
    ∙ ap (λ (t : Bool). cond t (method_of (option_and_then (selected_in (refs_of p.methods)) (selection_at p.world op class))) None) r.0
    ∙ ap (λ (o : Option Selected). method_of o) r.1

receives_virtual : (p : Program) (class : ℕ) (call : Call) → IsTrue (can_receive p.world (Invokevirtual call) class)
    → class < length p.world
unfolding can_receive
receives_virtual p class call r = made_within p.world class
    (and_parts (can_be_made p.world class) (is_class_below p.world class call.class) r).0

receives_interface : (p : Program) (class : ℕ) (call : Call) → IsTrue (can_receive p.world (Invokeinterface call) class)
    → class < length p.world
unfolding can_receive
receives_interface p class call r = made_within p.world class r

-- ---- what an instruction can run

of_target : (target : Option ℕ) (b : ℕ) → Has (option_to_list target) b → target ≡ Some b
of_target None b h = absurd h
of_target (Some n) b (inl e) = ap (λ (x : ℕ). Some x) e
of_target (Some n) b (inr h) = absurd h

to_target : (target : Option ℕ) (b : ℕ) → target ≡ Some b → Has (option_to_list target) b
to_target None b e = let no : ⊥ = cc in absurd no
to_target (Some n) b e = inl (cc)

of_classes : (p : Program) (a place b : ℕ) (op : Op) → op_at p.methods a place ≡ Some op → Has (class_runs p a place) b
    → (class : ℕ) × IsTrue (can_receive p.world op class)
    × (option_and_then (selected_in (refs_of p.methods)) (selection_at p.world op class) ≡ Some (answers.Method b))
unfolding class_runs
of_classes p a place b op e h =
    let r = from_filter (class_run p a place) (range_with_len 0 (length p.world)) b h in
    let k = run_of p a place r.one b op e r.holds in
    (r.one, k.0, k.1)

to_classes : (p : Program) (a place b : ℕ) (op : Op) (class : ℕ) → op_at p.methods a place ≡ Some op → class < length p.world
    → RunsFor p op class b → Has (class_runs p a place) b
unfolding class_runs
to_classes p a place b op class e l r = to_filter (class_run p a place) (range_with_len 0 (length p.world)) class b
    (in_range 0 (length p.world) class (omega arith) (omega (arith, l))) (run_to p a place class b op e r)

can_run : (p : Program) (a place b : ℕ) (op : Op) → op_at p.methods a place ≡ Some op → Has (op_runs p a place op) b → CanRun p op b
can_run p a place b (Invokestatic call) e h = of_target call.target b h
can_run p a place b (Invokespecial call) e h = of_target call.target b h
can_run p a place b (Invokevirtual call) e h = of_classes p a place b (Invokevirtual call) e h
can_run p a place b (Invokeinterface call) e h = of_classes p a place b (Invokeinterface call) e h
can_run p a place b (Plain insn) e h = absurd h
can_run p a place b (Constant n) e h = absurd h
can_run p a place b (Getstatic used) e h = absurd h
can_run p a place b (Putstatic used) e h = absurd h
can_run p a place b (Getfield used) e h = absurd h
can_run p a place b (Putfield used) e h = absurd h
can_run p a place b (New t) e h = absurd h
can_run p a place b (Anewarray t) e h = absurd h
can_run p a place b (Checkcast t) e h = absurd h
can_run p a place b (Instanceof t) e h = absurd h

is_run : (p : Program) (a place b : ℕ) (op : Op) → op_at p.methods a place ≡ Some op → CanRun p op b → Has (op_runs p a place op) b
unfolding can_receive
is_run p a place b (Invokestatic call) e r = to_target call.target b r
is_run p a place b (Invokespecial call) e r = to_target call.target b r
is_run p a place b (Invokevirtual call) e r = to_classes p a place b (Invokevirtual call) r.0 e (receives_virtual p r.0 call r.1)
    (r.1, r.2)
is_run p a place b (Invokeinterface call) e r = to_classes p a place b (Invokeinterface call) r.0 e
    (receives_interface p r.0 call r.1) (r.1, r.2)
is_run p a place b (Plain insn) e r = absurd (false≢true r.1)
is_run p a place b (Constant n) e r = absurd (false≢true r.1)
is_run p a place b (Getstatic used) e r = absurd (false≢true r.1)
is_run p a place b (Putstatic used) e r = absurd (false≢true r.1)
is_run p a place b (Getfield used) e r = absurd (false≢true r.1)
is_run p a place b (Putfield used) e r = absurd (false≢true r.1)
is_run p a place b (New t) e r = absurd (false≢true r.1)
is_run p a place b (Anewarray t) e r = absurd (false≢true r.1)
is_run p a place b (Checkcast t) e r = absurd (false≢true r.1)
is_run p a place b (Instanceof t) e r = absurd (false≢true r.1)

at_place : (p : Program) (a place b : ℕ) → Has (place_runs p a place) b → Calls p a b
unfolding place_runs
at_place p a place b h = at (op_at p.methods a place) refl h
  where
    at : (o : Option Op) → op_at p.methods a place ≡ o → Has (option_map_or (op_runs p a place) o []) b → Calls p a b
    at None s k = absurd k
    at (Some op) s k = record { place = place; op = op; stands = s; runs = can_run p a place b op s k }

to_place : (p : Program) (a place b : ℕ) (op : Op) → op_at p.methods a place ≡ Some op → CanRun p op b → Has (place_runs p a place) b
unfolding place_runs
to_place p a place b op e r = subst (λ (o : Option Op). Has (option_map_or (op_runs p a place) o []) b) (sym e) (is_run p a place b op e r)

-- what is listed can be called
pub edge_calls : (p : Program) (a b : ℕ) → Edge (graph_of p) a b → Calls p a b
unfolding method_runs
edge_calls p a b h = at (slice_get p.methods a) refl
  where
    at : (o : Option Method) → slice_get p.methods a ≡ o → Calls p a b
    at None s = absurd (subst (λ (row : List ℕ). Has row b) (row_none p a s) h)
    at (Some m) s =
        let r = from_flat (λ (x : ℕ × Op). place_runs p a x.0) m.insns b (subst (λ (row : List ℕ). Has row b) (row_is p a m s) h) in
        at_place p a r.one.0 b r.holds

-- what can be called is listed
pub calls_edge : (p : Program) (a b : ℕ) → Calls p a b → Edge (graph_of p) a b
unfolding method_runs
calls_edge p a b c =
    let t = op_there p a c.place c.op c.stands in
    let k : Has (place_runs p a t.insn.one.0) b = subst (λ (place : ℕ). Has (place_runs p a place) b) (sym t.insn.holds)
    (to_place p a c.place b c.op c.stands c.runs) in
    subst (λ (row : List ℕ). Has row b) (sym (row_is p a t.method t.is))
    (to_flat (λ (x : ℕ × Op). place_runs p a x.0) t.method.insns t.insn.one b t.insn.among k)

-- ---- cycles

to_calls : (p : Program) (way : List ℕ) (a b : ℕ) → IsWay (Edge (graph_of p)) a way b → IsWay (Calls p) a way b
to_calls p [] a b w = edge_calls p a b w
to_calls p (next ∷ way) a b w = (edge_calls p a next w.0, to_calls p way next b w.1)

to_edges : (p : Program) (way : List ℕ) (a b : ℕ) → IsWay (Calls p) a way b → IsWay (Edge (graph_of p)) a way b
to_edges p [] a b w = calls_edge p a b w
to_edges p (next ∷ way) a b w = (calls_edge p a next w.0, to_edges p way next b w.1)

-- no method is on a cycle
pub none_calls : (p : Program) (graph : List (List ℕ)) → graph ≡ graph_of p → ((a : ℕ) → IsOnCycle (Edge graph) a → ⊥) → (a : ℕ)
    → IsOnCycle (Calls p) a → ⊥
none_calls p graph e none a on = none a (subst (λ (g : List (List ℕ)). IsOnCycle (Edge g) a) (sym e) (on.0, to_edges p on.0 a a on.1))

-- the least method on one
pub least_calls : (p : Program) (graph : List (List ℕ)) (a : ℕ) → graph ≡ graph_of p → IsLeastOnCycle (Edge graph) a
    → IsLeastOnCycle (Calls p) a
least_calls p graph a e l =
    let here : IsLeastOnCycle (Edge (graph_of p)) a = subst (λ (g : List (List ℕ)). IsLeastOnCycle (Edge g) a) e l in
    record {
      on = (here.on.0, to_calls p here.on.0 a a here.on.1);
      least = λ b k on. here.least b k (on.0, to_edges p on.0 b b on.1);
    }
