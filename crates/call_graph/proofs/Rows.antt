-- Lists that are made item by item.
use Rattle.std.proofs.Common.{◌≡◌, ◌⊎◌, ℕ, zero, suc, ◌+◌, ◌<◌, ◌≤◌, List, [], ◌∷◌, ◌++◌, length, get_or, drop, drop-cons, add-one}
use Rattle.std.proofs.Common.{append_assoc, append-nil, Option, Some, None, Result, Ok, Err, ◌^◌, subst, ap, arith, refl, ◌∙◌, sym}
use Rattle.std.proofs.Common.{length-append}
use Rattle.std.specs.Prelude.{slice_get, MatchOption}
use Rattle.std.specs.List.{filter_map, flat_map, range_with_len, cons_option}
use Rattle.std.specs.Option.{option_to_list}
use Rattle.std.proofs.lemmas.Option.{slice_get_within, slice_get-get_or}
use Rattle.class_program.specs.declared.program.Method.{Method}
use Rattle.class_program.specs.class_read.Content.{ClassContent}
use Rattle.class_world.specs.declared.fault.MethodName.{MethodName}
use Rattle.class_program.specs.Good.{IsGood, IsGoodMethod}
use Rattle.number_graphs.specs.Graphs.{IsOnCycle, IsLeastOnCycle}
use Rattle.call_graph.specs.Calls.{IsNameOf, Answers}
use Rattle.call_graph.specs.declared.fault.CallFault.TheVariants.{Recursive}
use Rattle.call_graph.proofs.Listing.{none_calls, least_calls}
use Rattle.class_program.specs.Programs.{Program}
use Rattle.class_program.proofs.Got.{all_at}
use Rattle.number_graphs.specs.Lists.{Edge, Ranked}
use Rattle.number_graphs.specs.Laws.{CyclesAreListed, FallingHasNoCycle}
use Rattle.number_graphs.specs.declared.ranking.Ranking.{Ranking}
use Rattle.number_graphs.specs.declared.ranking.Ranking.TheVariants.{Ranks, Cycle}
use Rattle.call_graph.specs.inner.Listed.{method_runs, rows_from, graph_of}

range_more : (a n : ℕ) → range_with_len a (suc n) ≡ range_with_len a n ++ (a + n) ∷ []
range_more a zero = let e : a ≡ a + 0 = omega arith in ap (λ (x : ℕ). x ∷ []) e
range_more a (suc n) = let e : (a + 1) + n ≡ a + suc n = omega arith in ap (λ xs. a ∷ xs)
    (range_more (a + 1) n ∙ ap (λ (x : ℕ). range_with_len (a + 1) n ++ x ∷ []) e)

cons_end : (o : Option ℕ) (xs ys zs : List ℕ) → xs ≡ ys ++ zs → cons_option o xs ≡ cons_option o ys ++ zs
cons_end None xs ys zs e = e
cons_end (Some z) xs ys zs e = ap (λ l. z ∷ l) e

one_end : (o : Option ℕ) → cons_option o [] ≡ option_to_list o
one_end None = refl
one_end (Some y) = refl

filter_end : (f : ℕ → Option ℕ) (xs : List ℕ) (x : ℕ) → filter_map f (xs ++ x ∷ []) ≡ filter_map f xs ++ option_to_list (f x)
filter_end f [] x = one_end (f x)
filter_end f (y ∷ xs) x = cons_end (f y) (filter_map f (xs ++ x ∷ [])) (filter_map f xs) (option_to_list (f x)) (filter_end f xs x)

-- one more number of a range
pub range_step : (f : ℕ → Option ℕ) (found more : List ℕ) (n : ℕ) → found ≡ filter_map f (range_with_len 0 n)
    → more ≡ found ++ option_to_list (f n) → more ≡ filter_map f (range_with_len 0 (n + 1))
range_step f found more n e m =
    let count : suc n ≡ n + 1 = omega arith in
    let start : 0 + n ≡ n = omega arith in
    m ∙ ap (λ xs. xs ++ option_to_list (f n)) e ∙ sym (filter_end f (range_with_len 0 n) n)
    ∙ ap (λ (x : ℕ). filter_map f (range_with_len 0 n ++ x ∷ [])) (sym start) ∙ ap (filter_map f) (sym (range_more 0 n))
    ∙ ap (λ (x : ℕ). filter_map f (range_with_len 0 x)) count

-- one more item of a list
pub flat_step : {A : Type 0} (f : A → List ℕ) (xs : List A) (i : ℕ) (d : A) (found more new all : List ℕ)
    → found ++ flat_map f (drop i xs) ≡ all → i < length xs → new ≡ f (get_or xs i d) → more ≡ found ++ new
    → more ++ flat_map f (drop (i + 1) xs) ≡ all
flat_step f xs i d found more new all e l n m =
    let rest = flat_map f (drop (i + 1) xs) in
    let a : drop i xs ≡ get_or xs i d ∷ drop (i + 1) xs = rw (add-one) (drop-cons xs i d l) in
    ap (λ ys. ys ++ rest) (m ∙ ap (λ ys. found ++ ys) n) ∙ append_assoc found (f (get_or xs i d)) rest
    ∙ ap (λ ys. found ++ flat_map f ys) (sym a) ∙ e

-- one more method
pub row_step : (p : Program) (methods : List Method) (i : ℕ) (d : Method) (graph more all : List (List ℕ)) (row : List ℕ)
    → graph ++ rows_from p i (drop i methods) ≡ all → i < length methods → row ≡ method_runs p i (get_or methods i d).insns
    → more ≡ graph ++ row ∷ [] → more ++ rows_from p (i + 1) (drop (i + 1) methods) ≡ all
row_step p methods i d graph more all row e l r m =
    let rest = rows_from p (i + 1) (drop (i + 1) methods) in
    let a : drop i methods ≡ get_or methods i d ∷ drop (i + 1) methods = rw (add-one) (drop-cons methods i d l) in
    ap (λ ys. ys ++ rest) (m ∙ ap (λ (x : List ℕ). graph ++ x ∷ []) r)
    ∙ append_assoc graph (method_runs p i (get_or methods i d).insns ∷ []) rest
    ∙ ap (λ (ys : List Method). graph ++ rows_from p i ys) (sym a) ∙ e

pub more_done : (graph more : List (List ℕ)) (row : List ℕ) (n : ℕ) → length graph ≡ n → more ≡ graph ++ row ∷ [] → length more ≡ n + 1
more_done graph more row n e m = ap length m ∙ length-append graph (row ∷ []) ∙ ap (λ (x : ℕ). x + 1) e

rows_length : (p : Program) (k : ℕ) (methods : List Method) → length (rows_from p k methods) ≡ length methods
rows_length p k [] = refl
rows_length p k (m ∷ methods) = ap suc (rows_length p (k + 1) methods)

-- each method has a list
pub graph_length : (p : Program) → length (graph_of p) ≡ length p.methods
graph_length p = rows_length p 0 p.methods

-- ---- the answer

pub few_rows : (graph slice : List (List ℕ)) → slice ≡ graph → length graph + 1 < 2 ^ 32 → length slice + 1 < 2 ^ 32
few_rows graph slice e l = subst (λ (g : List (List ℕ)). length g + 1 < 2 ^ 32) (sym e) l

pub number_within : CyclesAreListed → (p : Program) (graph : List (List ℕ)) (a : ℕ) → graph ≡ graph_of p
    → IsLeastOnCycle (Edge graph) a → a < length p.methods
number_within listed p graph a e l =
    let k = listed graph a l.on in
    let n : length graph ≡ length p.methods = ap length e ∙ graph_length p in
    omega (arith, k, n)

pub acyclic_some : (p : Program) (graph : List (List ℕ)) (a : ℕ) (name : MethodName) → graph ≡ graph_of p
    → IsLeastOnCycle (Edge graph) a → IsNameOf p a name → Answers p (Err (Recursive name))
acyclic_some p graph a name e l n = (a, (least_calls p graph a e l, n))

pub acyclic_none : (p : Program) (graph : List (List ℕ)) → graph ≡ graph_of p → ((a : ℕ) → IsOnCycle (Edge graph) a → ⊥)
    → Answers p (Ok tt)
acyclic_none p graph e none = none_calls p graph e none

-- a number that is named is the least one on a cycle
pub cycle_least : (graph : List (List ℕ)) (ranking : Ranking) (a : ℕ) → Ranked graph ranking → ranking ≡ Cycle a
    → IsLeastOnCycle (Edge graph) a
cycle_least graph ranking a r e = subst (λ (x : Ranking). Ranked graph x) e r

-- ranks leave no cycle
pub ranks_leave_none : FallingHasNoCycle → (graph : List (List ℕ)) (ranking : Ranking) (ranks : List ℕ) → Ranked graph ranking
    → ranking ≡ Ranks ranks → (a : ℕ) → IsOnCycle (Edge graph) a → ⊥
ranks_leave_none falling graph ranking ranks r e = falling graph ranks (subst (λ (x : Ranking). Ranked graph x) e r)

-- ---- names

pub method_there : (methods : List Method) (a : ℕ) (m : Method) → a < length methods → m ≡ get_or methods a m
    → slice_get methods a ≡ Some m
method_there methods a m l e = slice_get-get_or methods a m l ∙ ap (λ (x : Method). Some x) (sym e)

pub class_within : (p : Program) (a : ℕ) (m : Method) → IsGood p → a < length p.methods → m ≡ get_or p.methods a m
    → m.class < length p.world
class_within p a m good l e = (all_at (IsGoodMethod p) p.methods a m good.methods (method_there p.methods a m l e)).class

class_found : (found : Option ClassContent) (world : List ClassContent) (class : ℕ) → slice_get world class ≡ found
    → class < length world → (c : ClassContent) × (slice_get world class ≡ Some c)
class_found (Some c) world class e l = (c, e)
class_found None world class e l =
    let no : ⊥ = at world class l e in
    absurd no
  where
    at : (xs : List ClassContent) (i : ℕ) → i < length xs → slice_get xs i ≡ None → ⊥
    at [] i k f = omega (arith, k)
    at (x ∷ xs) zero k f = cc
    at (x ∷ xs) (suc i) k f = at xs i (omega (arith, k)) f

pub named : (p : Program) (a : ℕ) (m : Method) (name : MethodName) → a < length p.methods → m ≡ get_or p.methods a m
    → m.class < length p.world → ((c : ClassContent) → slice_get p.world m.class ≡ Some c → name.class ≡ c.name)
    → name.name ≡ m.name → name.desc ≡ m.desc → IsNameOf p a name
named p a m name l e k class n d =
    let found = class_found (slice_get p.world m.class) p.world m.class refl k in
    record {
      method = m;
      class = found.0;
      there = method_there p.methods a m l e;
      declares = found.1;
      class_is = class found.0 found.1;
      name_is = n;
      desc_is = d;
    }
