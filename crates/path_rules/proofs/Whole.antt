-- The ways from all cuts are all paths of the graph, in their order.
use Rattle.std.proofs.Common.{◌≡◌, ℕ, suc, ◌<◌, ◌≤◌, Bool, true, false, cond, eqb, List, [], ◌∷◌, ◌++◌}
use Rattle.std.proofs.Common.{map, Option, Some, None, subst, ap, arith, refl, ◌∙◌, sym}
use Rattle.std.specs.Prelude.{nat_lt, slice_get, ◌||◌}
use Rattle.std.specs.Option.{option_map, option_and_then, option_map_or}
use Rattle.std.specs.List.{AllByRecursion}
use Rattle.std.proofs.lemmas.Bool.{eq-eqb, eqb-true, lt-ltb}
use Rattle.std.proofs.lemmas.Option.{slice_get-map}
use Rattle.std.proofs.lemmas.List.Elements.{All-from_recursion}
use Rattle.list_views.proofs.Quantified.{all_joined, all_places}
use Rattle.number_graphs.specs.Lists.{row_at, Fall}
use Rattle.term_graph.specs.Graphs.{GraphNode, successors}
use Rattle.path_rules.specs.Paths.{Path, IsPath, AreAllPaths, Rise, is_before, is_earlier, is_cut, end_of, edges, only_last}
use Rattle.path_rules.specs.Conditions.{CutsRise}
use Rattle.path_rules.specs.Successors.{has_mark, AreMarks, inner_row, lists_of}
use Rattle.path_rules.specs.inner.Ways.{AreWays, end_over, paths_by}
use Rattle.path_rules.proofs.Listed.{IsIn, in_front, in_back, in_map, ends_over, over_ends, WaysRise, ways_rise}

-- ---- a graph and its lists

pub row_is : (graph : List GraphNode) (node : ℕ) (place : ℕ) → slice_get (row_at (lists_of graph) node) place ≡ edges graph node place
row_is graph node place =
    ap (λ (o : Option (List ℕ)). slice_get (option_map_or (λ (row : List ℕ). row) o []) place)
    (slice_get-map (λ (n : GraphNode). successors n.by) graph node)
    ∙ at (slice_get graph node)
  where
    at : (o : Option GraphNode)
        → slice_get (option_map_or (λ (row : List ℕ). row) (option_map (λ (n : GraphNode). successors n.by) o) []) place
        ≡ option_and_then (λ (from : GraphNode). slice_get (successors from.by) place) o
    at None = refl
    at (Some n) = refl

pub end_is : (graph : List GraphNode) (cuts : List ℕ) (marks : List Bool) → AreMarks cuts marks → (places : List ℕ) (node : ℕ)
    → end_over (lists_of graph) marks node places ≡ end_of graph cuts node places
end_is graph cuts marks are [] node = refl
end_is graph cuts marks are (place ∷ places) node =
    ap (option_and_then (λ (t : ℕ). cond (has_mark marks t) (only_last places t) (end_over (lists_of graph) marks t places)))
    (row_is graph node place)
    ∙ at (λ t. end_is graph cuts marks are places t) (edges graph node place)
  where
    at : ((t : ℕ) → end_over (lists_of graph) marks t places ≡ end_of graph cuts t places) → (o : Option ℕ)
        → option_and_then (λ (t : ℕ). cond (has_mark marks t) (only_last places t) (end_over (lists_of graph) marks t places)) o
        ≡ option_and_then (λ (t : ℕ). cond (is_cut cuts t) (only_last places t) (end_of graph cuts t places)) o
    at later None = refl
    at later (Some t) = ap (λ (b : Bool). cond b (only_last places t) (end_over (lists_of graph) marks t places)) (are t)
        ∙ ap (λ (e : Option ℕ). cond (is_cut cuts t) (only_last places t) e) (later t)

-- ---- each is a path

abbrev pub path_from : ℕ → List ℕ → Path
path_from cut way = record { from = cut; places = way }

all_map : {A B : Type 0} (P : B → Type 0) (f : A → B) (xs : List A) → AllByRecursion (λ (x : A). P (f x)) xs → AllByRecursion P (map f xs)
all_map P f [] a = tt
all_map P f (x ∷ xs) a = (a.0, all_map P f xs a.1)

one_has : (cut : ℕ) (cuts : List ℕ) → is_cut (cut ∷ cuts) cut ≡ true
one_has cut cuts = rw (eq-eqb cut cut refl) refl

more_has : (cut other : ℕ) (cuts : List ℕ) → is_cut cuts other ≡ true → is_cut (cut ∷ cuts) other ≡ true
more_has cut other cuts e = at (eqb cut other)
  where
    at : (b : Bool) → (b || is_cut cuts other) ≡ true
    at true = refl
    at false = e

each_path : (graph : List GraphNode) (all cuts : List ℕ) (marks : List Bool) (ways : ℕ → List (List ℕ)) → AreMarks all marks
    → AreWays (lists_of graph) marks ways → ((cut : ℕ) → is_cut cuts cut ≡ true → is_cut all cut ≡ true)
    → AllByRecursion (IsPath graph all) (paths_by ways cuts)
each_path graph all [] marks ways are waysare sub = tt
each_path graph all (cut ∷ cuts) marks ways are waysare sub =
    all_joined (IsPath graph all) (map (path_from cut) (ways cut)) (paths_by ways cuts)
    (all_map (IsPath graph all) (path_from cut) (ways cut)
    (all_places (λ (way : List ℕ). IsPath graph all (path_from cut way)) (ways cut) (λ n way e.
    let end = ends_over (lists_of graph) marks ways waysare way cut n e in
    record { starts = sub cut (one_has cut cuts); to = end.0; ends = sym (end_is graph all marks are way cut) ∙ end.1 })))
    (each_path graph all cuts marks ways are waysare (λ c e. sub c (more_has cut c cuts e)))

-- ---- each path is there

has_path : (cuts : List ℕ) (ways : ℕ → List (List ℕ)) (cut : ℕ) (way : List ℕ) → is_cut cuts cut ≡ true → IsIn (ways cut) way
    → IsIn (paths_by ways cuts) (path_from cut way)
has_path [] ways cut way e i = absurd (cc)
has_path (c ∷ cuts) ways cut way e i = at (λ k. has_path cuts ways cut way k i) (eqb c cut) refl e
  where
    at : (is_cut cuts cut ≡ true → IsIn (paths_by ways cuts) (path_from cut way)) → (b : Bool) → eqb c cut ≡ b
        → (b || is_cut cuts cut) ≡ true → IsIn (paths_by ways (c ∷ cuts)) (path_from cut way)
    at later true k g =
        let same = eqb-true c cut k in
        in_front (map (path_from c) (ways c)) (paths_by ways cuts) (path_from cut way)
        (subst (λ (x : ℕ). IsIn (map (path_from x) (ways x)) (path_from cut way)) (sym same) (in_map (path_from cut) (ways cut) way i))
    at later false k g = in_back (map (path_from c) (ways c)) (paths_by ways cuts) (path_from cut way) (later g)

-- ---- their order

abbrev StartsFrom : ℕ → List Path → Type 0
StartsFrom low [] = Unit {0}
StartsFrom low (path ∷ paths) = low ≤ path.from

lower_cut : (path other : Path) → path.from < other.from → is_before path other ≡ true
lower_cut path other l = at (eqb path.from other.from) refl
  where
    at : (x : Bool) → eqb path.from other.from ≡ x → cond x (is_earlier path.places other.places) (nat_lt path.from other.from) ≡ true
    at true e = let s = eqb-true path.from other.from e in absurd (omega (arith, s, l))
    at false e = lt-ltb path.from other.from l

same_cut : (cut : ℕ) (a b : List ℕ) → is_earlier a b ≡ true → is_before (path_from cut a) (path_from cut b) ≡ true
same_cut cut a b e = rw (eq-eqb cut cut refl) e

joined : (cut : ℕ) (xs : List (List ℕ)) (ys : List Path) → WaysRise xs → Rise ys → StartsFrom (suc cut) ys
    → Rise (map (path_from cut) xs ++ ys)
joined cut [] ys rise more starts = more
joined cut (x ∷ []) [] rise more starts = (tt, tt)
joined cut (x ∷ []) (y ∷ ys) rise more starts = (lower_cut (path_from cut x) y (omega (arith, starts)), more)
joined cut (x ∷ (next ∷ xs)) ys rise more starts = (same_cut cut x next rise.0, joined cut (next ∷ xs) ys rise.1 more starts)

starts_by : (ways : ℕ → List (List ℕ)) (low from : ℕ) (cuts : List ℕ) → low ≤ from → CutsRise from cuts
    → StartsFrom low (paths_by ways cuts)
starts_by ways low from [] l rise = tt
starts_by ways low from (cut ∷ cuts) l rise = at (λ k. starts_by ways low (suc cut) cuts k rise.1) (ways cut)
  where
    up : low ≤ cut
    up = let a = rise.0 in omega (arith, a, l)

    at : (low ≤ suc cut → StartsFrom low (paths_by ways cuts)) → (xs : List (List ℕ))
        → StartsFrom low (map (path_from cut) xs ++ paths_by ways cuts)
    at later [] = later (omega (arith, up))
    at later (x ∷ xs) = up

paths_rise : (ways : ℕ → List (List ℕ)) (from : ℕ) (cuts : List ℕ) → ((node : ℕ) → WaysRise (ways node)) → CutsRise from cuts
    → Rise (paths_by ways cuts)
paths_rise ways from [] each rise = tt
paths_rise ways from (cut ∷ cuts) each rise = joined cut (ways cut) (paths_by ways cuts) (each cut)
    (paths_rise ways (suc cut) cuts each rise.1) (starts_by ways (suc cut) (suc cut) cuts (omega arith) rise.1)

-- ---- all of it

pub all_paths : (graph : List GraphNode) (cuts : List ℕ) (marks : List Bool) (ranks : List ℕ) (ways : ℕ → List (List ℕ))
    → AreMarks cuts marks → CutsRise 0 cuts → Fall (map (inner_row marks) (lists_of graph)) ranks
    → AreWays (lists_of graph) marks ways → AreAllPaths graph cuts (paths_by ways cuts)
all_paths graph cuts marks ranks ways are rise fall waysare = record {
  each = All-from_recursion (IsPath graph cuts) (paths_by ways cuts) (each_path graph cuts cuts marks ways are waysare (λ c e. e));
  all = λ path is. has_path cuts ways path.from path.places is.starts
      (over_ends (lists_of graph) marks ways waysare path.places path.from is.to (end_is graph cuts marks are path.places path.from
      ∙ is.ends));
  rise = paths_rise ways 0 cuts (ways_rise (lists_of graph) marks ranks ways fall waysare) rise;
}
