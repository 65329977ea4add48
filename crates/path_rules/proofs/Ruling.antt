-- The rules of all paths, path by path.
use Rattle.std.proofs.Common.{◌≡◌, inl, inr, ℕ, suc, ◌+◌, ◌-◌, ◌<◌, ◌≤◌, Bool, true, false, List, [], ◌∷◌, ◌++◌}
use Rattle.std.proofs.Common.{length, map, take, get_or, Option, Some, None, subst, ap, arith, refl, ◌∙◌, sym}
use Rattle.std.specs.Prelude.{nat_lt, slice_get, sum_by}
use Rattle.std.specs.List.{AllZip, AllByRecursion}
use Rattle.std.proofs.Math.Seq.{take-append_seam}
use Rattle.std.proofs.lemmas.Bool.{ltb-true, ltb-false}
use Rattle.std.proofs.lemmas.List.{length-append, length-map}
use Rattle.std.proofs.lemmas.List.Sums.{sum_by_push}
use Rattle.std.proofs.lemmas.List.Elements.{All-from_recursion, recursion_from_All}
use Rattle.std.proofs.lemmas.Option.{slice_get-map, same_Some}
use Rattle.jvm_values.proofs.Options.{some_is}
use Rattle.list_views.proofs.Orders.{one_more as one_on}
use Rattle.list_views.proofs.Zipped.{zip_more as zip_push}
use Rattle.list_views.proofs.Quantified.{all_at}
use Rattle.list_views.proofs.Items.{get_front, get_within, take_next}
use Rattle.list_views.proofs.Options.{map_some}
use Rattle.number_graphs.specs.Lists.{Fall}
use Rattle.descent.specs.declared.rules.PathRule.{PathRule}
use Rattle.descent.specs.Conditions.{IsRule, AreRules}
use Rattle.abs_cells.specs.Sound.{IsWellFormed}
use Rattle.term_graph.specs.declared.links.Link.{Link}
use Rattle.term_graph.specs.Graphs.{GraphNode}
use Rattle.path_rules.specs.Paths.{Path, AreAllPaths, HasTooManyPaths, end_of}
use Rattle.path_rules.specs.Stops.{AreSized}
use Rattle.path_rules.specs.Rules.{IsRuleOf, rule_over}
use Rattle.path_rules.specs.Answers.{AreRulesOf, HaveFewRows, HasRules, IsFirstTooLong}
use Rattle.path_rules.specs.Conditions.{IsReady, CutsRise, AreGood}
use Rattle.path_rules.specs.Successors.{inner_row}
use Rattle.path_rules.specs.inner.Ways.{AreWays, end_over, paths_by, counted, counted_on, picked, IsWayOf, ways_of, AreWaysOf}
use Rattle.path_rules.specs.inner.Ways.{paths_of}
use Rattle.path_rules.specs.declared.ways.Ways.{Ways}
use Rattle.path_rules.specs.inner.Building.{IsRuleAlong, HasRides, IsRuleFor, IsRuleOfNumber}
use Rattle.path_rules.specs.inner.Sizing.{sizes_of, sized_graph}
use Rattle.path_rules.proofs.Counted.{AreAlike, counted_many, counted_all, count_alike, added_up}
use Rattle.path_rules.proofs.Picking.{get_back, IsNear}
use Rattle.path_rules.proofs.Existing.{ways_are}
use Rattle.path_rules.proofs.Sized.{all_sizes}
use Rattle.path_rules.proofs.Whole.{path_from, all_paths, end_is}
use Rattle.path_rules.proofs.Riding.{has_rides}
use Rattle.path_rules.proofs.Fitting.{rule_fits}

-- ---- how many paths there are

paths_long : (ways : ℕ → List (List ℕ)) (cuts : List ℕ) → length (paths_by ways cuts) ≡ added_up (λ (cut : ℕ). length (ways cut)) cuts
paths_long ways [] = refl
paths_long ways (cut ∷ cuts) =
    length-append (map (path_from cut) (ways cut)) (paths_by ways cuts)
    ∙ (ap (λ (n : ℕ). n + length (paths_by ways cuts)) (length-map (ways cut) (path_from cut))
    ∙ ap (λ (n : ℕ). length (ways cut) + n) (paths_long ways cuts))

all_are : (graph : List GraphNode) (cuts : List ℕ) (ways : Ways) → AreWaysOf graph cuts ways
    → AreWays ways.lists ways.marks (ways_of ways.lists ways.marks ways.ranks)
all_are graph cuts ways are = ways_are ways.lists ways.marks ways.ranks are.fall

total_is : (graph : List GraphNode) (cuts : List ℕ) (ways : Ways) (count : ℕ) → AreWaysOf graph cuts ways
    → count ≡ counted_on (λ (cut : ℕ). get_or ways.counts cut 0) 0 cuts → count ≡ counted (length (paths_of ways cuts))
total_is graph cuts ways count are is =
    let w = ways_of ways.lists ways.marks ways.ranks in
    is
    ∙ (counted_all (λ (cut : ℕ). get_or ways.counts cut 0) (λ (cut : ℕ). length (w cut)) cuts
    (λ cut h. subst (λ (n : ℕ). AreAlike n (length (w cut))) (sym (are.counts_are w (all_are graph cuts ways are) cut))
    (count_alike (length (w cut))))
    ∙ ap counted (sym (paths_long w cuts)))

same_paths : (graph : List GraphNode) (cuts : List ℕ) (ways : Ways) → CutsRise 0 cuts → AreWaysOf graph cuts ways
    → AreAllPaths graph cuts (paths_of ways cuts)
same_paths graph cuts ways rise are =
    let w = ways_of ways.lists ways.marks ways.ranks in
    all_paths graph cuts ways.marks ways.ranks w are.marks_are rise
    (subst (λ (l : List (List ℕ)). Fall (map (inner_row ways.marks) l) ways.ranks) are.lists_are are.fall)
    (subst (λ (l : List (List ℕ)). AreWays l ways.marks w) are.lists_are (all_are graph cuts ways are))

-- few of them, or too many
pub all_counted : (graph : List GraphNode) (cuts : List ℕ) (ways : Ways) (count : ℕ) → AreWaysOf graph cuts ways
    → count ≡ counted_on (λ (cut : ℕ). get_or ways.counts cut 0) 0 cuts → count < 4097 → count ≡ length (paths_of ways cuts)
all_counted graph cuts ways count are is l = by (count_alike (length (paths_of ways cuts)))
  where
    whole : count ≡ counted (length (paths_of ways cuts))
    whole = total_is graph cuts ways count are is

    by : AreAlike (counted (length (paths_of ways cuts))) (length (paths_of ways cuts)) → count ≡ length (paths_of ways cuts)
    by (inl s) = whole ∙ s
    by (inr s) = let m = s.0 in absurd (omega (arith, m, whole, l))

pub too_many : (graph : List GraphNode) (cuts : List ℕ) (ways : Ways) (count : ℕ) → CutsRise 0 cuts → AreWaysOf graph cuts ways
    → count ≡ counted_on (λ (cut : ℕ). get_or ways.counts cut 0) 0 cuts → 4097 ≤ count → HasTooManyPaths graph cuts
too_many graph cuts ways count rise are is l =
    let all = same_paths graph cuts ways rise are in
    record { paths = paths_of ways cuts; each = all.each; rise = all.rise; many = by (count_alike (length (paths_of ways cuts))) }
  where
    whole : count ≡ counted (length (paths_of ways cuts))
    whole = total_is graph cuts ways count are is

    by : AreAlike (counted (length (paths_of ways cuts))) (length (paths_of ways cuts)) → 4096 < length (paths_of ways cuts)
    by (inl s) = omega (arith, s, whole, l)
    by (inr s) = let m = s.1 in omega (arith, m)

-- ---- the path of a number

pub record IsPicked (size : ℕ → ℕ) (ways : ℕ → List (List ℕ)) (place : ℕ) (cuts : List ℕ) (number : ℕ) (path : Path) : Type 0 where
  pub step : ℕ
  pub cut : ℕ
  pub left : ℕ
  pub way : List ℕ
  pub is : picked size place cuts number ≡ Some (place + step, cut, left)
  pub there : slice_get cuts step ≡ Some cut
  pub path_is : path_from cut way ≡ path
  pub more : slice_get (ways cut) left ≡ Some way
  pub few : left ≤ number

cut_picked : (size : ℕ → ℕ) (ways : ℕ → List (List ℕ)) (place : ℕ) (cuts : List ℕ) (number : ℕ) (path : Path)
    → ((cut : ℕ) → IsNear 4097 (size cut) (length (ways cut))) → number < 4097 → slice_get (paths_by ways cuts) number ≡ Some path
    → IsPicked size ways place cuts number path
cut_picked size ways place [] number path near l e = absurd (cc)
cut_picked size ways place (cut ∷ cuts) number path near l e = at
    (λ k. cut_picked size ways (suc place) cuts (number - size cut) path near (omega (arith, l)) k) (nat_lt number (size cut)) refl
  where
    here : List Path
    here = map (path_from cut) (ways cut)

    long : length here ≡ length (ways cut)
    long = length-map (ways cut) (path_from cut)

    within : IsNear 4097 (size cut) (length (ways cut)) → number < size cut → number < length here
    within (inl s) k = omega (arith, s, k, long)
    within (inr s) k = let m = s.1 in omega (arith, m, k, long)

    behind : IsNear 4097 (size cut) (length (ways cut)) → size cut ≤ number → number ≡ length here + (number - size cut)
    behind (inl s) k = omega (arith, s, k, long)
    behind (inr s) k = let m = s.0 in absurd (omega (arith, m, k, l))

    at : (slice_get (paths_by ways cuts) (number - size cut) ≡ Some path → IsPicked size ways (suc place) cuts (number - size cut)
        path) → (b : Bool) → nat_lt number (size cut) ≡ b → IsPicked size ways place (cut ∷ cuts) number path
    at later true k =
        let found = map_some (path_from cut) (slice_get (ways cut) number) path
        (sym (slice_get-map (path_from cut) (ways cut) number)
        ∙ (sym (get_front here (paths_by ways cuts) number (within (near cut) (ltb-true number (size cut) k))) ∙ e)) in
        record {
          step = 0;
          cut = cut;
          left = number;
          way = found.0;
          is = rw k (ap (λ (n : ℕ). Some (n, cut, number)) (omega arith));
          there = refl;
          path_is = found.1.1;
          more = found.1.0;
          few = omega arith;
        }
    at later false k =
        let more = later (sym
        (get_back here (paths_by ways cuts) number (number - size cut) (behind (near cut) (ltb-false number (size cut) k))) ∙ e) in
        let m = more.few in
        record {
          step = suc more.step;
          cut = more.cut;
          left = more.left;
          way = more.way;
          is = rw k
              (more.is ∙ ap (λ (n : ℕ). Some (n, more.cut, more.left)) (omega arith));
          there = more.there;
          path_is = more.path_is;
          more = more.more;
          few = omega (arith, m);
        }

near_cuts : (graph : List GraphNode) (cuts : List ℕ) (ways : Ways) → AreWaysOf graph cuts ways → (cut : ℕ)
    → IsNear 4097 (get_or ways.counts cut 0) (length (ways_of ways.lists ways.marks ways.ranks cut))
near_cuts graph cuts ways are cut = subst (λ (n : ℕ). IsNear 4097 n (length (w cut)))
    (sym (are.counts_are w (all_are graph cuts ways are) cut)) (by (count_alike (length (w cut))))
  where
    w : ℕ → List (List ℕ)
    w = ways_of ways.lists ways.marks ways.ranks

    by : AreAlike (counted (length (w cut))) (length (w cut)) → IsNear 4097 (counted (length (w cut))) (length (w cut))
    by (inl s) = inl s
    by (inr s) = let c = counted_many (length (w cut)) s.1 in let m = s.1 in inr (s.0, omega (arith, c, m))

pub picked_path : (graph : List GraphNode) (cuts : List ℕ) (ways : Ways) (number : ℕ) (path : Path) → AreWaysOf graph cuts ways
    → number < 4097 → slice_get (paths_of ways cuts) number ≡ Some path → IsPicked (λ (cut : ℕ). get_or ways.counts cut 0)
    (ways_of ways.lists ways.marks ways.ranks) 0 cuts number path
picked_path graph cuts ways number path are l e = cut_picked (λ (cut : ℕ). get_or ways.counts cut 0)
    (ways_of ways.lists ways.marks ways.ranks) 0 cuts number path (near_cuts graph cuts ways are) l e

-- the cut and the way that the code finds are those of the path
pub record IsFound (graph : List GraphNode) (cuts : List ℕ) (ways : Ways) (number cut left : ℕ) : Type 0 where
  pub step : ℕ
  pub there : slice_get cuts step ≡ Some cut
  pub few : left < 4097
  pub is : (path : Path) → slice_get (paths_of ways cuts) number ≡ Some path → (way : List ℕ)
      × ((path_from cut way ≡ path) × (slice_get (ways_of ways.lists ways.marks ways.ranks cut) left ≡ Some way))

pub path_found : (graph : List GraphNode) (cuts : List ℕ) (ways : Ways) (number place cut left : ℕ) → AreWaysOf graph cuts ways
    → number < 4097 → number < length (paths_of ways cuts)
    → Some (place, cut, left) ≡ picked (λ (cut : ℕ). get_or ways.counts cut 0) 0 cuts number → IsFound graph cuts ways number cut left
path_found graph cuts ways number place cut left are l within e =
    let path = get_within (paths_of ways cuts) number within in
    let p = picked_path graph cuts ways number path.0 are l path.1 in
    let same = same_Some (place, cut, left) (0 + p.step, p.cut, p.left) (e ∙ p.is) in
    let cut_is : p.cut ≡ cut = sym (ap (λ (t : ℕ × ℕ × ℕ). t.1) same) in
    let left_is : p.left ≡ left = sym (ap (λ (t : ℕ × ℕ × ℕ). t.2) same) in
    let few = p.few in
    record {
      step = p.step;
      there = p.there ∙ ap (λ (n : ℕ). Some n) cut_is;
      few = omega (arith, few, left_is, l);
      is = λ other k.
          let one : path.0 ≡ other = some_is (sym path.1 ∙ k) in (
            p.way,
            (
              ap (λ (n : ℕ). path_from n p.way) (sym cut_is)
                  ∙ (p.path_is ∙ one),
              subst (λ (n : ℕ). slice_get (ways_of ways.lists ways.marks ways.ranks n) left ≡ Some p.way)
                  cut_is (subst (λ (n : ℕ). slice_get (ways_of ways.lists ways.marks ways.ranks p.cut) n ≡ Some p.way) left_is p.more),
            ),
          );
    }

pub path_not_found : (graph : List GraphNode) (cuts : List ℕ) (ways : Ways) (number : ℕ) → AreWaysOf graph cuts ways → number < 4097
    → number < length (paths_of ways cuts) → None ≡ picked (λ (cut : ℕ). get_or ways.counts cut 0) 0 cuts number → ⊥
path_not_found graph cuts ways number are l within e =
    let path = get_within (paths_of ways cuts) number within in
    let p = picked_path graph cuts ways number path.0 are l path.1 in
    let bad = e ∙ p.is in
    cc

pub cut_there : (graph : List GraphNode) (links : List (List Link)) (cuts : List ℕ) (ways : Ways) (number cut left : ℕ)
    → IsReady graph links cuts → IsFound graph cuts ways number cut left → cut < length graph
cut_there graph links cuts ways number cut left ready found = all_at (λ (n : ℕ). n < length graph) cuts found.step cut
    ready.cut_nodes found.there

-- ---- the rule of a path

pub good : (graph : List GraphNode) (links : List (List Link)) (cuts : List ℕ) → IsReady graph links cuts → AreGood graph links
good graph links cuts ready = record { states = ready.states; nodes = ready.nodes }

-- the sized ids of all nodes
graph_sizes : (graph : List GraphNode) (links : List (List Link)) (cuts : List ℕ) → IsReady graph links cuts
    → AreSized (sized_graph graph links)
graph_sizes graph links cuts ready = all_sizes graph (recursion_from_All (λ (n : GraphNode). IsWellFormed n.state) graph ready.states)

way_end : (graph : List GraphNode) (cuts : List ℕ) (ways : Ways) (cut : ℕ) (places : List ℕ) (to : ℕ) → AreWaysOf graph cuts ways
    → end_over ways.lists ways.marks cut places ≡ Some to → end_of graph cuts cut places ≡ Some to
way_end graph cuts ways cut places to are e = sym (end_is graph cuts ways.marks are.marks_are places cut)
    ∙ subst (λ (l : List (List ℕ)). end_over l ways.marks cut places ≡ Some to) are.lists_are e

rule_by : (graph : List GraphNode) (links : List (List Link)) (cuts : List ℕ) (cut to : ℕ) (places : List ℕ)
    (has : HasRides (sized_graph graph links) cut places) (rule : Option PathRule) → IsReady graph links cuts
    → end_of graph cuts cut places ≡ Some to → IsRuleAlong (sized_graph graph links) cut to places rule
    → IsRuleFor (sized_graph graph links) cuts (path_from cut places) rule
rule_by graph links cuts cut to places has None ready ends along = (
  rule_over cut to has.start has.rides,
  (
    record { to = to; start = has.start; rides = has.rides; ends = ends; starts = has.starts; goes = has.goes; is = refl },
    along
        has.start has.rides has.starts has.goes,
  ),
)
rule_by graph links cuts cut to places has (Some r) ready ends along =
    let is = along has.start has.rides has.starts has.goes in
    let fits = rule_fits (sized_graph graph links) cuts cut to places has ready (graph_sizes graph links cuts ready) is.1.1.0 is.1.1.1 in (
      record { to = to; start = has.start; rides = has.rides; ends = ends; starts = has.starts; goes = has.goes; is = is.0 },
      (is.1.0, subst IsRule (sym is.0) fits),
    )

-- what the code builds along the way that it finds is the path's rule
pub rule_for : (graph : List GraphNode) (links : List (List Link)) (cuts : List ℕ) (ways : Ways) (number cut left : ℕ)
    (places : List ℕ) (to : ℕ) (rule : Option PathRule) → IsReady graph links cuts → AreWaysOf graph cuts ways
    → IsFound graph cuts ways number cut left → IsWayOf ways.lists ways.marks cut left places to
    → HasRides (sized_graph graph links) cut places → IsRuleAlong (sized_graph graph links) cut to places rule
    → IsRuleOfNumber (sized_graph graph links) cuts (paths_of ways cuts) number rule
rule_for graph links cuts ways number cut left places to rule ready are found way has along path e =
    let f = found.is path e in
    let w = way (ways_of ways.lists ways.marks ways.ranks) (all_are graph cuts ways are) f.0 f.1.1 in
    let same : path_from cut places ≡ path = ap (path_from cut) w.0 ∙ f.1.0 in
    subst (λ (p : Path). IsRuleFor (sized_graph graph links) cuts p rule) same
    (rule_by graph links cuts cut to places has rule ready (way_end graph cuts ways cut places to are w.1) along)

-- the way that the code finds has its states
pub way_rides : (graph : List GraphNode) (links : List (List Link)) (cuts : List ℕ) (ways : Ways) (number cut left : ℕ)
    (places : List ℕ) (to : ℕ) → IsReady graph links cuts → AreWaysOf graph cuts ways → number < length (paths_of ways cuts)
    → IsFound graph cuts ways number cut left → IsWayOf ways.lists ways.marks cut left places to
    → HasRides (sized_graph graph links) cut places
way_rides graph links cuts ways number cut left places to ready are within found way =
    let path = get_within (paths_of ways cuts) number within in
    let f = found.is path.0 path.1 in
    let w = way (ways_of ways.lists ways.marks ways.ranks) (all_are graph cuts ways are) f.0 f.1.1 in
    has_rides graph links cuts places cut to (good graph links cuts ready)
    (cut_there graph links cuts ways number cut left ready found) (way_end graph cuts ways cut places to are w.1)

-- ---- rules so far

pub record AreSoFar (graph : List GraphNode) (links : List (List Link)) (cuts : List ℕ) (paths : List Path) (rules : List PathRule)
    (number total : ℕ) : Type 0 where
  pub count : length rules ≡ number
  pub are : AllZip (IsRuleOf (sized_graph graph links) cuts) (take number paths) rules
  pub each : AllByRecursion (λ (rule : PathRule). length rule.rows ≤ 65536) rules
  pub fit : AllByRecursion IsRule rules
  pub total_is : sum_by (λ (rule : PathRule). length rule.rows) rules ≡ total
  pub few : total ≤ 16777216

pub none_so_far : (graph : List GraphNode) (links : List (List Link)) (cuts : List ℕ) (paths : List Path)
    → AreSoFar graph links cuts paths [] 0 0
none_so_far graph links cuts paths = record { count = refl; are = tt; each = tt; fit = tt; total_is = refl; few = omega arith }

rules_are : (graph : List GraphNode) (links : List (List Link)) (cuts : List ℕ) (paths : List Path) (rules : List PathRule)
    → IsReady graph links cuts → AllZip (IsRuleOf (sized_graph graph links) cuts) (take (length rules) paths) rules →
    AreRulesOf graph links cuts paths rules
rules_are graph links cuts paths rules ready are = record {
  sizes = map (λ (n : GraphNode). sizes_of n.state) graph;
  are_sizes = graph_sizes graph links cuts ready;
  are = are;
}

each_push : (rules : List PathRule) (rule : PathRule) → AllByRecursion (λ (r : PathRule). length r.rows ≤ 65536) rules
    → length rule.rows ≤ 65536 → AllByRecursion (λ (r : PathRule). length r.rows ≤ 65536) (rules ++ rule ∷ [])
each_push [] rule all l = (l, tt)
each_push (r ∷ rules) rule all l = (all.0, each_push rules rule all.1 l)

fit_push : (rules : List PathRule) (rule : PathRule) → AllByRecursion IsRule rules → IsRule rule
    → AllByRecursion IsRule (rules ++ rule ∷ [])
fit_push [] rule all l = (l, tt)
fit_push (r ∷ rules) rule all l = (all.0, fit_push rules rule all.1 l)

each_last : (rules : List PathRule) (rule : PathRule) → AllByRecursion (λ (r : PathRule). length r.rows ≤ 65536)
    (rules ++ rule ∷ []) → length rule.rows ≤ 65536
each_last [] rule all = all.0
each_last (r ∷ rules) rule all = each_last rules rule all.1

zip_more : (graph : List GraphNode) (links : List (List Link)) (cuts : List ℕ) (paths : List Path) (rules : List PathRule)
    (number total : ℕ) (path : Path) (rule : PathRule) → AreSoFar graph links cuts paths rules number total
    → slice_get paths number ≡ Some path → IsRuleOf (sized_graph graph links) cuts path rule
    → AllZip (IsRuleOf (sized_graph graph links) cuts) (take (suc number) paths) (rules ++ rule ∷ [])
zip_more graph links cuts paths rules number total path rule so e is = subst
    (λ (p : List Path). AllZip (IsRuleOf (sized_graph graph links) cuts) p (rules ++ rule ∷ []))
    (sym (take_next paths number path e)) (zip_push (IsRuleOf (sized_graph graph links) cuts) (take number paths) rules path rule
    so.are is)

pub one_more : (graph : List GraphNode) (links : List (List Link)) (cuts : List ℕ) (paths : List Path) (rules more : List PathRule)
    (number total : ℕ) (rule : PathRule) → AreSoFar graph links cuts paths rules number total → number < length paths
    → IsRuleOfNumber (sized_graph graph links) cuts paths number (Some rule) → more ≡ rules ++ rule ∷ []
    → total + length rule.rows ≤ 16777216 → AreSoFar graph links cuts paths more (number + 1) (total + length rule.rows)
one_more graph links cuts paths rules more number total rule so within is made l =
    let path = get_within paths number within in
    let r = is path.0 path.1 in
    let long = length-append rules (rule ∷ []) in
    let count = so.count in
    let sum = sum_by_push (λ (r : PathRule). length r.rows) rules rule in
    let whole = so.total_is in
    subst (λ (m : List PathRule). AreSoFar graph links cuts paths m (number + 1) (total + length rule.rows)) (sym made) (record {
      count = omega (arith, long, count);
      are = subst (λ (n : ℕ). AllZip (IsRuleOf (sized_graph graph links) cuts) (take n paths) (rules ++ rule ∷ [])) (one_on number)
          (zip_more graph links cuts paths rules number total path.0 rule so path.1 r.0);
      each = each_push rules rule so.each r.1.0;
      fit = fit_push rules rule so.fit r.1.1;
      total_is = omega (arith, sum, whole);
      few = l;
    })

few_rows : (rules : List PathRule) (total : ℕ) → AllByRecursion (λ (rule : PathRule). length rule.rows ≤ 65536) rules
    → sum_by (λ (rule : PathRule). length rule.rows) rules ≡ total → total ≤ 16777216 → HaveFewRows rules
few_rows rules total each is l = record {
  each = All-from_recursion (λ (rule : PathRule). length rule.rows ≤ 65536) rules each;
  all
      = omega (arith, is, l);
}

-- all of them
pub all_done : (graph : List GraphNode) (links : List (List Link)) (cuts : List ℕ) (ways : Ways) (rules : List PathRule)
    (number total : ℕ) → IsReady graph links cuts → AreWaysOf graph cuts ways → AreSoFar graph links cuts (paths_of ways cuts) rules
    number total → number ≡ length (paths_of ways cuts) → number ≤ 4096 → HasRules graph links cuts rules
all_done graph links cuts ways rules number total ready are so is l = record {
  paths = paths_of ways cuts;
  all = same_paths graph cuts ways ready.rise are;
  few = omega (arith, is, l);
  are = rules_are graph links cuts (paths_of ways cuts) rules ready
      (subst (λ (n : ℕ). AllZip (IsRuleOf (sized_graph graph links) cuts) (take n (paths_of ways cuts)) rules) (sym so.count) so.are);
  whole = so.count ∙ is;
  rows = few_rows rules total so.each so.total_is so.few;
}

-- they meet what a check of proofs asks of rules
pub all_fit : (graph : List GraphNode) (links : List (List Link)) (cuts : List ℕ) (paths : List Path) (rules : List PathRule)
    (number total : ℕ) → AreSoFar graph links cuts paths rules number total → AreRules rules
all_fit graph links cuts paths rules number total so = All-from_recursion IsRule rules so.fit

-- the first with which there are too many rows
first_long : (graph : List GraphNode) (links : List (List Link)) (cuts : List ℕ) (ways : Ways) (rules : List PathRule)
    (number total : ℕ) (path : Path) (rule : PathRule) → IsReady graph links cuts → AreWaysOf graph cuts ways
    → AreSoFar graph links cuts (paths_of ways cuts) rules number total → slice_get (paths_of ways cuts) number ≡ Some path
    → length (paths_of ways cuts) ≤ 4096 → IsRuleOf (sized_graph graph links) cuts path rule
    → (HaveFewRows (rules ++ rule ∷ []) → ⊥) → IsFirstTooLong graph links cuts number
first_long graph links cuts ways rules number total path rule ready are so e l is passed =
    let long = length-append rules (rule ∷ []) in
    let count = so.count in
    let size : length (rules ++ rule ∷ []) ≡ suc number = omega (arith, long, count) in
    record {
      paths = paths_of ways cuts;
      all = same_paths graph cuts ways ready.rise are;
      few = l;
      rules = rules ++ rule ∷ [];
      are = rules_are graph links cuts (paths_of ways cuts) (rules ++ rule ∷ []) ready
          (subst (λ (n : ℕ). AllZip (IsRuleOf (sized_graph graph links) cuts) (take n (paths_of ways cuts)) (rules ++ rule ∷ []))
          (sym size) (zip_more graph links cuts (paths_of ways cuts) rules number total path rule so e is));
      last = size;
      before = subst HaveFewRows
          (sym (ap (λ (n : ℕ). take n (rules ++ rule ∷ [])) (sym so.count) ∙ take-append_seam rules (rule ∷ [])))
          (few_rows rules total so.each so.total_is so.few);
      passed = passed;
    }

pub one_too_long : (graph : List GraphNode) (links : List (List Link)) (cuts : List ℕ) (ways : Ways) (rules : List PathRule)
    (number total : ℕ) → IsReady graph links cuts → AreWaysOf graph cuts ways → AreSoFar graph links cuts (paths_of ways cuts) rules
    number total → number < length (paths_of ways cuts) → length (paths_of ways cuts) ≤ 4096
    → IsRuleOfNumber (sized_graph graph links) cuts (paths_of ways cuts) number None → IsFirstTooLong graph links cuts number
one_too_long graph links cuts ways rules number total ready are so within l is =
    let path = get_within (paths_of ways cuts) number within in
    let r = is path.0 path.1 in
    first_long graph links cuts ways rules number total path.0 r.0 ready are so path.1 l r.1.0 (λ few.
    let k = each_last rules r.0 (recursion_from_All (λ (rule : PathRule). length rule.rows ≤ 65536) (rules ++ r.0 ∷ []) few.each) in
    let m = r.1.1 in
    omega (arith, k, m))

pub all_too_long : (graph : List GraphNode) (links : List (List Link)) (cuts : List ℕ) (ways : Ways) (rules : List PathRule)
    (number total : ℕ) (rule : PathRule) → IsReady graph links cuts → AreWaysOf graph cuts ways
    → AreSoFar graph links cuts (paths_of ways cuts) rules number total → number < length (paths_of ways cuts)
    → length (paths_of ways cuts) ≤ 4096 → IsRuleOfNumber (sized_graph graph links) cuts (paths_of ways cuts) number (Some rule)
    → 16777216 < total + length rule.rows → IsFirstTooLong graph links cuts number
all_too_long graph links cuts ways rules number total rule ready are so within l is many =
    let path = get_within (paths_of ways cuts) number within in
    let r = is path.0 path.1 in
    first_long graph links cuts ways rules number total path.0 rule ready are so path.1 l r.0 (λ few.
    let sum = sum_by_push (λ (r : PathRule). length r.rows) rules rule in
    let whole = so.total_is in
    let k = few.all in
    omega (arith, sum, whole, k, many))
