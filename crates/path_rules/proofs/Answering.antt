-- What the calls for a graph's ways and for the rules of its paths give is what is to be answered.
use Rattle.std.proofs.Common.{◌≡◌, ℕ, ◌+◌, ◌-◌, ◌<◌, ◌≤◌, ◌^◌, Bool, List, length, map, get_or, subst}
use Rattle.std.proofs.Common.{ap, arith, ◌∙◌, sym}
use Rattle.std.specs.Prelude.{All, Result, Ok, Err}
use Rattle.std.proofs.lemmas.List.{length-map}
use Rattle.number_graphs.specs.Graphs.{IsLeastOnCycle}
use Rattle.number_graphs.specs.Lists.{Edge, Fall}
use Rattle.descent.specs.declared.rules.PathRule.{PathRule}
use Rattle.term_graph.specs.declared.links.Link.{Link}
use Rattle.term_graph.specs.Graphs.{GraphNode, successors}
use Rattle.path_rules.specs.declared.fault.PathFault.{PathFault}
use Rattle.path_rules.specs.declared.fault.PathFault.TheVariants.{Uncut, TooManyPaths, TooManyRows, Memory}
use Rattle.path_rules.specs.declared.ways.Ways.{Ways}
use Rattle.path_rules.specs.Paths.{IsLeastUncut, IsCut}
use Rattle.path_rules.specs.Answers.{Answers}
use Rattle.path_rules.specs.inner.Building.{AreRulesOr}
use Rattle.path_rules.specs.Conditions.{IsReady}
use Rattle.path_rules.specs.Successors.{AreMarks, inner_row, lists_of}
use Rattle.path_rules.specs.inner.Ways.{AreCounts, counted_on, AreWaysOf, IsMapped, IsRanked}
use Rattle.path_rules.proofs.Cycles.{least_uncut, is_all_cut}
use Rattle.path_rules.proofs.Ruling.{too_many}

-- ---- lists

pub lists_long : (graph : List GraphNode) (lists : List (List ℕ)) → lists ≡ lists_of graph → length lists ≡ length graph
lists_long graph lists is = ap (λ (l : List (List ℕ)). length l) is ∙ length-map graph (λ (n : GraphNode). successors n.by)

pub inner_short : (graph : List GraphNode) (lists inner : List (List ℕ)) (marks : List Bool) → lists ≡ lists_of graph
    → inner ≡ map (inner_row marks) lists → length graph ≤ 2 ^ 32 - 16 → length inner + 1 < 2 ^ 32
inner_short graph lists inner marks is made l =
    let long = lists_long graph lists is in
    let same = ap (λ (x : List (List ℕ)). length x) made ∙ length-map lists (inner_row marks) in
    omega (arith, long, same, l)

pub cuts_there : (graph : List GraphNode) (lists : List (List ℕ)) (cuts : List ℕ) (count : ℕ) → lists ≡ lists_of graph
    → count ≡ length lists → All (λ (cut : ℕ). cut < length graph) cuts → All (λ (cut : ℕ). cut < count) cuts
cuts_there graph lists cuts count is long all = subst (λ (n : ℕ). All (λ (cut : ℕ). cut < n) cuts)
    (sym (long ∙ lists_long graph lists is)) all

pub inner_falls : (lists inner : List (List ℕ)) (marks : List Bool) (ranks : List ℕ) → inner ≡ map (inner_row marks) lists
    → Fall inner ranks → Fall (map (inner_row marks) lists) ranks
inner_falls lists inner marks ranks made fall = subst (λ (l : List (List ℕ)). Fall l ranks) made fall

-- ---- the ways of a graph

pub no_ways : (graph : List GraphNode) (cuts : List ℕ) (lists inner : List (List ℕ)) (marks : List Bool) (a : ℕ)
    → lists ≡ lists_of graph → AreMarks cuts marks → inner ≡ map (inner_row marks) lists → IsLeastOnCycle (Edge inner) a
    → IsLeastUncut graph cuts a
no_ways graph cuts lists inner marks a is are made least = least_uncut graph cuts marks a are
    (subst (λ (l : List (List ℕ)). IsLeastOnCycle (Edge l) a) (made ∙ ap (map (inner_row marks)) is) least)

pub fault_mapped : (graph : List GraphNode) (cuts : List ℕ) (lists inner : List (List ℕ)) (marks : List Bool) (fault : PathFault)
    → lists ≡ lists_of graph → AreMarks cuts marks → inner ≡ map (inner_row marks) lists → IsRanked inner (Err fault)
    → IsMapped graph cuts (Err fault)
fault_mapped graph cuts lists inner marks (Uncut a) is are made ranked = no_ways graph cuts lists inner marks a is are made ranked
fault_mapped graph cuts lists inner marks TooManyPaths is are made ranked = absurd ranked
fault_mapped graph cuts lists inner marks (TooManyRows path) is are made ranked = absurd ranked
fault_mapped graph cuts lists inner marks Memory is are made ranked = tt

pub ways_made : (graph : List GraphNode) (cuts : List ℕ) (lists inner : List (List ℕ)) (marks : List Bool) (ranks counts : List ℕ)
    → lists ≡ lists_of graph → AreMarks cuts marks → inner ≡ map (inner_row marks) lists → Fall inner ranks
    → AreCounts lists marks counts → AreWaysOf graph cuts (record { lists = lists; marks = marks; ranks = ranks; counts = counts })
ways_made graph cuts lists inner marks ranks counts is are made fall right = record
    { lists_are = is; marks_are = are; fall = inner_falls lists inner marks ranks made fall; counts_are = right }

pub ways_cut : (graph : List GraphNode) (cuts : List ℕ) (ways : Ways) → AreWaysOf graph cuts ways → IsCut graph cuts
ways_cut graph cuts ways are = is_all_cut graph cuts ways.marks ways.ranks are.marks_are
    (subst (λ (l : List (List ℕ)). Fall (map (inner_row ways.marks) l) ways.ranks) are.lists_are are.fall)

-- ---- answers

pub fault_answers : (graph : List GraphNode) (links : List (List Link)) (cuts : List ℕ) (fault : PathFault)
    → IsMapped graph cuts (Err fault) → Answers graph links cuts (Err fault)
fault_answers graph links cuts (Uncut node) is = is
fault_answers graph links cuts TooManyPaths is = absurd is
fault_answers graph links cuts (TooManyRows path) is = absurd is
fault_answers graph links cuts Memory is = tt

pub rules_answer : (graph : List GraphNode) (links : List (List Link)) (cuts : List ℕ) (ways : Ways)
    (answer : Result (List PathRule) PathFault) → AreWaysOf graph cuts ways → AreRulesOr graph links cuts answer
    → Answers graph links cuts answer
rules_answer graph links cuts ways (Ok rules) are is = (ways_cut graph cuts ways are, is)
rules_answer graph links cuts ways (Err (Uncut node)) are is = absurd is
rules_answer graph links cuts ways (Err TooManyPaths) are is = absurd is
rules_answer graph links cuts ways (Err (TooManyRows path)) are is = (ways_cut graph cuts ways are, is)
rules_answer graph links cuts ways (Err Memory) are is = tt

pub too_many_answer : (graph : List GraphNode) (links : List (List Link)) (cuts : List ℕ) (ways : Ways) (count : ℕ)
    → IsReady graph links cuts → AreWaysOf graph cuts ways → count ≡ counted_on (λ (cut : ℕ). get_or ways.counts cut 0) 0 cuts
    → 4097 ≤ count → Answers graph links cuts (Err TooManyPaths)
too_many_answer graph links cuts ways count ready are is l =
    (ways_cut graph cuts ways are, too_many graph cuts ways count ready.rise are is l)
