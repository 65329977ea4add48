-- The rules of a graph's paths are within the limits of the text of proofs.
use Rattle.std.proofs.Common.{◌≡◌, ◌<◌, ◌≤◌, ℕ, suc, Bool, true, false, cond, List, [], ◌∷◌, length, map, take, Some, Ok, sym, subst}
use Rattle.std.proofs.Common.{arith}
use Rattle.std.specs.Prelude.{All, filter}
use Rattle.std.specs.List.{AllByRecursion}
use Rattle.std.proofs.lemmas.List.Elements.{All-from_recursion, recursion_from_All}
use Rattle.std.proofs.lemmas.Option.{slice_get_within}
use Rattle.list_views.proofs.Quantified.{all_joined}
use Rattle.abs_cells.specs.declared.cells.Cell.{Cell}
use Rattle.abs_cells.specs.Cells.{is_int}
use Rattle.abs_cells.specs.Patterns.{Pattern}
use Rattle.abs_cells.specs.Sound.{AreIdsRising}
use Rattle.abs_reach.specs.Keys.{AreKeysRising}
use Rattle.descent.specs.declared.rules.PathRule.{PathRule}
use Rattle.descent.specs.declared.rules.SlotForm.{SlotForm}
use Rattle.term_graph.specs.declared.links.Link.{Link}
use Rattle.term_graph.specs.Graphs.{GraphNode}
use Rattle.path_rules.specs.Answers.{Answers as PathAnswers}
use Rattle.path_rules.specs.Conditions.{IsReady}
use Rattle.path_rules.specs.Paths.{Path}
use Rattle.path_rules.specs.Rules.{last_along, int_slot, size_slot, slots_of, ids_with, IsRuleOf}
use Rattle.path_rules.specs.Stops.{Stop, LinkedGraph, AreSized, pattern_in, stop_at}
use Rattle.path_rules.proofs.Finding.{ids_in_cells}
use Rattle.path_rules.proofs.PatternLists.{pattern_first, pattern_later}
use Rattle.path_rules.proofs.Ready.{stop_is, good_along}
use Rattle.path_rules.proofs.Walking.{IsGoodStop, good_first, last_good}
use Rattle.prove_core.specs.ReadableRules.{IsReadableRule, AreReadableRules}
use Rattle.prove_core.proofs.Ends.{high_id, end_stop}
use Rattle.prove_core.proofs.Plain.{zip_all}

abbrev IsLow : SlotForm → Type 0
IsLow slot = slot.id < 2048

ints_low : (first : ℕ) (stop : Stop) (low : ℕ) (cells : List (ℕ × Cell)) → AreIdsRising low cells
    → AllByRecursion IsLow (map (int_slot first stop) (ids_in_cells is_int cells))
ints_low first stop low [] rising = tt
ints_low first stop low (c ∷ cells) rising = at (is_int c.1) (ints_low first stop (suc c.0) cells rising.1.1)
  where
    at : (b : Bool) → AllByRecursion IsLow (map (int_slot first stop) (ids_in_cells is_int cells))
        → AllByRecursion IsLow
        (map (int_slot first stop)
        (map (λ (x : ℕ × Cell). x.0)
        (cond b (c ∷ filter (λ (x : ℕ × Cell). is_int x.1) cells) (filter (λ (x : ℕ × Cell). is_int x.1) cells))))
    at true rest = (rising.1.0, rest)
    at false rest = rest

sizes_low : (first : ℕ) (stop : Stop) (low : ℕ) (sizes : List (ℕ × Pattern)) → AreKeysRising low sizes
    → ((id : ℕ) (pattern : Pattern) → pattern_in sizes id ≡ Some pattern → id < 2048)
    → AllByRecursion IsLow (map (size_slot first stop) sizes)
sizes_low first stop low [] rise each = tt
sizes_low first stop low (entry ∷ sizes) rise each = (
  each entry.0 entry.1 (pattern_first entry sizes),
  sizes_low first stop (suc entry.0) sizes rise.1 (λ id pattern e. each id pattern (pattern_later entry sizes id pattern rise.1 e)),
)

slots_low : (first : ℕ) (stop : Stop) → IsGoodStop stop → All IsLow (slots_of first stop)
slots_low first stop good =
    let rising = good.good.rising in
    All-from_recursion IsLow (slots_of first stop)
    (all_joined IsLow (map (int_slot first stop) (ids_with is_int stop.state)) (map (size_slot first stop) stop.sizes)
    (ints_low first stop 0 stop.state.cells rising)
    (sizes_low first stop 0 stop.sizes good.sizes.rise (λ id pattern e.
    let has = (good.sizes.each id pattern e).0 in
    high_id 0 stop.state.cells id has.cell rising has.is)))

module _ (linked : LinkedGraph) (cuts : List ℕ) (ready : IsReady linked.graph linked.links cuts) (sized : AreSized linked)
    (few : length linked.graph ≤ 20000) where
  cut_low : (cut : ℕ) (stop : Stop) → stop_at linked cut ≡ Some stop → cut ≤ 4294967295
  cut_low cut stop e =
      let is = stop_is linked cut stop e in
      let within = slice_get_within linked.graph cut is.there is.is in
      omega (arith, within, few)

  one_rule : (path : Path) (rule : PathRule) → IsRuleOf linked cuts path rule → length rule.rows ≤ 65536 → IsReadableRule rule
  one_rule path rule is rows =
      let good = good_along linked cuts path.from path.places is.start is.rides ready sized is.starts is.goes in
      let last = last_along 0 is.start is.rides in
      let ends = end_stop linked cuts 0 path.from path.places is.start is.rides is.to is.ends is.goes in
      let short = subst (λ (r : PathRule). length r.rows ≤ 65536) is.is rows in
      subst IsReadableRule (sym is.is) (record {
        from = cut_low path.from is.start is.starts;
        to = cut_low is.to last.1 ends;
        first = slots_low 0 is.start (good_first is.start is.rides good);
        last = slots_low last.0 last.1 (last_good 0 is.start is.rides good);
        rows = short;
      })

pub rules_are_readable : (nodes : List GraphNode) (links : List (List Link)) (cuts : List ℕ) (rules : List PathRule)
    → length nodes ≤ 20000 → IsReady nodes links cuts → PathAnswers nodes links cuts (Ok rules) → AreReadableRules rules
rules_are_readable nodes links cuts rules few ready answer =
    let has = answer.1 in
    let linked : LinkedGraph = record { graph = nodes; links = links; sizes = has.are.sizes } in
    let rows = recursion_from_All (λ (rule : PathRule). length rule.rows ≤ 65536) rules has.rows.each in
    let whole = has.whole in
    let most = has.few in
    record {
      few = omega (arith, whole, most);
      each = All-from_recursion IsReadableRule rules
          (zip_all (IsRuleOf linked cuts) (λ (rule : PathRule). length rule.rows ≤ 65536) IsReadableRule (take (length rules) has.paths)
          rules has.are.are rows (λ path rule is l. one_rule linked cuts ready has.are.are_sizes few path rule is l));
    }
