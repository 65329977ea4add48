-- Good graphs are such as rules take.
use Rattle.std.proofs.Common.{◌<◌, ℕ, suc, List, [], ◌∷◌, length}
use Rattle.std.specs.List.{AllByRecursion}
use Rattle.std.proofs.lemmas.List.Elements.{All-from_recursion, recursion_from_All}
use Rattle.abs_cells.specs.AbstractStates.{AbstractState}
use Rattle.class_program.specs.Programs.{Program}
use Rattle.class_program.specs.Widths.{HasWidths}
use Rattle.frame_types.specs.Tables.{CodeTypes}
use Rattle.code_verify.specs.Typings.{IsTypingOf}
use Rattle.term_graph.specs.declared.links.Link.{Link}
use Rattle.term_graph.specs.Graphs.{GraphNode}
use Rattle.path_rules.specs.Conditions.{AreGood, CutsRise, IsReady}
use Rattle.graph_check.specs.Good.{GraphOk}
use Rattle.plan_links.specs.Laws.{LinksFit}
use Rattle.cert_check.proofs.Linking.{all_linked}
use Rattle.cert_check.specs.Valid.{Case, AreCuts}
use Rattle.cert_check.proofs.Showing.{well_formed, all_good}
use Rattle.cert_check.specs.inner.PartChecks.{AreCutsFrom, AreCutsOf}

-- ---- nodes

module _ (fit : LinksFit) (p : Program) (typing : ℕ → CodeTypes) (widths : HasWidths p) (nodes : List GraphNode) where
  pub prepared : (root : AbstractState) (links : List (List Link)) → IsTypingOf p typing → GraphOk p typing nodes root links
      → AreGood nodes links
  prepared root links typing_is graph = record {
    states = well_formed p typing nodes links graph.each;
    nodes = all_good p typing nodes links graph.each (all_linked fit p typing widths typing_is nodes nodes links graph.each);
  }

-- ---- cuts

cuts_rise : (nodes low : ℕ) (cuts : List ℕ) → AreCutsFrom nodes low cuts → CutsRise low cuts
cuts_rise nodes low [] h = tt
cuts_rise nodes low (cut ∷ cuts) h = (h.0, cuts_rise nodes (suc cut) cuts h.1.1)

cuts_below : (nodes low : ℕ) (cuts : List ℕ) → AreCutsFrom nodes low cuts → AllByRecursion (λ (cut : ℕ). cut < nodes) cuts
cuts_below nodes low [] h = tt
cuts_below nodes low (cut ∷ cuts) h = (h.1.0, cuts_below nodes (suc cut) cuts h.1.1)

rise_and_below : (nodes low : ℕ) (cuts : List ℕ) → CutsRise low cuts → AllByRecursion (λ (cut : ℕ). cut < nodes) cuts
    → AreCutsFrom nodes low cuts
rise_and_below nodes low [] r b = tt
rise_and_below nodes low (cut ∷ cuts) r b = (r.0, (b.0, rise_and_below nodes (suc cut) cuts r.1 b.1))

pub cuts_are : (case : Case) → AreCutsOf (length case.nodes) case.cuts → AreCuts case
cuts_are case h = record {
  first = h.0;
  rise = cuts_rise (length case.nodes) 0 case.cuts h.1;
  nodes = All-from_recursion (λ (cut : ℕ). cut < length case.nodes) case.cuts (cuts_below (length case.nodes) 0 case.cuts h.1);
}

pub cuts_of : (case : Case) → AreCuts case → AreCutsOf (length case.nodes) case.cuts
cuts_of case h = (
  h.first,
  rise_and_below (length case.nodes) 0 case.cuts h.rise
      (recursion_from_All (λ (cut : ℕ). cut < length case.nodes) case.cuts h.nodes),
)

pub ready : (nodes : List GraphNode) (links : List (List Link)) (cuts : List ℕ) → AreGood nodes links
    → AreCutsOf (length nodes) cuts → IsReady nodes links cuts
ready nodes links cuts is h = record {
  states = is.states;
  nodes = is.nodes;
  first = h.0;
  rise = cuts_rise (length nodes) 0 cuts h.1;
  cut_nodes = All-from_recursion (λ (cut : ℕ). cut < length nodes) cuts (cuts_below (length nodes) 0 cuts h.1);
}
