-- The rules of a good graph's paths are plain.
use Rattle.std.proofs.Common.{ℕ, List, [], ◌∷◌, map, sym, subst}
use Rattle.std.specs.Prelude.{All}
use Rattle.std.specs.List.{AllByRecursion, AllZip}
use Rattle.std.proofs.lemmas.List.Elements.{All-from_recursion}
use Rattle.abs_cells.specs.AbstractStates.{AbstractState}
use Rattle.class_program.specs.Programs.{Program}
use Rattle.frame_types.specs.Tables.{CodeTypes}
use Rattle.term_graph.specs.declared.links.Link.{Link}
use Rattle.term_graph.specs.declared.nodes.By.{By}
use Rattle.term_graph.specs.declared.nodes.By.TheVariants.{Expand, Instance, End, Todo}
use Rattle.term_graph.specs.Graphs.{GraphNode, GraphChild}
use Rattle.graph_check.specs.Good.{IsLeftBy, IsGoodNode}
use Rattle.cert_verdict.proofs.CertCheckBounded.{all_bounded}
use Rattle.path_rules.specs.Conditions.{AreBounded}
use Rattle.prove_core.specs.ShortLinks.{IsShortLink}
use Rattle.prove_core.specs.PlainRules.{GoodGraphRulesArePlain}
use Rattle.prove_core.proofs.Plain.{path_rules_are_plain}
use Rattle.prove_core.proofs.ShortLinks.{links_are_short}

-- ---- nodes

module _ (p : Program) (typing : ℕ → CodeTypes) (nodes : List GraphNode) where
  child_links : (children : List GraphChild) → AllByRecursion (λ (child : GraphChild). IsShortLink child.link) children
      → AllByRecursion IsShortLink (map (λ (child : GraphChild). child.link) children)
  child_links [] short = tt
  child_links (child ∷ children) short = (short.0, child_links children short.1)

  left_short : (state : AbstractState) (by : By) (links : List Link) → IsLeftBy p typing nodes state by links
      → AllByRecursion IsShortLink links
  left_short state (Expand named) links left = subst (AllByRecursion IsShortLink) (sym left.links_are)
      (child_links left.children (links_are_short p typing state left.children left.are.1))
  left_short state (Instance target entries) links left = subst (AllByRecursion IsShortLink) (sym left.1) tt
  left_short state End links left = subst (AllByRecursion IsShortLink) (sym left.1) tt
  left_short state Todo links left = absurd left

  all_short : (list : List GraphNode) (links : List (List Link)) → AllZip (IsGoodNode p typing nodes) list links
      → AllByRecursion (λ (own : List Link). All IsShortLink own) links
  all_short list [] each = tt
  all_short [] (own ∷ links) each = absurd each
  all_short (node ∷ list) (own ∷ links) each =
      (All-from_recursion IsShortLink own (left_short node.state node.by own each.0), all_short list links each.1)

pub good_graph_rules_are_plain : GoodGraphRulesArePlain
good_graph_rules_are_plain p typing nodes root links cuts rules graph ready answer =
    path_rules_are_plain nodes links cuts rules ready
    (All-from_recursion (λ (n : GraphNode). AreBounded n.state) nodes (all_bounded p typing nodes nodes links graph.each))
    (All-from_recursion (λ (own : List Link). All IsShortLink own) links (all_short p typing nodes nodes links graph.each)) answer
