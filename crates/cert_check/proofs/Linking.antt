-- Each link of an expanded node is such as rules take.
use Rattle.std.proofs.Common.{◌≡◌, ℕ, List, [], ◌∷◌, map, sym, subst}
use Rattle.std.specs.List.{AllByRecursion, AllZip}
use Rattle.abs_cells.specs.AbstractStates.{AbstractState}
use Rattle.class_program.specs.Programs.{Program}
use Rattle.class_program.specs.Widths.{HasWidths}
use Rattle.frame_types.specs.Tables.{CodeTypes}
use Rattle.code_verify.specs.Typings.{IsTypingOf}
use Rattle.term_graph.specs.declared.links.Link.{Link}
use Rattle.term_graph.specs.declared.nodes.By.{By}
use Rattle.term_graph.specs.declared.nodes.By.TheVariants.{Expand}
use Rattle.term_graph.specs.Graphs.{GraphNode, GraphChild}
use Rattle.path_rules.specs.Conditions.{IsLinkBetween, IsGoodChild}
use Rattle.graph_check.specs.Good.{NamesChild, IsExpanded, IsLeftBy, IsGoodNode}
use Rattle.plan_links.specs.Laws.{FitsRules, LinksFit}

-- each link of an expanded node leads from its state to the named node's, and is such as rules take
abbrev pub AreLinked : List GraphNode → GraphNode → List Link → Type 0
AreLinked nodes node links = (named : List ℕ) → node.by ≡ Expand named → AllZip (IsGoodChild nodes node.state) named links

module _ (fit : LinksFit) (p : Program) (typing : ℕ → CodeTypes) (widths : HasWidths p) (typing_is : IsTypingOf p typing)
    (nodes : List GraphNode) where
  children_linked : (state : AbstractState) (children : List GraphChild) (named : List ℕ)
      → AllByRecursion (FitsRules state) children → AllZip (NamesChild nodes) children named
      → AllZip (IsGoodChild nodes state) named (map (λ (child : GraphChild). child.link) children)
  children_linked state [] [] fits names = tt
  children_linked state [] (n ∷ named) fits names = absurd names
  children_linked state (child ∷ children) [] fits names = absurd names
  children_linked state (child ∷ children) (n ∷ named) fits names =
      let at = names.0 in (
        (at.node, (at.is, subst (λ (s : AbstractState). IsLinkBetween state s child.link) (sym at.state_is) fits.0)),
        children_linked
            state children named fits.1 names.1,
      )

  expanded_linked : (state : AbstractState) (named : List ℕ) (links : List Link)
      → IsExpanded p typing nodes state named links → AllZip (IsGoodChild nodes state) named links
  expanded_linked state named links expanded =
      subst (AllZip (IsGoodChild nodes state) named) (sym expanded.links_are)
      (children_linked state expanded.children named
      (fit p typing state expanded.children widths typing_is expanded.are.0 expanded.are.1) expanded.names)

  left_linked : (node : GraphNode) (links : List Link) → IsGoodNode p typing nodes node links → AreLinked nodes node links
  left_linked node links left named e = expanded_linked node.state named links
      (subst (λ (by : By). IsLeftBy p typing nodes node.state by links) e left)

  pub all_linked : (list : List GraphNode) (links : List (List Link)) → AllZip (IsGoodNode p typing nodes) list links
      → AllZip (AreLinked nodes) list links
  all_linked [] [] each = tt
  all_linked [] (own ∷ links) each = absurd each
  all_linked (node ∷ list) [] each = absurd each
  all_linked (node ∷ list) (own ∷ links) each = (left_linked node own each.0, all_linked list links each.1)
