-- What a certificate shows: a good graph, cuts on its cycles, and rules of its paths of which no chain is infinite.
use Rattle.std.specs.Prelude.{ℕ, List}
use Rattle.abs_cells.specs.AbstractStates.{AbstractState}
use Rattle.class_program.specs.Programs.{Program}
use Rattle.frame_types.specs.Tables.{CodeTypes}
use Rattle.descent.specs.declared.rules.PathRule.{PathRule}
use Rattle.descent.specs.Chains.{ChainsEnd}
use Rattle.term_graph.specs.declared.links.Link.{Link}
use Rattle.term_graph.specs.Graphs.{GraphNode}
use Rattle.path_rules.specs.Paths.{IsCut}
use Rattle.path_rules.specs.Conditions.{IsReady}
use Rattle.path_rules.specs.Answers.{HasRules}
use Rattle.graph_check.specs.Good.{GraphOk}

-- a graph is certified to end from a root's state: it is a good graph with that state at node 0, each of its cycles has a cut, and the
-- paths from cut to cut have rules of which no chain is infinite
pub record IsCertified (p : Program) (typing : ℕ → CodeTypes) (nodes : List GraphNode) (cuts : List ℕ) (root : AbstractState) : Type
    0 where
  pub links : List (List Link)
  pub graph : GraphOk p typing nodes root links
  -- the paths have rules
  pub ready : IsReady nodes links cuts
  pub cut : IsCut nodes cuts
  pub rules : List PathRule
  pub are : HasRules nodes links cuts rules
  pub ends : ChainsEnd rules
