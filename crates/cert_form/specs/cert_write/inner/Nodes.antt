-- Nodes, written one after another.
use Rattle.std.specs.Prelude.{◌≡◌, ◌&&◌, ℕ, Bool, false, List, [], ◌∷◌, ◌++◌, Some, slice_get}
use Rattle.std.specs.Option.{unwrap_or}
use Rattle.serde_json.specs.Data.{Data}
use Rattle.term_graph.specs.Graphs.{GraphNode}
use Rattle.cert_form.specs.Marks.{marked_by}
use Rattle.cert_form.specs.cert_write.Data.{node, part_of}

-- Node n of a graph is put behind the values of those in front of it, in form 2 without its state where it is marked, and the
-- children that it names are marked.
pub record IsPut (second : Bool) (names : List (List ℕ)) (graph : List GraphNode) (n : ℕ) (marks later : List Bool) (values more :
    List Data) : Type 0 where
  pub next : GraphNode
  pub is_next : slice_get graph n ≡ Some next
  pub marked : later ≡ marked_by marks next.by
  pub put : more ≡ values ++ node names (part_of (second && unwrap_or (slice_get marks n) false) next) ∷ []
