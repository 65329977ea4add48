-- A good graph has one list of links and no fault, and a graph has one first fault.
use Rattle.std.proofs.Common.{◌≡◌, ◌∙◌, ℕ, List, [], ◌∷◌, Some, slice_get, Result, Ok, Err, refl, sym, ap, subst}
use Rattle.std.specs.Prelude.{◌≢◌}
use Rattle.std.specs.List.{AllZip}
use Rattle.list_views.proofs.Orders.{neither_below}
use Rattle.jvm_values.proofs.Options.{some_is}
use Rattle.abs_cells.specs.AbstractStates.{AbstractState}
use Rattle.class_program.specs.Programs.{Program}
use Rattle.frame_types.specs.Tables.{CodeTypes}
use Rattle.term_graph.specs.declared.links.Link.{Link}
use Rattle.term_graph.specs.declared.links.Links.{Links}
use Rattle.term_graph.specs.Graphs.{GraphNode}
use Rattle.graph_check.specs.declared.fault.What.{What}
use Rattle.graph_check.specs.declared.fault.What.TheVariants as whats
use Rattle.graph_check.specs.declared.fault.CheckFault.{CheckFault}
use Rattle.graph_check.specs.declared.fault.CheckFault.TheVariants.{At, Memory}
use Rattle.graph_check.specs.Good.{IsGoodNode, IsRooted, GraphOk, FailsAs, IsFirstBadNode, IsFault, Tells}
use Rattle.graph_check.specs.OneVerdict.{GraphsHaveOneVerdict}
use Rattle.one_expansion.proofs.abs_expand.ZipLists.{beside}
use Rattle.graph_check.proofs.OneNode.{links_by, node_one, node_left}

module _ (p : Program) (typing : ℕ → CodeTypes) (nodes : List GraphNode) where
  zip_one : (some : List GraphNode) (a b : List (List Link)) → AllZip (IsGoodNode p typing nodes) some a
      → AllZip (IsGoodNode p typing nodes) some b → a ≡ b
  zip_one [] [] [] g h = refl
  zip_one [] [] (y ∷ b) g h = absurd h
  zip_one [] (x ∷ a) b g h = absurd g
  zip_one (n ∷ some) [] b g h = absurd g
  zip_one (n ∷ some) (x ∷ a) [] g h = absurd h
  zip_one (n ∷ some) (x ∷ a) (y ∷ b) g h =
      let first = links_by p typing nodes n.state n.by x y g.0 h.0 in
      let rest = zip_one some a b g.1 h.1 in
      λ i. first i ∷ rest i

  pub links_one : (root : AbstractState) (a b : List (List Link)) → GraphOk p typing nodes root a → GraphOk p typing nodes root b → a ≡ b
  links_one root a b g h = zip_one nodes a b g.each h.each

  good_or_bad : (k : ℕ) (node : GraphNode) (links : List Link) (what : What) → slice_get nodes k ≡ Some node
      → IsGoodNode p typing nodes node links → FailsAs p typing nodes node what → ⊥
  good_or_bad k node links what at good fails = node_left p typing nodes node.state node.by links what good fails

  bad_node_one : (n m : ℕ) (w v : What) → IsFirstBadNode p typing nodes n w → IsFirstBadNode p typing nodes m v → (n ≡ m) × (w ≡ v)
  bad_node_one n m w v f g =
      let number : n ≡ m = neither_below n m
      (λ low. let good = g.before n f.node low f.is in good_or_bad n f.node good.0 w f.is good.1 f.fails)
      (λ low. let good = f.before m g.node low g.is in good_or_bad m g.node good.0 v g.is good.1 g.fails) in
      let node : f.node ≡ g.node = some_is (sym f.is ∙ (ap (λ (k : ℕ). slice_get nodes k) number ∙ g.is)) in (
        number,
        node_one p typing nodes g.node.state g.node.by w v
            (subst (λ (x : GraphNode). FailsAs p typing nodes x w) node f.fails) g.fails,
      )

  data GraphFails (root : AbstractState) (number : ℕ) (what : What) : Type 0 where
    as_root : what ≡ whats.Root → number ≡ 0 → (IsRooted nodes root → ⊥) → GraphFails root number what
    as_node : IsRooted nodes root → IsFirstBadNode p typing nodes number what → GraphFails root number what

  graph_fails : (root : AbstractState) (number : ℕ) (what : What) → IsFault p typing nodes root number what → GraphFails root number what
  graph_fails root number whats.Root f = as_root refl f.0 f.1
  graph_fails root number (whats.BadState clause) f = as_node f.0 f.1
  graph_fails root number whats.TooManyIds f = as_node f.0 f.1
  graph_fails root number whats.ChildCount f = as_node f.0 f.1
  graph_fails root number (whats.Child place) f = as_node f.0 f.1
  graph_fails root number whats.NotEnd f = as_node f.0 f.1
  graph_fails root number whats.BadTarget f = as_node f.0 f.1
  graph_fails root number (whats.Match fault) f = as_node f.0 f.1

  fails_one : (root : AbstractState) (n m : ℕ) (w v : What) → GraphFails root n w → GraphFails root m v → (n ≡ m) × (w ≡ v)
  fails_one root n m w v (as_root e z f) (as_root d y g) = (z ∙ sym y, e ∙ sym d)
  fails_one root n m w v (as_root e z f) (as_node rooted g) = absurd (f rooted)
  fails_one root n m w v (as_node rooted f) (as_root d y g) = absurd (g rooted)
  fails_one root n m w v (as_node rooted f) (as_node other g) = bad_node_one n m w v f g

  pub fault_one : (root : AbstractState) (n m : ℕ) (w v : What) → IsFault p typing nodes root n w → IsFault p typing nodes root m v
      → (n ≡ m) × (w ≡ v)
  fault_one root n m w v f g = fails_one root n m w v (graph_fails root n w f) (graph_fails root m v g)

  good_or_fails : (root : AbstractState) (links : List (List Link)) (number : ℕ) (what : What) → GraphOk p typing nodes root links
      → GraphFails root number what → ⊥
  good_or_fails root links number what ok (as_root e z f) = f ok.rooted
  good_or_fails root links number what ok (as_node rooted bad) =
      let found = beside (IsGoodNode p typing nodes) nodes links number bad.node ok.each bad.is in
      good_or_bad number bad.node found.other what bad.is found.alike bad.fails

  pub good_or_fault : (root : AbstractState) (links : List (List Link)) (number : ℕ) (what : What)
      → GraphOk p typing nodes root links → IsFault p typing nodes root number what → ⊥
  good_or_fault root links number what ok f = good_or_fails root links number what ok (graph_fails root number what f)

-- ---- the law

abbrev listed : List (List Link) → Result Links CheckFault
listed links = Ok (record { nodes = links })

verdict_one : (p : Program) (typing : ℕ → CodeTypes) (nodes : List GraphNode) (root : AbstractState) (one other : Result Links CheckFault)
    → Tells p typing nodes root one → Tells p typing nodes root other → one ≢ Err Memory → other ≢ Err Memory → one ≡ other
verdict_one p typing nodes root (Ok a) (Ok b) g h na nb = ap listed (links_one p typing nodes root a.nodes b.nodes g h)
verdict_one p typing nodes root (Ok a) (Err (At n w)) g h na nb = absurd (good_or_fault p typing nodes root a.nodes n w g h)
verdict_one p typing nodes root (Err (At n w)) (Ok b) g h na nb = absurd (good_or_fault p typing nodes root b.nodes n w h g)
verdict_one p typing nodes root (Err (At n w)) (Err (At m v)) g h na nb =
    let e = fault_one p typing nodes root n m w v g h in
    ap (λ (k : ℕ). Err (At k w)) e.0 ∙ ap (λ (what : What). Err (At m what)) e.1
verdict_one p typing nodes root (Ok a) (Err Memory) g h na nb = absurd (nb refl)
verdict_one p typing nodes root (Err (At n w)) (Err Memory) g h na nb = absurd (nb refl)
verdict_one p typing nodes root (Err Memory) other g h na nb = absurd (na refl)

pub one_verdict : GraphsHaveOneVerdict
one_verdict p typing nodes root one other g h na nb = verdict_one p typing nodes root one other g h na nb
