-- What the calls that test a graph answer.
use Rattle.std.proofs.Common.{◌≡◌, ◌<◌, ◌≤◌, ◌+◌, ℕ, zero, suc, List, [], ◌∷◌, ◌++◌, length, take, Some, slice_get, Result, Ok, Err}
use Rattle.std.proofs.Common.{inl, inr, refl, sym, subst, arith}
use Rattle.std.proofs.lemmas.Option.{slice_get_cases, none-some}
use Rattle.std.proofs.lemmas.List.{take_all}
use Rattle.std.specs.List.{AllZip}
use Rattle.jvm_values.proofs.Options.{some_is}
use Rattle.abs_cells.specs.AbstractStates.{AbstractState}
use Rattle.class_program.specs.Programs.{Program}
use Rattle.frame_types.specs.Tables.{CodeTypes}
use Rattle.class_program.specs.class_world.WorldTypes.{types_of}
use Rattle.term_graph.specs.declared.links.Link.{Link}
use Rattle.term_graph.specs.declared.nodes.By.{By}
use Rattle.term_graph.specs.declared.nodes.By.TheVariants.{Expand, Instance, End, Todo}
use Rattle.term_graph.specs.Graphs.{GraphNode, GraphChild}
use Rattle.one_expansion.specs.abs_expand.declared.fault.ExpandFault.{ExpandFault}
use Rattle.one_expansion.specs.abs_expand.declared.fault.ExpandFault.TheVariants as expansion
use Rattle.one_expansion.specs.abs_expand.Answers.{Answers}
use Rattle.one_expansion.specs.abs_expand.BadStates.{IsGoodState}
use Rattle.one_expansion.specs.abs_expand.Expansions.{plan_of}
use Rattle.one_expansion.proofs.OneAnswer.{no_children, end_few}
use Rattle.graph_check.specs.declared.fault.What.{What}
use Rattle.graph_check.specs.declared.fault.What.TheVariants as whats
use Rattle.graph_check.specs.declared.fault.CheckFault.{CheckFault}
use Rattle.graph_check.specs.declared.fault.CheckFault.TheVariants as faults
use Rattle.graph_check.specs.declared.failure.Failure.{Failure}
use Rattle.graph_check.specs.declared.failure.Failure.TheVariants.{Fails, Memory}
use Rattle.graph_check.specs.Good.{HasChildren, HasEnded, IsStateAt, IsGoodNode, FailsBy, IsFirstBadNode, Tells}
use Rattle.graph_check.specs.inner.Checked.{failure_of, fault_of, LinksOr, MatchesOr, LeavesOr, NodeLeavesOr, GoodNodesOr}

-- ---- one node

module _ (p : Program) (typing : ℕ → CodeTypes) (nodes : List GraphNode) (state : AbstractState) where
  -- a node that is expanded
  pub expanded_or : (children : List GraphChild) (named : List ℕ) (result : Result (List Link) Failure)
      → HasChildren p typing state children → LinksOr nodes children named result → LeavesOr p typing nodes state (Expand named) result
  expanded_or children named (Ok links) are tells = record { children = children; are = are; names = tells.0; links_are = tells.1 }
  expanded_or children named (Err (Fails whats.ChildCount)) are tells =
      (are.0, inr (record { children = children; are = are; counts = tells }))
  expanded_or children named (Err (Fails (whats.Child place))) are tells =
      (are.0, record { children = children; are = are; counts = tells.0; first = tells.1 })
  expanded_or children named (Err (Fails whats.Root)) are tells = absurd tells
  expanded_or children named (Err (Fails (whats.BadState clause))) are tells = absurd tells
  expanded_or children named (Err (Fails whats.TooManyIds)) are tells = absurd tells
  expanded_or children named (Err (Fails whats.NotEnd)) are tells = absurd tells
  expanded_or children named (Err (Fails whats.BadTarget)) are tells = absurd tells
  expanded_or children named (Err (Fails (whats.Match fault))) are tells = absurd tells
  expanded_or children named (Err Memory) are tells = tt

  pub none_expanded : (named : List ℕ) → HasEnded p typing state
      → LeavesOr p typing nodes state (Expand named) (Err (Fails whats.ChildCount))
  none_expanded named ended = (ended.0, inl ended)

  pub refused_expanded : (named : List ℕ) (fault : ExpandFault) → Answers p typing state (Err fault)
      → LeavesOr p typing nodes state (Expand named) (Err (failure_of fault))
  refused_expanded named (expansion.BadState clause) bad = bad
  refused_expanded named (expansion.TooManyIds child) many = (many.0, (child, many))
  refused_expanded named expansion.Memory u = tt

  -- a node that ends
  pub ends_well : HasEnded p typing state → LeavesOr p typing nodes state End (Ok [])
  ends_well ended = (ended, refl)

  pub not_ended : (children : List GraphChild) → HasChildren p typing state children
      → LeavesOr p typing nodes state End (Err (Fails whats.NotEnd))
  not_ended children are = (are.0, λ ended. no_children (types_of p.world) state (plan_of p typing state) children ended.1 are.1)

  pub not_ended_many : (child : ℕ) → Answers p typing state (Err (expansion.TooManyIds child))
      → LeavesOr p typing nodes state End (Err (Fails whats.NotEnd))
  not_ended_many child many = (many.0, λ ended. end_few (types_of p.world) state (plan_of p typing state) child ended.1 many.1)

  -- a node that is an instance of another one
  pub matched_or : (target : ℕ) (entries : List (ℕ × ℕ)) (result : Result (List Link) Failure) → IsGoodState p typing state
      → MatchesOr p nodes state target entries result → LeavesOr p typing nodes state (Instance target entries) result
  matched_or target entries (Ok links) good tells = (
    record { good = good; node = tells.0; is = tells.1.0; instance = tells.1.1.0 },
    tells.1.1.1,
  )
  matched_or target entries (Err (Fails whats.BadTarget)) good tells = (good, tells)
  matched_or target entries (Err (Fails (whats.Match fault))) good tells = (good, tells)
  matched_or target entries (Err (Fails whats.Root)) good tells = absurd tells
  matched_or target entries (Err (Fails (whats.BadState clause))) good tells = absurd tells
  matched_or target entries (Err (Fails whats.TooManyIds)) good tells = absurd tells
  matched_or target entries (Err (Fails whats.ChildCount)) good tells = absurd tells
  matched_or target entries (Err (Fails (whats.Child place))) good tells = absurd tells
  matched_or target entries (Err (Fails whats.NotEnd)) good tells = absurd tells
  matched_or target entries (Err Memory) good tells = tt

  pub todo_fails : IsGoodState p typing state → LeavesOr p typing nodes state Todo (Err (Fails whats.NotEnd))
  todo_fails good = (good, tt)

-- ---- all nodes

module _ (p : Program) (typing : ℕ → CodeTypes) (nodes : List GraphNode) where
  zip_more : {A B : Type 0} (R : A → B → Type 0) (xs : List A) (ys : List B) (n : ℕ) (x : A) (y : B) → slice_get xs n ≡ Some x
      → R x y → AllZip R (take n xs) ys → AllZip R (take (suc n) xs) (ys ++ y ∷ [])
  zip_more R [] ys n x y at r all = absurd (none-some x at)
  zip_more R (z ∷ xs) [] zero x y at r all = (subst (λ w. R w y) (sym (some_is at)) r, tt)
  zip_more R (z ∷ xs) (w ∷ ys) zero x y at r all = absurd all
  zip_more R (z ∷ xs) [] (suc n) x y at r all = absurd all
  zip_more R (z ∷ xs) (w ∷ ys) (suc n) x y at r all = (all.0, zip_more R xs ys n x y at r all.1)

  zip_at : {A B : Type 0} (R : A → B → Type 0) (xs : List A) (ys : List B) (n k : ℕ) (x : A) → AllZip R (take n xs) ys → k < n
      → slice_get xs k ≡ Some x → (y : B) × R x y
  zip_at R [] ys n k x all l at = absurd (none-some x at)
  zip_at R (z ∷ xs) ys zero k x all l at = absurd (omega (arith, l))
  zip_at R (z ∷ xs) [] (suc n) k x all l at = absurd all
  zip_at R (z ∷ xs) (y ∷ ys) (suc n) zero x all l at = (y, subst (λ w. R w y) (some_is at) all.0)
  zip_at R (z ∷ xs) (y ∷ ys) (suc n) (suc k) x all l at = zip_at R xs ys n k x all.1 (omega (arith, l)) at

  pub one_more_good : (number : ℕ) (links : List (List Link)) (found : List Link) → NodeLeavesOr p typing nodes number (Ok found)
      → AllZip (IsGoodNode p typing nodes) (take number nodes) links
      → AllZip (IsGoodNode p typing nodes) (take (number + 1) nodes) (links ++ found ∷ [])
  one_more_good number links found leaves all =
      let next : suc number ≡ number + 1 = omega arith in
      subst (λ n. AllZip (IsGoodNode p typing nodes) (take n nodes) (links ++ found ∷ [])) next
      (zip_more (IsGoodNode p typing nodes) nodes links number leaves.node found leaves.is leaves.leaves all)

  pub all_good : (number : ℕ) (links : List (List Link)) → length nodes ≤ number
      → AllZip (IsGoodNode p typing nodes) (take number nodes) links → GoodNodesOr p typing nodes (Ok links)
  all_good number links l all = subst (λ ns. AllZip (IsGoodNode p typing nodes) ns links) (take_all number nodes l) all

  pub first_bad : (number : ℕ) (links : List (List Link)) (failure : Failure) → NodeLeavesOr p typing nodes number (Err failure)
      → AllZip (IsGoodNode p typing nodes) (take number nodes) links → GoodNodesOr p typing nodes (Err (fault_of number failure))
  first_bad number links (Fails what) leaves all =
      record {
        node = leaves.node;
        is = leaves.is;
        fails = leaves.leaves;
        before = λ k earlier low at. zip_at
            (IsGoodNode p typing nodes) nodes links number k earlier all low at;
      }
  first_bad number links Memory leaves all = tt

  -- want of memory at a node that is there
  pub memory_leaves : (number : ℕ) (result : Result (List Link) Failure) → number < length nodes → result ≡ Err Memory
      → NodeLeavesOr p typing nodes number result
  memory_leaves number result l e = elim (slice_get_cases nodes number).1 [
    | inl there ↦ record {
      node = there.0;
      is = there.2;
      leaves = subst
          (λ (r : Result (List Link) Failure). LeavesOr p typing nodes there.0.state there.0.by r) (sym e) tt;
    }
    | inr past ↦ absurd (omega (arith, l, past.0))
  ]

  -- ---- the graph

  pub unrooted : (root : AbstractState) → (IsStateAt nodes root 0 → ⊥) → Tells p typing nodes root (Err (faults.At 0 whats.Root))
  unrooted root none = (refl, none)

  pub told_good : (root : AbstractState) (links : List (List Link)) → IsStateAt nodes root 0 → GoodNodesOr p typing nodes (Ok links)
      → Tells p typing nodes root (Ok (record { nodes = links }))
  told_good root links rooted all = record { rooted = rooted; each = all }

  no_root : (state : AbstractState) (by : By) → FailsBy p typing nodes state by whats.Root → ⊥
  no_root state (Expand named) fails = fails
  no_root state (Instance target entries) fails = fails
  no_root state End fails = fails
  no_root state Todo fails = fails

  told_what : (root : AbstractState) (number : ℕ) (what : What) → IsStateAt nodes root 0 → IsFirstBadNode p typing nodes number what
      → Tells p typing nodes root (Err (faults.At number what))
  told_what root number whats.Root rooted bad = absurd (no_root bad.node.state bad.node.by bad.fails.1)
  told_what root number (whats.BadState clause) rooted bad = (rooted, bad)
  told_what root number whats.TooManyIds rooted bad = (rooted, bad)
  told_what root number whats.ChildCount rooted bad = (rooted, bad)
  told_what root number (whats.Child place) rooted bad = (rooted, bad)
  told_what root number whats.NotEnd rooted bad = (rooted, bad)
  told_what root number whats.BadTarget rooted bad = (rooted, bad)
  told_what root number (whats.Match fault) rooted bad = (rooted, bad)

  pub told_bad : (root : AbstractState) (fault : CheckFault) → IsStateAt nodes root 0 → GoodNodesOr p typing nodes (Err fault)
      → Tells p typing nodes root (Err fault)
  told_bad root (faults.At number what) rooted bad = told_what root number what rooted bad
  told_bad root faults.Memory rooted bad = tt
