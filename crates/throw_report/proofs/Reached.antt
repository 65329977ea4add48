-- The nodes that edges reach are those that are marked.
use Rattle.std.proofs.Common.{◌≡◌, inl, inr, ℕ, ◌<◌, ◌==◌, Bool, true, false, List, slice_index_or, length}
use Rattle.std.proofs.Common.{sym, subst}
use Rattle.std.proofs.Common.{eq-eqb}
use Rattle.std.proofs.lemmas.Bool.{or_cases, or_left, or_right}
use Rattle.std.proofs.lemmas.Option.{slice_get_within}
use Rattle.list_views.proofs.Items.{length_mapped}
use Rattle.list_views.proofs.Orders.{same_number}
use Rattle.number_graphs.specs.Marking.{AreReached}
use Rattle.term_graph.specs.Graphs.{GraphNode, successors}
use Rattle.throw_report.specs.Reports.{rows_of, IsReached}
use Rattle.throw_report.specs.inner.Words.{is_marked, AreMarked}

pub marked_are : (nodes : List GraphNode) (marks : List Bool) → AreReached (rows_of nodes) 0 marks → AreMarked nodes marks
marked_are nodes marks are n node is = (sound, whole)
  where
    sound : is_marked marks n ≡ true → IsReached nodes n
    sound e = elim (or_cases (n == 0) (slice_index_or marks n false) e) as (λ o. IsReached nodes n) [
      | inl z ↦ inl (same_number n 0 z)
      | inr m ↦ inr (are.sound n m)
    ]

    within : n < length (rows_of nodes)
    within = subst (λ (k : ℕ). n < k) (sym (length_mapped (λ (x : GraphNode). successors x.by) nodes)) (slice_get_within nodes n node is)

    whole : IsReached nodes n → is_marked marks n ≡ true
    whole (inl z) = or_left (n == 0) (slice_index_or marks n false) (eq-eqb n 0 z)
    whole (inr leads) = or_right (n == 0) (slice_index_or marks n false) (are.whole n within leads)
