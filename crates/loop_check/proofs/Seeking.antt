-- The least End node of a graph.
use Rattle.std.proofs.Common.{◌≡◌, ◌∙◌, inl, inr, ℕ, ◌≤◌, ◌+◌, true, false, List, length, Some, slice_get, refl, sym, ap}
use Rattle.std.proofs.Common.{arith}
use Rattle.std.specs.Option.{option_map}
use Rattle.std.proofs.lemmas.Bool.{false≢true, cases_lt}
use Rattle.std.proofs.lemmas.Option.{slice_get_within}
use Rattle.list_views.proofs.Options.{map_some}
use Rattle.jvm_values.proofs.Options.{some_is}
use Rattle.term_graph.specs.declared.nodes.By.{By}
use Rattle.term_graph.specs.declared.nodes.By.TheVariants as ways
use Rattle.term_graph.specs.Graphs.{GraphNode}
use Rattle.loop_check.specs.Loops.{HasNoEnd, IsLeastEnd}
use Rattle.loop_check.specs.inner.Words.{is_end, NoneBefore}

end_is : (by : By) → is_end by ≡ true → by ≡ ways.End
end_is ways.End e = refl
end_is (ways.Expand named) e = absurd (false≢true e)
end_is (ways.Instance target entries) e = absurd (false≢true e)
end_is ways.Todo e = absurd (false≢true e)

-- a node of that number is left so
abbrev pub IsLeft : List GraphNode → ℕ → By → Type 0
IsLeft nodes n by = option_map (λ (node : GraphNode). node.by) (slice_get nodes n) ≡ Some by

pub found_end : (nodes : List GraphNode) (n : ℕ) (by : By) → IsLeft nodes n by → is_end by ≡ true → NoneBefore nodes n
    → IsLeastEnd nodes n
found_end nodes n by at e before =
    let found = map_some (λ (node : GraphNode). node.by) (slice_get nodes n) by at in
    record { ends = record { node = found.0; is = found.1.0; ends = found.1.1 ∙ end_is by e }; least = before }

pub no_end_here : (nodes : List GraphNode) (n : ℕ) (by : By) → IsLeft nodes n by → is_end by ≡ false → NoneBefore nodes n
    → NoneBefore nodes (n + 1)
no_end_here nodes n by at e before k l h = elim (cases_lt k n) as (λ o. ⊥) [
  | inl j ↦ before k j h
  | inr j ↦
      let here : k ≡ n = omega (arith, l, j) in
      let found = map_some (λ (node : GraphNode). node.by) (slice_get nodes n) by at in
      let one : h.node ≡ found.0 = some_is (sym h.is ∙ (ap (slice_get nodes) here ∙ found.1.0)) in
      let left : ways.End ≡ by = sym h.ends ∙ (ap (λ (x : GraphNode). x.by) one ∙ found.1.1) in
      false≢true (sym e ∙ sym (ap is_end left))
]

pub none_at_all : (nodes : List GraphNode) (n : ℕ) → length nodes ≤ n → NoneBefore nodes n → HasNoEnd nodes
none_at_all nodes n l before k h =
    let j = slice_get_within nodes k h.node h.is in
    before k (omega (arith, j, l)) h
