-- No state of a graph that grew has more than 512 ids.
use Rattle.std.proofs.Common.{◌≡◌, ◌∙◌, ◌<◌, ◌≤◌, ◌⊎◌, inl, inr, ℕ, zero, suc, List, [], ◌∷◌, length, map, Some}
use Rattle.std.proofs.Common.{slice_get, sym, ap, subst, arith}
use Rattle.std.specs.List.{AllByRecursion, AllZip}
use Rattle.std.proofs.lemmas.Option.{none-some, same_Some}
use Rattle.abs_cells.specs.AbstractStates.{AbstractState}
use Rattle.abs_expand.proofs.abs_plans.GoodPlans.{plan_is_good}
use Rattle.abs_expand.specs.Expansions.{plan_of}
use Rattle.abs_widen.specs.Widening.{IsWidening}
use Rattle.class_program.specs.Good.{IsGood}
use Rattle.class_program.specs.Programs.{Program}
use Rattle.class_world.specs.WorldTypes.{types_of}
use Rattle.frame_types.specs.Tables.{CodeTypes}
use Rattle.graph_build.specs.Disciplined.{IsNode, IsStateAt, IsDisciplinedBy, IsLeftAsDue, IsMatched, IsWidened, IsFirstMatch, Names}
use Rattle.graph_build.specs.Rules.{GrowthRules}
use Rattle.graph_check.specs.Good.{HasChildren}
use Rattle.graph_laws.proofs.Growing.{GrowsBy, grows_by, above_low, not_before}
use Rattle.graph_laws.specs.Growth.{growth_by}
use Rattle.term_graph.specs.declared.nodes.By.{By}
use Rattle.term_graph.specs.declared.nodes.By.TheVariants.{Expand, Instance, End, Todo}
use Rattle.term_graph.specs.Graphs.{GraphNode, GraphChild}
use Rattle.prove_core.specs.TextLaws.{DisciplinedGraphsHaveFewIds}
use Rattle.prove_core.proofs.ChildCounts.{children_small}
use Rattle.prove_core.proofs.IdCounts.{own, dropped}

abbrev IsSmall : AbstractState → Type 0
IsSmall state = length state.cells ≤ 512

child_states : (children : List GraphChild) → AllByRecursion (λ (child : GraphChild). length child.state.cells ≤ 512) children
    → AllByRecursion IsSmall (map (λ (child : GraphChild). child.state) children)
child_states [] all = tt
child_states (child ∷ children) all = (all.0, child_states children all.1)

module _ (p : Program) (typing : ℕ → CodeTypes) (good : IsGood p) where
  of_children : (state : AbstractState) (children : List GraphChild) → HasChildren p typing state children
      → AllByRecursion (λ (child : GraphChild). length child.state.cells ≤ 512) children
  of_children state children has = children_small (types_of p.world) state (plan_of p typing state) children
      (plan_is_good p typing state good has.0.sound) has.1

  of_widening : (a b wide : AbstractState) → IsWidening (types_of p.world) a b wide → IsSmall wide
  of_widening a b wide is =
      let few = is.few in
      let long = is.is.is_merged.long in
      let most = dropped (length is.is.merged.cells) is.is.merged _ (own is.is.merged) is.is.dropped is.is.rising in
      omega (arith, few, long, most)

  module _ (rules : GrowthRules) (by_rules : GrowsBy p typing rules) (root : AbstractState) (nodes : List GraphNode) (parent : ℕ → ℕ)
      (d : IsDisciplinedBy rules root nodes parent) (few : IsSmall root) where
    same_state : (n : ℕ) (s t : AbstractState) (b c : By) → IsNode nodes n s b → IsNode nodes n t c → s ≡ t
    same_state n s t b c e f = ap (λ (node : GraphNode). node.state) (same_Some _ _ (sym e ∙ f))

    zip_small : (states : List AbstractState) (named : List ℕ) (place n : ℕ) → AllByRecursion IsSmall states
        → AllZip (IsStateAt nodes) states named → slice_get named place ≡ Some n → (s : AbstractState) × (IsSmall s × IsStateAt nodes s n)
    zip_small [] [] place n all zip e = absurd (none-some n e)
    zip_small [] (m ∷ named) place n all zip e = absurd zip
    zip_small (s ∷ states) [] place n all zip e = absurd zip
    zip_small (s ∷ states) (m ∷ named) zero n all zip e = (s, (all.0, subst (IsStateAt nodes s) (same_Some m n e) zip.0))
    zip_small (s ∷ states) (m ∷ named) (suc place) n all zip e = zip_small states named place n all.1 zip.1 e

    expanded_small : (m n : ℕ) (state child : AbstractState) (by : By) (named : List ℕ)
        → IsLeftAsDue rules nodes parent m state (Expand named) → Names (Expand named) n → IsNode nodes n child by → IsSmall child
    expanded_small m n state child by named left names is =
        let grown = left.1 in
        let k = by_rules.children state grown.children grown.are in
        let all = subst (AllByRecursion IsSmall) (sym k.1.1) (child_states k.0 (of_children state k.0 k.1.0)) in
        let found = zip_small grown.children named names.0 n all grown.names names.1 in
        subst IsSmall (same_state n found.0 child found.1.1.by by found.1.1.is is) found.1.0

    widened_small : (m n : ℕ) (state child : AbstractState) (by : By) (entries : List (ℕ × ℕ))
        → IsWidened rules nodes parent m state n entries → IsNode nodes n child by → IsSmall child
    widened_small m n state child by entries h is = subst IsSmall (same_state n h.wide child h.is_wide.by by h.is_wide.is is)
        (of_widening h.above state h.wide (by_rules.widening h.above state h.wide h.widened))

    from_parent : (n : ℕ) (child : AbstractState) (by : By) → 0 < n → n < length nodes → IsNode nodes n child by
        → (state : AbstractState) (way : By) → IsNode nodes (parent n) state way → Names way n → IsSmall child
    from_parent n child by positive within is state (Expand named) at names =
        expanded_small (parent n) n state child by named (d.each (parent n) state (Expand named) at) names is
    from_parent n child by positive within is state End at names = absurd names
    from_parent n child by positive within is state Todo at names = absurd names
    from_parent n child by positive within is state (Instance target entries) at names =
        go (d.tree.lower n positive within) (d.each (parent n) state (Instance target entries) at)
      where
        go : parent n < n → IsMatched rules nodes parent (parent n) state target entries
            ⊎ IsWidened rules nodes parent (parent n) state target entries → IsSmall child
        go low (inl m) = elim (subst (λ (u : ℕ). IsFirstMatch rules nodes parent (parent n) state u) names m.due).met.earlier.before [
          | inl up ↦ absurd (let l = above_low rules root nodes parent d up.0 n (parent n) (omega (arith, low, within)) up.1 in
              omega (arith, l, low))
          | inr later ↦ absurd (not_before rules root nodes parent d n positive within later)
        ]
        go low (inr w) = widened_small (parent n) n state child by entries
            (subst (λ (u : ℕ). IsWidened rules nodes parent (parent n) state u entries) names w) is

    pub node_small : (n : ℕ) (state : AbstractState) (by : By) → n < length nodes → IsNode nodes n state by → IsSmall state
    node_small zero state by within is = subst IsSmall (same_state 0 root state d.rooted.by by d.rooted.is is) few
    node_small (suc n) state by within is =
        let from = d.tree.comes (suc n) (omega arith) within in
        from_parent (suc n) state by (omega arith) within is from.state from.by from.is from.names

got_within : {X : Type 0} (xs : List X) (n : ℕ) (x : X) → slice_get xs n ≡ Some x → n < length xs
got_within [] n x e = absurd (none-some x e)
got_within (y ∷ xs) zero x e = omega arith
got_within (y ∷ xs) (suc n) x e = let l = got_within xs n x e in omega (arith, l)

pub few_ids : DisciplinedGraphsHaveFewIds
few_ids p typing is_head root nodes good few h n state by is =
    node_small p typing good (growth_by p typing is_head) (grows_by p typing is_head) root nodes h.parent h.by few n state by
    (got_within nodes n (record { state = state; by = by }) is) is
