-- What a grower answers, by what it asked of others.
use Rattle.std.proofs.Common.{◌≡◌, ℕ, List, [], ◌∷◌, map, Result, Ok, Err, sym, subst}
use Rattle.std.specs.List.{AllByRecursion}
use Rattle.abs_cells.specs.AbstractStates.{AbstractState}
use Rattle.abs_expand.specs.declared.fault.ExpandFault.{ExpandFault}
use Rattle.abs_expand.specs.declared.fault.ExpandFault.TheVariants as faults
use Rattle.abs_expand.specs.Answers.{Answers}
use Rattle.abs_widen.specs.Laws.{IsInstance}
use Rattle.abs_widen.specs.Widening.{AreAlike, IsWidening}
use Rattle.class_world.specs.WorldTypes.{types_of}
use Rattle.class_program.specs.Programs.{Program, IsClosed}
use Rattle.class_program.specs.Widths.{HasWidths}
use Rattle.frame_types.specs.Tables.{CodeTypes}
use Rattle.term_graph.specs.Graphs.{GraphChild}
use Rattle.graph_build.specs.declared.grower.Grown.{Grown}
use Rattle.graph_build.specs.declared.grower.Grown.TheVariants.{End, Children}
use Rattle.graph_build.specs.declared.grower.GrowFault.{GrowFault}
use Rattle.graph_build.specs.declared.grower.GrowFault.TheVariants.{TooManyIds, Memory}
use Rattle.graph_build.specs.Growing.{GrowsOr, IsGoodWidening}
use Rattle.graph_build.specs.Rules.{HaveSamePositions}
use Rattle.graph_check.specs.Good.{HasChildren}
use Rattle.graph_laws.specs.grow_laws.Laws.{GrowingChildren, GrowingStatesStandAlike, GrowingWidenings}
use Rattle.graph_check.proofs.one_expansion.OneAnswer.{not_bad}
use Rattle.graph_laws.specs.place_sorts.Growing.{IsGrowing}
use Rattle.prove_core.specs.Growth.{growth_of}
use Rattle.prove_core.specs.inner.Words.{CanGrow, BecomesThese, IsGrowFault}

module _ (p : Program) (typing : ℕ → CodeTypes) (state : AbstractState) (can : CanGrow p typing state) where
  -- ---- children

  all_can : (children : List GraphChild) → AllByRecursion (λ (child : GraphChild). IsGrowing p typing child.state) children
      → AllByRecursion (CanGrow p typing) (map (λ (child : GraphChild). child.state) children)
  all_can [] h = tt
  all_can (child ∷ children) h = (record { typing_is = can.typing_is; grows = h.0 }, all_can children h.1)

  pub grows : {P : Type 0} (law : GrowingChildren) → IsClosed p → HasWidths p → (children : List GraphChild)
      (result : Result (Grown P) GrowFault) → HasChildren p typing state children → BecomesThese children result
      → GrowsOr (growth_of p typing) (CanGrow p typing) state result
  grows law closed widths children (Ok End) are h = absurd h
  grows law closed widths children (Ok (Children states)) are h =
      let all = all_can children (law p typing state children closed widths can.typing_is can.grows are.1) in
      (record { children = children; are = are; states_are = h }, subst (AllByRecursion (CanGrow p typing)) (sym h) all)
  grows law closed widths children (Err TooManyIds) are h = absurd h
  grows law closed widths children (Err Memory) are h = tt

  -- ---- faults

  pub never_bad : (fault : ExpandFault) → Answers p typing state (Err fault) → (clause : ℕ) → fault ≡ faults.BadState clause → ⊥
  never_bad fault h clause e = not_bad p typing state clause can.grows.good
      (subst (λ (f : ExpandFault). Answers p typing state (Err f)) e h)

  -- the answer's own type says nothing of a fault
  pub fails : (fault : ExpandFault) (result : GrowFault) → Answers p typing state (Err fault) → IsGrowFault fault result
      → GrowsOr {P = Unit {0}} (growth_of p typing) (CanGrow p typing) state (Err result)
  fails (faults.TooManyIds child) result h e =
      subst (λ (f : GrowFault). GrowsOr {P = Unit {0}} (growth_of p typing) (CanGrow p typing) state (Err f)) (sym e) (child, h)
  fails (faults.BadState clause) result h e = absurd e
  fails faults.Memory result h e =
      subst (λ (f : GrowFault). GrowsOr {P = Unit {0}} (growth_of p typing) (CanGrow p typing) state (Err f)) (sym e) tt

-- ---- widenings

module _ (p : Program) (typing : ℕ → CodeTypes) (above state : AbstractState) (can_above : CanGrow p typing above)
    (can : CanGrow p typing state) (positions : HaveSamePositions state above) (alike : GrowingStatesStandAlike) where
  pub stand_alike : AreAlike above state
  stand_alike = alike p typing above state can.typing_is can_above.grows can.grows (sym positions.frames) (sym positions.thrown)

  pub widens : GrowingWidenings → IsClosed p → (wide : AbstractState) → IsWidening (types_of p.world) above state wide
      → IsInstance (types_of p.world) state wide → IsGoodWidening (growth_of p typing) (CanGrow p typing) above state wide
  widens law closed wide widened instance = record {
    widened = widened;
    good_wide = record {
      typing_is = can.typing_is;
      grows = law p typing above state wide closed can_above.grows can.grows stand_alike widened;
    };
    entries = instance.0;
    instance = instance.1;
  }
