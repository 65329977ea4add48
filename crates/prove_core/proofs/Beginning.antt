-- A search begins with the initial state of its description.
use Rattle.std.proofs.Common.{◌≡◌, ◌≤◌, ◌+◌, ℕ, suc, List, [], ◌∷◌, length, refl, sym, ap, subst, arith}
use Rattle.abs_cells.specs.AbstractStates.{AbstractState}
use Rattle.class_program.specs.Programs.{Program, IsClosed as IsClosedProgram}
use Rattle.frame_types.specs.Tables.{CodeTypes}
use Rattle.code_verify.specs.Typings.{IsTypingOf}
use Rattle.input_desc.specs.declared.desc.Desc.{Desc}
use Rattle.input_desc.specs.Descs.{IsOwnDesc}
use Rattle.input_desc.specs.declared.desc.Input.{Input}
use Rattle.input_desc.specs.Initial.{cells_from, initial_of}
use Rattle.graph_laws.specs.grow_laws.Laws.{GrowingRoots}
use Rattle.term_graph.specs.Graphs.{GraphNode}
use Rattle.graph_build.specs.Disciplined.{IsDisciplined}
use Rattle.graph_build.specs.Answers.{IsClosed, IsStopped, PassesLimit, HasLarge}
use Rattle.prove_core.specs.Growth.{growth_of}
use Rattle.prove_core.specs.Reasons.{HasManyNodes, HasManyIds}
use Rattle.prove_core.specs.Reasons.{aim_of}
use Rattle.prove_core.specs.inner.Words.{CanGrow, IsGrownGraph}

pub root_grows : (p : Program) (typing : ℕ → CodeTypes) (desc : Desc) (root : AbstractState) → GrowingRoots → IsClosedProgram p
    → IsTypingOf p typing → IsOwnDesc p desc → root ≡ initial_of p desc → CanGrow p typing root
root_grows p typing desc root law closed typing_is own e =
    subst (CanGrow p typing) (sym e) (record { typing_is = typing_is; grows = law p typing desc closed typing_is own })

cells_long : (n : ℕ) (inputs : List Input) → length (cells_from n inputs) ≡ length inputs
cells_long n [] = refl
cells_long n (input ∷ inputs) = ap suc (cells_long (n + 1) inputs)

-- a description has at most 512 inputs
pub root_small : (p : Program) (desc : Desc) (root : AbstractState) → IsOwnDesc p desc → root ≡ initial_of p desc → length root.cells ≤ 512
unfolding initial_of
root_small p desc root own e =
    let few = own.good.few in
    let long = cells_long 0 desc.inputs in
    subst (λ (s : AbstractState). length s.cells ≤ 512) (sym e) (omega (arith, few, long))

module _ (p : Program) (typing : ℕ → CodeTypes) (first state : AbstractState) (is_first : first ≡ state) (limit : ℕ)
    (nodes : List GraphNode) where
  pub grown_from : (IsDisciplined (growth_of p typing) first nodes × IsClosed nodes) × (length nodes ≤ limit)
      → IsGrownGraph (aim_of p typing state) nodes
  grown_from h = subst (λ (s : AbstractState). IsGrownGraph (aim_of p typing s) nodes) is_first h.0

  pub nodes_from : IsStopped (growth_of p typing) first nodes
      (λ parent n s. PassesLimit (growth_of p typing) nodes parent n s limit) × (length nodes ≤ limit)
      → HasManyNodes (aim_of p typing state) limit nodes
  nodes_from h = subst (λ (s : AbstractState). HasManyNodes (aim_of p typing s) limit nodes) is_first h

  pub ids_from : IsStopped (growth_of p typing) first nodes (λ parent n s. HasLarge (growth_of p typing) nodes parent n s)
      × (length nodes ≤ limit) → HasManyIds (aim_of p typing state) limit nodes
  ids_from h = subst (λ (s : AbstractState). HasManyIds (aim_of p typing s) limit nodes) is_first h
