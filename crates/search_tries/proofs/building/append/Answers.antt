use Rattle.std.proofs.Common.{◌∙◌, ◌++◌, ◌∷◌, [], List, ap}
use Rattle.std.proofs.lemmas.List.{append_assoc}
use Rattle.abs_cells.specs.AbstractStates.{AbstractState}
use Rattle.search_tries.proofs.building.append.Goals as goal

pub loop-state-preserved : goal.loop-state-preserved
loop-state-preserved g c =
    let one = c.in-Some.state ∷ [] in
    c.in_ok-push.ensures.items ∙ ap (λ (xs : List AbstractState). xs ++ one) c.loop-state.invariant
    ∙ append_assoc c.args.states.now c.loop-state.yielded one
