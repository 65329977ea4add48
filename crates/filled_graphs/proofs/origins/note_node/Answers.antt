use Rattle.std.proofs.Common.{◌∙◌, ℕ, List, Some, sym, ap}
use Rattle.term_graph.specs.declared.nodes.By.TheVariants.{Expand}
use Rattle.filled_graphs.proofs.Noting.{all_noted, none_noted}
use Rattle.filled_graphs.proofs.origins.note_node.Goals as goal

pub returns-in-Expand : goal.returns-in-Expand
returns-in-Expand c = λ parts is so.
    let way = is ∙ ap Some c.in-Expand.is ∙ ap (λ (ns : List ℕ). Some (Expand ns)) (sym c.as_slice.ensures) in
    all_noted parts c.args.node c.as_slice.result.now c.note_all.new.origins way (c.note_all.ensures parts way so)

pub returns-in-Instance : goal.returns-in-Instance
returns-in-Instance c = λ parts is so. none_noted parts c.args.node _ c.args.origins.now (is ∙ ap Some c.in-Instance.is) tt so

pub returns-in-End : goal.returns-in-End
returns-in-End c = λ parts is so. none_noted parts c.args.node _ c.args.origins.now (is ∙ ap Some c.in-End.is) tt so

pub returns-in-Todo : goal.returns-in-Todo
returns-in-Todo c = λ parts is so. none_noted parts c.args.node _ c.args.origins.now (is ∙ ap Some c.in-Todo.is) tt so
