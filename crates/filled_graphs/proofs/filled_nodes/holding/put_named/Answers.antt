use Rattle.std.proofs.Common.{◌∙◌, ℕ, List, Some, sym, ap}
use Rattle.term_graph.specs.declared.nodes.By.TheVariants.{Expand}
use Rattle.filled_graphs.proofs.Putting.{in_list, in_none}
use Rattle.filled_graphs.proofs.filled_nodes.holding.put_named.Goals as goal

pub returns-in-Expand-clause-full : goal.returns-in-Expand-clause-full
returns-in-Expand-clause-full g c = λ place n is. c.in_ok-put_children-in-Expand.ensures.full place n
    (in_list (g.S.PartSource.parts c.args.ground.now.parts.now) c.args.ground.now.origins c.args.ground.now.sources c.args.namer
    c.as_slice.result.now
    (c.in_ok-by.ensures ∙ ap Some c.in-Expand.is ∙ ap (λ (ns : List ℕ). Some (Expand ns)) (sym c.as_slice.ensures)) place n is)
    is

pub returns-in-Instance-clause-full : goal.returns-in-Instance-clause-full
returns-in-Instance-clause-full g c = λ place n is. absurd (in_none (g.S.PartSource.parts c.args.ground.now.parts.now)
    c.args.ground.now.origins c.args.ground.now.sources c.args.namer _ (c.in_ok-by.ensures ∙ ap Some c.in-Instance.is) tt place n is)

pub returns-in-End-clause-full : goal.returns-in-End-clause-full
returns-in-End-clause-full g c = λ place n is. absurd (in_none (g.S.PartSource.parts c.args.ground.now.parts.now)
    c.args.ground.now.origins c.args.ground.now.sources c.args.namer _ (c.in_ok-by.ensures ∙ ap Some c.in-End.is) tt place n is)

pub returns-clause-full : goal.returns-clause-full
returns-clause-full g c = λ place n is. absurd (in_none (g.S.PartSource.parts c.args.ground.now.parts.now)
    c.args.ground.now.origins c.args.ground.now.sources c.args.namer _ (c.in_ok-by.ensures ∙ ap Some c.in-Todo.is) tt place n is)
