use Rattle.graph_laws.specs.Growth.{growth_by}
use Rattle.graph_laws.proofs.Growing.{graph_good, grows_by}
use Rattle.graph_laws.proofs.laws.disciplined_graphs_are_good.Goals as goal

pub returns : goal.returns
returns c = λ p typing is_head root nodes closed widths typed grows d whole.
    graph_good (growth_by p typing is_head) root nodes d.parent d.by p typing closed widths typed (grows_by p typing is_head) whole
    (λ n state way is. c.disciplined_graphs_grow.ensures p typing is_head root nodes closed widths typed grows d n state way is)
