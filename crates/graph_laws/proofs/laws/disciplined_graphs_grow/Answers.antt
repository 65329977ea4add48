use Rattle.graph_laws.specs.Growth.{growth_by}
use Rattle.graph_laws.proofs.Growing.{all_grow, grows_by}
use Rattle.graph_laws.proofs.laws.disciplined_graphs_grow.Goals as goal

pub returns : goal.returns
returns c = λ p typing is_head root nodes closed widths typed grows d n state way is.
    all_grow (growth_by p typing is_head) root nodes d.parent d.by p typing closed widths typed (grows_by p typing is_head)
    c.children_grow.ensures c.growing_states_stand_alike.ensures c.widenings_grow.ensures grows n state way is
