use Rattle.std.proofs.Common.{◌∙◌, refl}
use Rattle.abs_heap.specs.Names.{name_in}
use Rattle.abs_heap.proofs.Giving.{whole_is}
use Rattle.abs_heap.proofs.children.whole.Goals as goal

pub returns : goal.returns
returns g c = c.new.ensures ∙ whole_is (name_in c.args.names.now) c.args.state.now _ _ _ _ c.args.cells c.args.cells _ _
    c.in_ok-frames.ensures c.frames.ensures c.name_of_given-throwing.ensures c.throwing.ensures refl
