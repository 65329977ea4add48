use Rattle.std.proofs.Common.{◌∙◌}
use Rattle.abs_heap.specs.Names.{name_in}
use Rattle.abs_heap.proofs.Giving.{frame_is}
use Rattle.abs_heap.proofs.naming.named_frame.Goals as goal

pub returns : goal.returns
returns c = c.new.ensures ∙ frame_is (name_in c.args.names.now) c.args.frame.now _ _ _ _ _ _ c.method.ensures c.pc.ensures
    c.in_ok-locals.ensures c.locals.ensures c.in_ok-stack.ensures c.stack.ensures
