use Rattle.class_program.proofs.Rising.{items_placed}
use Rattle.class_program.proofs.InWidth.{items_wide}
use Rattle.class_program.proofs.closing.insns_numbered.Goals as goal

pub new-requires-clause-placed : goal.new-requires-clause-placed
new-requires-clause-placed c = items_placed c.args.refs.now c.args.statics.now c.into_seq.result _ c.into_seq.ensures.placed
    c.in_ok-items.ensures

pub new-requires-clause-widths : goal.new-requires-clause-widths
new-requires-clause-widths c = items_wide c.args.refs.now c.args.statics.now c.into_seq.result _ c.into_seq.ensures.widths
    c.in_ok-items.ensures
