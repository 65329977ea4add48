use Rattle.prove_core.proofs.Targets.{marked_more}
use Rattle.prove_core.proofs.cutting.marks_of.Goals as goal

pub loop-n-preserved : goal.loop-n-preserved
loop-n-preserved g c = marked_more c.args.graph.now c.loop-n.n c.loop-n.marks.items c.mark.new.marks.items c.at.result.now
    c.by.result.now c.at.ensures c.by.ensures c.mark.ensures c.loop-n.invariant
