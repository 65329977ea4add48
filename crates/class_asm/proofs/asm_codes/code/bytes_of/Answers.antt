use Rattle.class_asm.specs.asm_codes.Places.{place_in}
use Rattle.class_asm.proofs.Written.{fits_here, one_put, all_put}
use Rattle.class_asm.proofs.asm_codes.code.bytes_of.Goals as goal

pub loop-line-preserved : goal.loop-line-preserved
loop-line-preserved c =
    one_put (place_in c.args.labels.now) c.args.lines.now c.loop-line.line-index c.loop-line.out.items c.put.new.out.items
    c.line-item.result c.in_ok-insn.insn c.loop-line-test.true c.line-item.is c.loop-line.invariant c.in_ok-insn.ensures
    c.in_ok-put.ensures

pub put-requires-clause-small : goal.put-requires-clause-small
put-requires-clause-small c =
    (fits_here (place_in c.args.labels.now) c.args.lines.now c.loop-line.line-index c.loop-line.out.items c.line-item.result
    c.in_ok-insn.insn c.loop-line-test.true c.line-item.is c.loop-line.invariant c.in_ok-insn.ensures).0

pub put-requires-clause-fits : goal.put-requires-clause-fits
put-requires-clause-fits c =
    (fits_here (place_in c.args.labels.now) c.args.lines.now c.loop-line.line-index c.loop-line.out.items c.line-item.result
    c.in_ok-insn.insn c.loop-line-test.true c.line-item.is c.loop-line.invariant c.in_ok-insn.ensures).1

pub returns : goal.returns
returns c = all_put (place_in c.args.labels.now) c.args.lines.now c.loop-line.line-index c.loop-line.out.items c.loop-line.invariant
    c.loop-line-test.false
