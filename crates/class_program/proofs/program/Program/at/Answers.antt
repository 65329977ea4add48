use Rattle.class_program.proofs.Closed.{insn_found, insn_past}
use Rattle.class_program.proofs.program.Program.at.Goals as goal

pub returns-in-Some : goal.returns-in-Some
returns-in-Some c = insn_found c.args.self.now.methods c.args.method c.args.pc c.in-Some.method.now _ c.in-Some.ensures.0
    c.in-Some.ensures.1 c.at.ensures

pub returns-in-None : goal.returns-in-None
returns-in-None c = insn_past c.args.self.now.methods c.args.method c.args.pc c.in-None.ensures
