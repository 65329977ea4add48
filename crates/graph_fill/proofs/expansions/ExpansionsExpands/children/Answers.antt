use Rattle.std.proofs.Common.{Err, subst}
use Rattle.class_program.specs.Views.{program_of}
use Rattle.code_verify.specs.Typings.{typing_at}
use Rattle.graph_check.specs.abs_expand.Answers.{Answers}
use Rattle.graph_check.specs.abs_expand.declared.fault.ExpandFault.{ExpandFault}
use Rattle.graph_fill.proofs.NoChildren.{them_or_none, none_bad, none_many}
use Rattle.graph_fill.proofs.expansions.ExpansionsExpands.children.Goals as goal

pub returns-in-Ok : goal.returns-in-Ok
returns-in-Ok g c = them_or_none (program_of c.args.self.now.program.now) (typing_at c.args.self.now.typing.now) c.args.state.now
    c.in-Ok.children c.in-Ok.ensures

pub returns-in-Err-BadState : goal.returns-in-Err-BadState
returns-in-Err-BadState g c = none_bad (program_of c.args.self.now.program.now) (typing_at c.args.self.now.typing.now)
    c.args.state.now c.in-Err-BadState.field-0-0
    (subst (λ (f : ExpandFault). Answers (program_of c.args.self.now.program.now) (typing_at c.args.self.now.typing.now)
    c.args.state.now (Err f)) c.in-Err-BadState.field-0-is c.in-Err-BadState.ensures)

pub returns-in-Err-TooManyIds : goal.returns-in-Err-TooManyIds
returns-in-Err-TooManyIds g c = none_many (program_of c.args.self.now.program.now) (typing_at c.args.self.now.typing.now)
    c.args.state.now c.in-Err-TooManyIds.field-0-0
    (subst (λ (f : ExpandFault). Answers (program_of c.args.self.now.program.now) (typing_at c.args.self.now.typing.now)
    c.args.state.now (Err f)) c.in-Err-TooManyIds.field-0-is c.in-Err-TooManyIds.ensures)
