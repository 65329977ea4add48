use Rattle.std.proofs.Common.{Result, subst}
use Rattle.code_forms.specs.declared.fault.CodeFault.{CodeFault}
use Rattle.code_forms.specs.Marks.{starts, stands}
use Rattle.code_forms.specs.Faults.{Gives}
use Rattle.code_forms.proofs.Boundaries.{is_good, passes_good}
use Rattle.code_forms.proofs.table.check_table.Goals as goal

pub returns-clause-good : goal.returns-clause-good
returns-clause-good c = is_good (stands (starts c.args.insns.now)) c.args.length c.args.table.now c.table_fault.result
    c.table_fault.ensures

pub returns-clause-only : goal.returns-clause-only
returns-clause-only c =
    λ good. subst (λ (r : Result (Unit {0}) CodeFault). Gives (λ x. x) c.table_fault.result r)
    (passes_good (stands (starts c.args.insns.now)) c.args.length c.args.table.now good) c.table_fault.ensures
