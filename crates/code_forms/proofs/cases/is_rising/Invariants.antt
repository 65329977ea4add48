use Rattle.std.proofs.Common.{◌≡◌, drop}
use Rattle.code_forms.specs.Cases.{is_rising, rises_from}
use Rattle.code_forms.proofs.cases.is_rising.Given as goal

abbrev pub invariant-loop-case : goal.invariant-loop-case
invariant-loop-case l = rises_from l.key (drop l.case-index l.others) ≡ is_rising l.fn.cases
