use Rattle.std.proofs.Common.{◌≡◌, drop}
use Rattle.code_forms.specs.Marks.{marked}
use Rattle.code_forms.specs.Tables.{first_bad_boundary}
use Rattle.code_forms.proofs.table.first_bad_boundary.Given as goal

abbrev pub invariant-loop-entry : goal.invariant-loop-entry
invariant-loop-entry l = first_bad_boundary (marked l.starts) l.length (drop l.entry-index l.table) ≡ first_bad_boundary
    (marked l.starts) l.length l.table
