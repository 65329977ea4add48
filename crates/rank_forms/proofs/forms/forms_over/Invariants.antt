use Rattle.std.proofs.Common.{◌≡◌, ◌++◌, drop}
use Rattle.rank_forms.specs.Forms.{forms_over}
use Rattle.rank_forms.proofs.forms.forms_over.Given as goal

abbrev pub invariant-loop-cut : goal.invariant-loop-cut
invariant-loop-cut l = l.forms ++ forms_over l.rules l.size l.parts l.constant (drop l.cut-index l.cuts) ≡ forms_over l.rules l.size
    l.parts l.constant l.cuts
