use Rattle.std.proofs.Common.{drop}
use Rattle.std.specs.Prelude.{if◌then◌else◌, negsuc, pos}
use Rattle.lin_core.specs.Weights.{weight_in}
use Rattle.descent.proofs.Adding.{IsAdding}
use Rattle.descent.proofs.ranking.add_entries.Given as goal

abbrev pub invariant-loop-id : goal.invariant-loop-id
invariant-loop-id l = IsAdding (weight_in l.weights) l.slots l.size (if l.negative then negsuc 0 else pos 1) l.entries
    (drop l.id-index l.entries) l.id-index l.fn.scratch l.scratch
