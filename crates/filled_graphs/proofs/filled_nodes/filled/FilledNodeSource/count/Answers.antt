use mathlib.Core.Logic.{∥∥₁_elim}
use Rattle.std.proofs.Common.{◌∙◌, ℕ, length, sym, ap}
use Rattle.std.proofs.Props.{props}
use Rattle.filled_graphs.proofs.filled_nodes.filled.FilledNodeSource.count.Goals as goal

count_set : IsSet ℕ
count_set = hlevel props

pub returns : goal.returns
returns g c = ∥∥₁_elim c.self.inside.ground.filling.1 (count_set c.self.inside.ground.known (length c.args.self.now))
    (λ f. sym f.long ∙ ap length c.self.view_is)
