use Rattle.std.proofs.Common.{◌≡◌, true, subst, List, ℕ}
use Rattle.std.specs.Prelude.{◌↔◌}
use Rattle.abs_cells.specs.declared.cells.Cell.{Cell}
use Rattle.abs_cells.specs.IdSets.{has_id}
use Rattle.abs_reach.specs.declared.find.Names.TheVariants.{All}
use Rattle.abs_reach.specs.inner.Steps.{IsReachedInside}
use Rattle.abs_reach.proofs.Answering.{rising_of, all_named_of}
use Rattle.abs_reach.proofs.marks.Marks.walk_names.Goals as goal

pub walk_all-requires-clause-rising : goal.walk_all-requires-clause-rising
walk_all-requires-clause-rising g c = rising_of c.args.state.now c.requires c.cells.result.now c.cells.ensures

pub walk_all-requires-clause-there : goal.walk_all-requires-clause-there
walk_all-requires-clause-there g c = all_named_of c.args.state.now c.requires c.cells.result.now c.cells.ensures

pub returns : goal.returns
returns g c id = subst (λ (cs : List (ℕ × Cell)). (has_id c.walk_all.result.met id ≡ true) ↔ IsReachedInside All cs
    c.args.starts.now id) c.cells.ensures (c.walk_all.ensures.met id)
