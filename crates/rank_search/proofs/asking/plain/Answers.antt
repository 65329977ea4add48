use Rattle.rank_search.proofs.asking.plain.Goals as goal

pub told_form-requires : goal.told_form-requires
told_form-requires c = record { rules = c.requires.rules.paths.limits }
