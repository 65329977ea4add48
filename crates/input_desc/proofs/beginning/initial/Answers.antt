use Rattle.std.proofs.Common.{ℕ, List, sym, subst}
use Rattle.std.specs.Prelude.{All}
use Rattle.class_program.specs.Views.{program_of}
use Rattle.input_desc.specs.Pairs.{IsPairBelow}
use Rattle.input_desc.proofs.GoodDescs.{same_below, share_below}
use Rattle.input_desc.proofs.beginning.initial.Goals as goal

pub add_alike-requires : goal.add_alike-requires
add_alike-requires g c = subst (λ (pairs : List (ℕ × ℕ)). All (IsPairBelow 2048) pairs) (sym c.as_slice-same.ensures)
    (same_below (program_of c.args.program.now) c.args.desc.now c.requires)

pub sharing-requires-clause-same : goal.sharing-requires-clause-same
sharing-requires-clause-same g c = subst (λ (pairs : List (ℕ × ℕ)). All (IsPairBelow 2048) pairs) (sym c.as_slice-same.ensures)
    (same_below (program_of c.args.program.now) c.args.desc.now c.requires)

pub sharing-requires-clause-share : goal.sharing-requires-clause-share
sharing-requires-clause-share g c = subst (λ (pairs : List (ℕ × ℕ)). All (IsPairBelow 2048) pairs) (sym c.as_slice-shared.ensures)
    (share_below (program_of c.args.program.now) c.args.desc.now c.requires)
