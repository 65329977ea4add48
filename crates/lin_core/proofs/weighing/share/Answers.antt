use Rattle.std.proofs.Common.{◌≡◌, ◌≤◌, ◌*◌, ◌*ℤ◌, ℤ, FitsSigned, to_z, of_z, to_z-of_z, rules}
use Rattle.std.specs.Prelude.{unsigned_abs}
use Rattle.std.specs.Int.{w64}
use Rattle.std.proofs.lemmas.Int.{fits_signed_mul}
use Rattle.lin_core.proofs.Weighs.{share_small, share_fits}
use Rattle.lin_core.proofs.weighing.share.Goals as goal

pub returns-clause-bound : goal.returns-clause-bound
returns-clause-bound c =
    let one : FitsSigned w64 c.args.multiple.now = search rules in
    let other : FitsSigned w64 c.args.weight.now = search rules in
    let both : FitsSigned w64 (c.args.multiple.now *ℤ c.args.weight.now) = share_fits c.args.multiple.now c.args.weight.now
    c.requires.small c.requires.low c.requires.high in
    let a : to_z w64 (of_z w64 c.args.multiple.now) ≡ c.args.multiple.now = to_z-of_z one in
    let b : to_z w64 (of_z w64 c.args.weight.now) ≡ c.args.weight.now = to_z-of_z other in
    let p : to_z w64 (of_z w64 (c.args.multiple.now *ℤ c.args.weight.now)) ≡ c.args.multiple.now *ℤ c.args.weight.now = to_z-of_z both in
    rw (a, b, p) (share_small c.args.multiple.now c.args.weight.now c.requires.low c.requires.high)
