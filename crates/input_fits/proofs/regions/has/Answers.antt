use Rattle.std.proofs.Common.{sym, subst, Bool, true, ◌≡◌}
use Rattle.std.specs.Prelude.{Contains, ◌↔◌}
use Rattle.input_fits.proofs.Rising.{searched_is}
use Rattle.input_fits.proofs.regions.has.Goals as goal

pub returns : goal.returns
returns c = subst (λ (b : Bool). (b ≡ true) ↔ Contains c.args.numbers.now c.args.number) (sym c.is_ok.ensures.value)
    (searched_is c.args.numbers.now c.args.number c.binary_search.result c.requires c.binary_search.ensures.position)
