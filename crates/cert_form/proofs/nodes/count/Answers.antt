use Rattle.std.proofs.Common.{◌≤◌, arith}
use Rattle.std.proofs.lemmas.Bool.Decides.{nat_tests}
use Rattle.json_view.specs.Located.{located}
use Rattle.cert_form.proofs.Known.{counted_is}
use Rattle.cert_form.proofs.nodes.count.Goals as goal

pub returns-in-Ok : goal.returns-in-Ok
returns-in-Ok c =
    let few : c.in_ok-count.count ≤ 20000 = grind (arith, nat_tests) in
    counted_is c.args.names.now c.args.second (located c.args.view.now) c.in_ok-count.count tt c.in_ok-count.ensures.answer few
    c.in_ok-count.ensures.count c.in-Ok.ensures
