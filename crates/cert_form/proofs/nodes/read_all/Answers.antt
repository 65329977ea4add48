use Rattle.std.proofs.Common.{◌≡◌, ◌∙◌, ℕ, ap, subst, arith}
use Rattle.json_view.specs.Located.{located}
use Rattle.term_graph.specs.Graphs.{GraphPart}
use Rattle.cert_form.specs.Marks.{marked_by}
use Rattle.cert_form.proofs.ReadingNodes.{AreRead, none_read, read_on, read_stops, all_read}
use Rattle.cert_form.proofs.nodes.read_all.Goals as goal

pub loop-n-init : goal.loop-n-init
loop-n-init c = none_read c.args.names.now c.args.second (located c.args.view.now) c.args.count c.in_ok-named.named c.requires.list
    c.in_ok-named.ensures

pub returns-in-Err : goal.returns-in-Err
returns-in-Err c = read_stops c.args.names.now c.args.second (located c.args.view.now) (located c.item.result) c.loop-n.n
    c.args.count c.loop-n.named c.lacks.result c.in-Err.fault c.loop-n.invariant c.loop-n-test.true c.item.ensures c.lacks.ensures
    c.in-Err.ensures

pub loop-n-preserved : goal.loop-n-preserved
loop-n-preserved c =
    read_on c.args.names.now c.args.second (located c.args.view.now) (located c.item.result) c.loop-n.n c.args.count c.loop-n.named
    c.add.new.self c.lacks.result c.in-Ok.node c.loop-n.invariant c.loop-n-test.true c.item.ensures c.lacks.ensures c.in-Ok.ensures
    (c.add.ensures ∙ ap (λ (p : GraphPart). marked_by c.loop-n.named p.by) c.node-in-Ok.view_is)

pub returns : goal.returns
returns c =
    let k : c.loop-n.n ≡ c.args.count = omega arith in
    all_read c.args.names.now c.args.second (located c.args.view.now) c.args.count c.loop-n.named
    (subst (λ (m : ℕ). AreRead c.args.names.now c.args.second (located c.args.view.now) m c.args.count c.loop-n.named) k
    c.loop-n.invariant) c.requires.count
