use Rattle.std.proofs.Common.{◌≡◌, ◌∷◌, ◌++◌, [], map}
use Rattle.std.proofs.lemmas.Result.{err_from_is_err_and}
use Rattle.std.proofs.lemmas.List.{map_push}
use Rattle.class_read.specs.Reading.{collected}
use Rattle.class_read.specs.FirstFault.{class_index_at}
use Rattle.class_read.proofs.Loop.{collects, ends_collecting, is_done}
use Rattle.class_read.proofs.reading.interface_times.Goals as goal

pub returns-in_err-name : goal.returns-in_err-name
returns-in_err-name c =
    let p = err_from_is_err_and c.from_residual.result c.from_residual.ensures.1 in
    ends_collecting _ _ _ _ (class_index_at c.args.total c.args.pool.now) _ _ _ _ _ p.1 p.2 c.interfaces-test.true
    c.in_err-name.ensures c.interfaces.invariant

pub interfaces-preserved : goal.interfaces-preserved
interfaces-preserved c =
    let longer : map (λ i. i.now) c.push.new.self ≡ map (λ i. i.now) c.interfaces.interfaces ++ c.in_ok-name.name.now ∷ [] = rw
    c.in_ok-push.ensures.items (map_push _ c.interfaces.interfaces c.in_ok-name.name) in
    collects (class_index_at c.args.total c.args.pool.now) _ _ _ _ _ _ _ _ c.interfaces-test.true c.in_ok-name.ensures longer
    c.interfaces.invariant

pub returns : goal.returns
returns c = is_done (collected (class_index_at c.args.total c.args.pool.now)) _ _ _ _ _ c.interfaces-test.false c.interfaces.invariant
