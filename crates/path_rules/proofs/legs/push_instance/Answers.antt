use Rattle.path_rules.proofs.EdgeRows.{rows_instance}
use Rattle.path_rules.proofs.legs.push_instance.Goals as goal

pub returns : goal.returns
returns g c =
    rows_instance c.args.stop.now.first c.args.stop.now.node.state c.args.entries.now c.args.target.now.first
    c.args.target.now.node.state c.args.rows.now c.push_images.new.rows c.push_image_sizes.new.rows c.push_image_sizes.result
    c.requires.rising c.in_ok-push_images.ensures c.push_image_sizes.ensures
