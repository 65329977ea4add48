use Rattle.survey.proofs.Kept.{grows_by}
use Rattle.survey.proofs.reading.read_desc.Goals as goal

pub returns-in-Ok-push_content-clause-grows : goal.returns-in-Ok-push_content-clause-grows
returns-in-Ok-push_content-clause-grows g c = grows_by (g.F.Files.held c.args.files.now c.args.name.now) c.args.descs.now.items
    c.push_content.new.contents.items c.in-Ok.content c.in-Ok.ensures.content c.in-Ok-push_content.ensures
