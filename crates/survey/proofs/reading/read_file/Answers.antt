use Rattle.std.proofs.Common.{subst}
use Rattle.io_ports.specs.Told.{IsContent}
use Rattle.survey.specs.inner.Wording.{IsRead}
use Rattle.survey.proofs.Kept.{grows_by}
use Rattle.survey.proofs.reading.read_file.Goals as goal

pub returns-in-Ok-clause-grows : goal.returns-in-Ok-clause-grows
returns-in-Ok-clause-grows g c =
    let told = g.F.Files.held c.args.files.now c.args.name.now in
    grows_by told c.args.kept.now.files.items c.keep.new.kept.files.items c.in-Ok-Content.content
    (subst (IsRead (IsContent told)) c.in-Ok-Content.field-0-is c.in-Ok-Content.ensures.content) c.in-Ok.ensures
