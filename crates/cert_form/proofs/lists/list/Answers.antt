use Rattle.json_view.specs.Located.{located}
use Rattle.json_view.specs.Reading.{items_of}
use Rattle.cert_form.proofs.Entries.{no_list, count_is}
use Rattle.cert_form.proofs.lists.list.Goals as goal

pub entries-requires : goal.entries-requires
entries-requires g c = record {
  list = count_is (items_of (located c.args.view.now)) c.in-Ok.count c.in-Ok.ensures.answer;
  count =
      c.in-Ok.ensures.count;
}

pub returns-in-Err : goal.returns-in-Err
returns-in-Err g c = no_list (g.T.Said.reader c.args.context.now) (located c.args.view.now) c.in-Err.fault c.in-Err.ensures.answer
