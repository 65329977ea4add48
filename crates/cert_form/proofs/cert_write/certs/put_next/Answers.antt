use Rattle.std.proofs.Common.{◌∙◌, Bool, List, ◌∷◌, ◌++◌, [], map, ap}
use Rattle.std.proofs.lemmas.List.{map-append}
use Rattle.serde_json.specs.Data.{Data}
use Rattle.serde_json.specs.View.{view}
use Rattle.term_graph.specs.declared.nodes.By.{By}
use Rattle.cert_form.specs.Marks.{marked_by}
use Rattle.cert_form.specs.cert_write.Data.{node, part_of}
use Rattle.cert_form.proofs.cert_write.certs.put_next.Goals as goal

pub returns-clause-next : goal.returns-clause-next
returns-clause-next g c =
    let written : List Data = map view c.args.values.now.items in
    record {
      next = c.in_ok-next.next;
      is_next = c.in_ok-next.ensures.node;
      marked = c.add.ensures ∙ ap (λ (by : By). marked_by c.args.named.now by) c.by.ensures;
      put =
          ap (map view) c.in_ok-push.ensures.ok
          ∙ map-append view c.args.values.now.items (c.in_ok-value.value ∷ [])
          ∙ ap (λ (d : Data). written ++ d ∷ [])
          (c.in_ok-value.ensures ∙ ap (λ (lacks : Bool). node c.args.words.now.names.now (part_of lacks c.in_ok-next.next))
          c.lacks.ensures);
    }
