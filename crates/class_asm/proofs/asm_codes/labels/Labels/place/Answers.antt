use Rattle.std.proofs.Common.{◌∙◌, sym}
use Rattle.std.specs.Str.{bytes_eq}
use Rattle.class_asm.proofs.FoundLabels.{lookup-map}
use Rattle.class_asm.proofs.asm_codes.labels.Labels.place.Goals as goal

pub returns-in-Some : goal.returns-in-Some
returns-in-Some c = rw (← c.self.view_is)
    (c.in-Some.ensures.value ∙ sym (lookup-map (λ k. k.now) (bytes_eq c.args.label.now) c.self.inside.places.entries))

pub returns-in-None : goal.returns-in-None
returns-in-None c = rw (← c.self.view_is)
    (c.in-None.ensures.value ∙ sym (lookup-map (λ k. k.now) (bytes_eq c.args.label.now) c.self.inside.places.entries))
