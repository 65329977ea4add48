use Rattle.std.proofs.Common.{◌≡◌, true, sym, ◌∙◌, subst, List}
use Rattle.std.specs.List.{list_all}
use Rattle.class_world.specs.declared.world.MethodRef.{MethodRef}
use Rattle.class_world.specs.Resolve.{has_body}
use Rattle.class_world.specs.Worlds.{classes_of}
use Rattle.class_program.specs.Programs.{IsClosed}
use Rattle.class_program.specs.Reached.{is_closed}
use Rattle.class_program.specs.Views.{program_of}
use Rattle.class_program.proofs.GoodPrograms.{good_program}
use Rattle.class_program.proofs.program.Program.is_good.Goals as goal

pub returns : goal.returns
returns c =
    let p = c.args.self.now in
    let closed : IsClosed (program_of p) = record {
      known = p.world.known;
      made = p.made;
      reaches = sym p.numbers ∙ p.reaches;
      bodies = subst (λ (refs : List MethodRef). list_all (has_body (classes_of p.world)) refs ≡ true) p.numbers p.bodies;
      statics = p.found;
      few = p.few;
      whole = subst (λ (refs : List MethodRef). is_closed (classes_of p.world) refs p.methods ≡ true) p.numbers p.whole;
    } in
    record { closed = closed; good = good_program (program_of p) closed; widths = p.widths }
