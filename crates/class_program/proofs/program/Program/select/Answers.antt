use Rattle.std.proofs.Common.{◌≡◌, true, subst, List}
use Rattle.class_world.specs.declared.world.MethodRef.{MethodRef}
use Rattle.class_world.specs.Worlds.{classes_of}
use Rattle.class_program.specs.declared.selected.Selected.TheVariants.{Abstract}
use Rattle.class_program.specs.Reached.{is_closed}
use Rattle.class_program.specs.Views.{program_of}
use Rattle.class_program.proofs.Closed.{place_answered, place_within, never_none}
use Rattle.class_program.proofs.program.Program.select.Goals as goal

pub selected_at-requires : goal.selected_at-requires
selected_at-requires c = place_within (program_of c.args.self.now) c.args.method c.args.pc c.args.class c.requires

pub returns-in-None : goal.returns-in-None
returns-in-None c =
    let p = c.args.self.now in
    let whole = subst (λ (refs : List MethodRef). is_closed (classes_of p.world) refs p.methods ≡ true) p.numbers p.whole in
    never_none _ _ Abstract c.selected_at.ensures c.in-None.is
    (place_answered (program_of p) c.args.method c.args.pc c.args.class whole c.requires)
