use Rattle.std.proofs.Common.{◌≡◌, ◌∷◌, [], length, refl, sym, ap, subst, ◌∙◌}
use Rattle.std.specs.Prelude.{Bool, All}
use Rattle.jvm_values.specs.declared.types.Ty.{Ty}
use Rattle.jvm_values.specs.declared.typing.PlaceType.TheVariants as places
use Rattle.jvm_values.specs.States.{PlaceTypes, types_of as seen}
use Rattle.class_program.specs.class_world.Types.{erase}
use Rattle.class_program.specs.class_world.Worlds.{classes_of}
use Rattle.class_program.specs.class_world.WorldTypes.{types_of}
use Rattle.frame_types.specs.Places.{IsOfWorld}
use Rattle.code_verify.specs.Answers.{Comes}
use Rattle.code_verify.specs.Flows.{caught}
use Rattle.code_verify.proofs.WorldOf.{laws_at}
use Rattle.code_verify.proofs.Beginning.{frame_is}
use Rattle.code_verify.proofs.Handlers.{passed, entered, alone_proper, for_all_olds}
use Rattle.code_verify.proofs.flows.enter_handler.Goals as goal

pub returns-then-not-covers-clause-comes : goal.returns-then-not-covers-clause-comes
returns-then-not-covers-clause-comes c = λ old e. passed (classes_of c.args.world.now) (laws_at c.args.world.now) c.args.place old
    c.args.range c.args.table.now (sym c.covers.ensures ∙ c.if-not-covers.true) c.requires.table

pub enter-requires-clause-proper : goal.enter-requires-clause-proper
enter-requires-clause-proper c =
    alone_proper (classes_of c.args.world.now) (laws_at c.args.world.now) c.args.table.now.max_locals c.args.range
    (seen c.put_alone.new.frame) c.requires.catches
    (ap length c.put_alone.ensures.locals ∙ c.requires.count)
    (subst (All (IsOfWorld (types_of (classes_of c.args.world.now)))) (sym c.put_alone.ensures.locals) c.requires.locals)
    (c.in_ok-put_alone.ensures.stack
    ∙ ap (λ (t : Ty). places.Ref t ∷ []) (c.erase.ensures ∙ ap (erase (classes_of c.args.world.now)) c.caught_class.ensures))

pub returns-clause-comes : goal.returns-clause-comes
returns-clause-comes c =
    for_all_olds c.enter.result c.args.frame.now.locals
    (λ (old : PlaceTypes) (ok : Bool). Comes (types_of (classes_of c.args.world.now))
    (caught (classes_of c.args.world.now) c.args.place old (c.args.range ∷ [])) ok c.args.table.now c.enter.new.self)
    (λ old e. entered (classes_of c.args.world.now) (laws_at c.args.world.now) c.enter.result c.args.place old
    (seen c.put_alone.new.frame) c.args.range c.args.table.now c.enter.new.self (sym c.covers.ensures ∙ c.if-not-covers.false)
    (frame_is c.put_alone.new.frame old.locals _ (c.put_alone.ensures.locals ∙ sym e) (c.in_ok-put_alone.ensures.stack
    ∙ ap (λ (t : Ty). places.Ref t ∷ []) (c.erase.ensures ∙ ap (erase (classes_of c.args.world.now)) c.caught_class.ensures)))
    c.enter.ensures)
