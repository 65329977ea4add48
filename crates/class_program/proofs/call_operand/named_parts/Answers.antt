use Rattle.std.proofs.Common.{sym, subst, Result}
use Rattle.class_world.specs.Worlds.{classes_of}
use Rattle.class_program.specs.declared.refusal.Refusal.{Refusal}
use Rattle.jvm_values.specs.declared.types.Ty.{Ty}
use Rattle.class_program.specs.declared.signature.Signature.{Signature}
use Rattle.class_program.specs.inner.Reads.{member_seen}
use Rattle.class_program.specs.Refusals.{Gives}
use Rattle.class_program.specs.Ops.{named_parts}
use Rattle.class_program.proofs.Refused.{together_gives}
use Rattle.class_program.proofs.call_operand.named_parts.Goals as goal

pub returns : goal.returns
returns c =
    subst (λ (r : Result (Ty × Signature) Refusal). Gives (λ x. x) r
    (named_parts (classes_of c.args.world.now) (member_seen c.args.names))) (sym c.together.ensures)
    (together_gives _ _ _ _ c.type_named.ensures c.signature_of.ensures)
