use Rattle.std.proofs.Common.{rules, ◌↔◌}
use Rattle.std.specs.Prelude.{IsTrue}
use Rattle.std.proofs.lemmas.Result.{IfOk-weaker}
use Rattle.class_read.specs.Rules.{WellFormed}
use Rattle.class_read.proofs.RuleLaws.{formed, methods_of}
use Rattle.class_read.proofs.well_formed.parts_hold.Goals as goal

pub returns : goal.returns
returns c =
    IfOk-weaker c.methods_hold.result _ (λ b. IsTrue b ↔ WellFormed c.args.class.now) (λ b methods. (
      λ is.
          formed c.args.pool.now c.args.class.now c.requires.same
          (record {
            minor = search rules;
            major = search rules;
            is_pool = c.requires.rules;
            flags = search rules;
            names = c.names_hold.ensures.0 c.if-not-names_hold.false;
            interfaces = c.interfaces_hold.ensures.0 c.if-not-interfaces_hold.false;
            fields = c.in_ok-fields_hold.ensures.0 c.if-not-branch.false;
            methods = methods.0 is;
            attributes = c.attributes_hold.ensures.0 c.if-not-attributes_hold.false;
          }),
      λ rules. methods.1 (methods_of c.args.pool.now c.args.class.now c.requires.same rules),
    )) c.methods_hold.ensures
