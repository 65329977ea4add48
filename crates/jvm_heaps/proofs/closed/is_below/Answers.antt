use Rattle.std.proofs.Common.{◌≡◌, ℕ, ◌<◌, Some, sym, ap, subst, ◌∙◌}
use Rattle.std.proofs.lemmas.Bool.{ltb-true, lt-ltb}
use Rattle.jvm_values.specs.Heaps.{target}
use Rattle.jvm_values.proofs.Options.{some_is}
use Rattle.jvm_heaps.proofs.closed.is_below.Goals as goal

pub returns-in-Ref : goal.returns-in-Ref
returns-in-Ref c =
    let names : target c.args.value ≡ Some c.in-Ref.object = ap target c.in-Ref.is in (
      λ e a s. subst (λ (x : ℕ). x < c.args.count) (some_is (sym names ∙ s)) (ltb-true c.in-Ref.object c.args.count e),
      λ h. lt-ltb
          c.in-Ref.object c.args.count (h c.in-Ref.object names),
    )
