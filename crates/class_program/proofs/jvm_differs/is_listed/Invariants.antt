use Rattle.std.proofs.Common.{◌≡◌, ◌&&◌, drop}
use Rattle.std.specs.List.{list_any}
use Rattle.std.specs.Str.{bytes_eq}
use Rattle.class_program.proofs.jvm_differs.is_listed.Given as goal

abbrev pub invariant-loop-method : goal.invariant-loop-method
invariant-loop-method l = list_any (λ m. bytes_eq l.name m.0.now && bytes_eq l.desc m.1.now) (drop l.method-index l.methods)
    ≡ list_any (λ m. bytes_eq l.name m.0.now && bytes_eq l.desc m.1.now) l.methods
