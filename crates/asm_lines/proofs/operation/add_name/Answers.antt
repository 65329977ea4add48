use Rattle.std.proofs.Common.{◌≡◌, ◌∙◌, ◌++◌, ℕ, List, map, ap, sym, subst, append-nil}
use Rattle.std.specs.Prelude.{OnOk}
use Rattle.asm_lines.proofs.Opcodes.{seen, some_named, none_named}
use Rattle.asm_lines.proofs.operation.add_name.Goals as goal

pub returns-in-Some : goal.returns-in-Some
returns-in-Some c =
    subst (λ (more : List (List ℕ × ℕ)). OnOk c.push_name.result
    (map seen c.push_name.new.names ≡ map seen c.args.names.now ++ more))
    (some_named c.args.op c.in-Some.insn c.in-Some.ensures) c.push_name.ensures

pub returns-in-None : goal.returns-in-None
returns-in-None c = sym (append-nil (map seen c.args.names.now))
    ∙ ap (λ (more : List (List ℕ × ℕ)). map seen c.args.names.now ++ more) (none_named c.args.op c.in-None.ensures)
