use Rattle.class_asm.proofs.Entered.{entries_seen}
use Rattle.class_asm.proofs.asm_pool.pool.Firsts.with_numbers.Goals as goal

-- src/pool.rt:116:5
pub returns : goal.returns
returns c = rw (← c.self.view_is) (entries_seen c.self.inside.lines.entries c.args.numbers)
