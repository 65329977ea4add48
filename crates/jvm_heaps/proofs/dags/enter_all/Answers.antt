use Rattle.std.proofs.Common.{sym, ◌∙◌, ◌+◌, List, ap, pos, drop}
use Rattle.jvm_values.specs.declared.heap.Value.TheVariants.{Int}
use Rattle.jvm_heaps.specs.declared.dags.Turn.{Turn}
use Rattle.jvm_heaps.specs.Searches.{all_enter}
use Rattle.jvm_heaps.proofs.DagTurns.{next_enter, last_enter}
use Rattle.jvm_heaps.proofs.dags.enter_all.Goals as goal

pub loop-value-preserved : goal.loop-value-preserved
loop-value-preserved c = ap (λ (ts : List Turn). all_enter (drop (c.loop-value.value-index + 1) c.args.values.now) ts)
    c.in_ok-enter.ensures
    ∙ sym (next_enter c.args.values.now c.loop-value.value-index (Int (pos 0)) c.loop-value.todo.0 c.loop-value-test.true)
    ∙ c.loop-value.invariant

pub returns : goal.returns
returns c = sym (last_enter c.args.values.now c.loop-value.value-index c.loop-value.todo.0 c.loop-value-test.false)
    ∙ c.loop-value.invariant
