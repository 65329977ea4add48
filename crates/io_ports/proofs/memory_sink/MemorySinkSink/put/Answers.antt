use Rattle.std.proofs.Common.{◌≡◌, ◌≤◌, ◌-◌, ◌++◌, length, take, arith, rules}
use Rattle.io_ports.proofs.memory_sink.MemorySinkSink.put.Goals as goal

-- the prefix is what there is room for
pub returns-then-bytes-left-clause-prefix : goal.returns-then-bytes-left-clause-prefix
returns-then-bytes-left-clause-prefix c =
    let left = c.self.inside.room - c.len.result in
    let shorter : left ≤ length c.args.bytes.now = omega arith in
    let appended : c.extend_from_slice.new.self.items ≡ c.args.self.now.taken ++ take left c.args.bytes.now = search rules in
    (left, shorter, appended)
