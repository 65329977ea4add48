use Rattle.std.proofs.Common.{ltb, rules, of_calls}
use Rattle.std.proofs.lemmas.List.Sorted.{IsPartitionPoint-from_clause, IsPartitionedBy-ltb}
use Rattle.class_program.proofs.Places.{placed_rises, places_rise, found_there}
use Rattle.class_program.proofs.insns.count_before.Goals as goal

pub returns : goal.returns
returns c =
    let rises = placed_rises c.args.insns.now c.requires in
    let parted = IsPartitionedBy-ltb (λ x. x.0) c.args.insns.now c.args.pc (places_rise 0 c.args.insns.now rises) in
    let point = IsPartitionPoint-from_clause (λ x. ltb x.0 c.args.pc) _ _ c.partition_point.ensures.partitioned parted
    (λ a r q k. search (rules, of_calls)) in
    found_there c.args.pc 0 c.args.insns.now c.partition_point.result rises c.partition_point.ensures.bound point
