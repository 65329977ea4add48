use Rattle.std.proofs.Common.{◌≡◌, ◌+◌, drop}
use Rattle.std.specs.List.{position_or_len}
use Rattle.class_program.specs.Statics.{is_field}
use Rattle.class_program.proofs.statics.static_place.Given as goal

abbrev pub invariant-loop-found : goal.invariant-loop-found
invariant-loop-found l = record {
  count : l.place ≡ l.found-index;
  rest : l.place + position_or_len (is_field l.field) (drop l.found-index l.statics) ≡ position_or_len (is_field l.field) l.statics;
}
