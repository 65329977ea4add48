use Rattle.std.proofs.Common.{◌≡◌, ◌++◌, length, map, string_bytes}
use Rattle.survey.specs.Words.{behind_descs, descs_in}
use Rattle.survey.proofs.words.described.Given as goal

-- the descriptions so far, and those behind them
abbrev pub invariant-loop-name : goal.invariant-loop-name
invariant-loop-name l = record {
  descs : map (λ name. name.now) l.descs.items ++ descs_in (map string_bytes l.rest) ≡ descs_in (map string_bytes l.words);
  behind : behind_descs (map string_bytes l.rest) ≡ behind_descs (map string_bytes l.words);
}

abbrev pub decreases-loop-name : goal.decreases-loop-name
decreases-loop-name l = length l.rest
