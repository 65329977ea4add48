-- What of the rules of a graph's paths the text of a proof depends on.
use Rattle.std.specs.Prelude.{◌≤◌, ◌<◌, List, All, length}
use Rattle.descent.specs.declared.rules.PathRule.{PathRule}
use Rattle.descent.specs.declared.rules.SlotForm.{SlotForm}

-- the ids of slots are below 2,048
abbrev pub AreLow : List SlotForm → Type 0
AreLow slots = All (λ (slot : SlotForm). slot.id < 2048) slots

-- a rule keeps what the text of a proof depends on: its cuts are numbers of 32 bits, the ids at both of its ends are below 2,048, and it
-- has at most 65,536 rows
pub record IsReadableRule (rule : PathRule) : Type 0 where
  pub from : rule.from ≤ 4294967295
  pub to : rule.to ≤ 4294967295
  pub first : AreLow rule.first
  pub last : AreLow rule.last
  pub rows : length rule.rows ≤ 65536

-- there are at most 4,096 rules, and each keeps what the text of a proof depends on
pub record AreReadableRules (rules : List PathRule) : Type 0 where
  pub few : length rules ≤ 4096
  pub each : All IsReadableRule rules
