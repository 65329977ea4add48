-- What the rules of every system of rules have in common.
use Rattle.std.specs.Prelude.{ℕ, ◌≡◌, ◌+◌, ◌<◌, ◌≤◌, List, [], length}
use Rattle.std.specs.List.{All}
use Rattle.lin_core.specs.declared.rows.WRow.{WRow}
use Rattle.lin_core.specs.Weights.{AreRows}
use Rattle.descent.specs.declared.rules.PathRule.{PathRule}
use Rattle.its_front.specs.declared.reading.Its.{Its}
use Rattle.its_front.specs.Reading.{slots_of, most_variables, most_rules, most_rows}

-- a row counts no sizes of objects
abbrev pub IsWeightless : WRow → Type 0
IsWeightless row = row.weights ≡ []

-- a rule over `count` variables: its rows are over their values before it and after it, which are its slots
pub record IsSystemRule (count : ℕ) (rule : PathRule) : Type 0 where
  pub vars : rule.vars ≡ count + count
  pub rows : AreRows (count + count) rule.rows
  pub few : length rule.rows ≤ most_rows
  pub weightless : All IsWeightless rule.rows
  pub first : rule.first ≡ slots_of count 0
  pub last : rule.last ≡ slots_of count count

-- rules are those of a system, over so many variables as a text may name, and at most as many rules as a text may have
pub record AreSystemRules (rules : List PathRule) : Type 0 where
  pub count : ℕ
  pub small : count ≤ most_variables
  pub few : length rules ≤ most_rules
  pub each : All (IsSystemRule count) rules

-- the ends of a rule are among so many locations
pub record IsBetween (places : ℕ) (rule : PathRule) : Type 0 where
  pub from : rule.from < places
  pub to : rule.to < places

-- a system of rules: it has at most as many variables and rules as a text may have, its rules are over its variables, and their ends
-- are its locations
pub record IsSystem (its : Its) : Type 0 where
  pub small : length its.vars ≤ most_variables
  pub few : length its.rules ≤ most_rules
  pub each : All (IsSystemRule (length its.vars)) its.rules
  pub ends : All (IsBetween (length its.places)) its.rules
