-- The limits of what stands in a text of a bound.
use Rattle.std.specs.Prelude.{ℕ, ℤ, ◌<◌, ◌≤◌, ◌^◌, List, length, unsigned_abs}
use Rattle.std.specs.List.{All}
use Rattle.descent.specs.declared.proof.CutForm.{CutForm}
use Rattle.bound_text.specs.declared.texts.BoundRule.{BoundRule}
use Rattle.bound_text.specs.declared.texts.BoundEntry.{BoundEntry}

-- a multiple of an id is within the limits: the id is below 65,536, and the multiple at most 2^31 in size
pub record IsLimitedMultiple (entry : ℕ × ℤ) : Type 0 where
  pub id : entry.0 < 65536
  pub size : unsigned_abs entry.1 ≤ 2 ^ 31

-- a form is within the limits: its constant is at most 2^40 in size, and so are its multiples within theirs
pub record IsLimitedForm (form : CutForm) : Type 0 where
  pub constant : unsigned_abs form.constant ≤ 2 ^ 40
  pub ints : All IsLimitedMultiple form.ints
  pub sizes : All IsLimitedMultiple form.sizes

-- a rule of an entry has at most 65,536 multipliers
abbrev pub HasFewRows : BoundRule → Type 0
HasFewRows rule = length rule.fall ≤ 65536

-- an entry is within the limits: each of its forms is, and each of its rules has at most 65,536 multipliers
pub record IsLimitedEntry (entry : BoundEntry) : Type 0 where
  pub forms : All IsLimitedForm entry.forms
  pub rules : All HasFewRows entry.rules

-- all entries of a bound's text are within the limits
abbrev pub AreLimited : List BoundEntry → Type 0
AreLimited entries = All IsLimitedEntry entries
