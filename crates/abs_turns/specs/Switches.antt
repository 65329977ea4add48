-- The numbers of a switch's operand: keys rising, with the gaps before, between and after them, which lead to the default.
use Rattle.std.specs.Prelude.{ℕ, ℤ, pos, ◌+ℤ◌, ◌-ℤ◌, List, [], ◌∷◌, map, Option, Some}
use Rattle.abs_cells.specs.lin_core.Intervals.{Bounds, interval_of}
use Rattle.jvm_step.specs.code_forms.declared.insn.Case.{Case}
use Rattle.abs_ints.specs.IntIntervals.{all_ints, just}

-- the keys of a tableswitch, which follow one another from the lowest on, each with its target (JVM specification 6.5.tableswitch)
abbrev pub table_keys : ℤ → List ℕ → List (ℤ × ℕ)
table_keys low [] = []
table_keys low (target ∷ targets) = (low, target) ∷ table_keys (low +ℤ pos 1) targets

-- the keys of a lookupswitch, each with its target (JVM specification 6.5.lookupswitch)
abbrev pub lookup_keys : List Case → List (ℤ × ℕ)
lookup_keys cases = map (λ (c : Case). (c.key, c.target)) cases

-- the ints from a number on, cut at rising keys: each key leads to its target, and the gap before it and the numbers after the last key
-- lead to the default; a gap may be empty
abbrev pub parts_from : ℤ → ℕ → List (ℤ × ℕ) → List (Option Bounds × ℕ)
parts_from low default [] = (interval_of low all_ints.hi, default) ∷ []
parts_from low default (key ∷ keys) = (interval_of low (key.0 -ℤ pos 1), default) ∷ (Some (just key.0), key.1) ∷ parts_from
    (key.0 +ℤ pos 1) default keys

-- all ints, cut at the keys of a switch, each part with the place that it leads to
abbrev pub parts_of : ℕ → List (ℤ × ℕ) → List (Option Bounds × ℕ)
parts_of default keys = parts_from all_ints.lo default keys
