-- The cases of `lookupswitch`.
-- JVM specification, section 6.5, lookupswitch: the keys rise.
use Rattle.std.specs.Prelude.{ℤ, List, [], ◌∷◌, Bool, true, ◌&&◌}
use Rattle.std.specs.Int.RustNames.{int_lt}
use Rattle.code_forms.specs.declared.insn.Case.{Case}

-- the keys of these cases rise, and the first is above the given key
abbrev pub rises_from : ℤ → List Case → Bool
rises_from key [] = true
rises_from key (c ∷ cs) = int_lt key c.key && rises_from c.key cs

-- the keys of these cases rise: each is above the one before it
abbrev pub is_rising : List Case → Bool
is_rising [] = true
is_rising (c ∷ cs) = rises_from c.key cs
