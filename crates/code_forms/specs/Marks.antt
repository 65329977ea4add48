-- Where the instructions of a code begin (JVM specification, section 4.9.1), and marked places.
use Rattle.std.specs.Prelude.{ℕ, List, map, Bool, false, ◌==◌, slice_index_or}
use Rattle.std.specs.List.{list_any}
use Rattle.code_forms.specs.declared.insn.Insn.{Insn}
use Rattle.code_forms.specs.declared.starts.Starts.{Starts}

-- the places where the instructions of a code begin
abbrev pub starts : List (ℕ × Insn) → List ℕ
starts insns = map (λ x. x.0) insns

-- the place is among these places
abbrev pub stands : List ℕ → ℕ → Bool
stands places place = list_any (λ start. start == place) places

-- the place is marked among the places where instructions begin
abbrev pub marked : Starts → ℕ → Bool
marked s place = slice_index_or s.marks.items place false
