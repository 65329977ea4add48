-- One more opcode.
use Rattle.std.proofs.Common.{◌≡◌, ℕ, ◌+◌, List, [], ◌∷◌, ◌++◌, map, Option, Some, None, Bor, refl, ap, add-one}
use Rattle.std.proofs.lemmas.List.{map-append}
use Rattle.std.specs.Option.{option_map_or}
use Rattle.code_forms.specs.declared.insn.Insn.{Insn}
use Rattle.code_decode.specs.Names.{name_of}
use Rattle.asm_lines.specs.Operations.{template, named, names_below}

pub names_more : (op : ℕ) → names_below (op + 1) ≡ names_below op ++ named op
names_more op = rw add-one refl

abbrev pub seen : Bor (List ℕ) × ℕ → List ℕ × ℕ
seen e = (e.0.now, e.1)

pub one_name : (names : List (Bor (List ℕ) × ℕ)) (e : Bor (List ℕ) × ℕ)
    → map seen (names ++ e ∷ []) ≡ map seen names ++ (e.0.now, e.1) ∷ []
one_name names e = map-append seen names (e ∷ [])

-- the names that an opcode adds, with and without an instruction
abbrev of_found : ℕ → Option Insn → List (List ℕ × ℕ)
of_found op found = option_map_or (λ (insn : Insn). (name_of insn, op) ∷ []) found []

pub some_named : (op : ℕ) (insn : Insn) → Some insn ≡ template op → (name_of insn, op) ∷ [] ≡ named op
some_named op insn e = ap (of_found op) e

pub none_named : (op : ℕ) → None ≡ template op → [] ≡ named op
none_named op e = ap (of_found op) e
