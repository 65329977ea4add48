-- The places of labels, line by line.
use Rattle.std.proofs.Common.{◌≡◌, ◌<◌, ◌≤◌, ◌+◌, ℕ, Bool, cond, true, false, List, [], ◌∷◌, Option, Some, None, length, drop}
use Rattle.std.proofs.Common.{get_or, refl, sym, ap, ◌∙◌, add-one, arith}
use Rattle.std.proofs.lemmas.Grind.{common_steps}
use Rattle.std.proofs.Math.Path.{fun_ext}
use Rattle.std.proofs.Math.Seq.{drop-cons}
use Rattle.std.specs.Option.{option_or, option_map_or}
use Rattle.std.specs.Str.{bytes_eq}
use Rattle.class_asm.proofs.FirstFaults.{next_line}
use Rattle.list_views.proofs.Options.{or_none}
use Rattle.class_asm.specs.asm_codes.Pooled.{Pooled}
use Rattle.class_asm.specs.asm_codes.Instructions.{Places}
use Rattle.class_asm.specs.asm_codes.Places.{size_at, place_from, with_mark}

-- the places of the first, and where they have none of the second
abbrev pub followed : Places → Places → Places
followed first second label = option_or (first label) (second label)

chosen_place : (o : Option ℕ) (b : Bool) (pc : ℕ) (rest : Option ℕ)
    → option_or (option_or o (cond b (Some pc) None)) rest ≡ option_or o (cond b (Some pc) rest)
chosen_place None true pc rest = refl
chosen_place None false pc rest = refl
chosen_place (Some p) b pc rest = refl

-- one more line's label
marked : (places : Places) (label : Option (List ℕ)) (pc : ℕ) (rest : Places) (other : List ℕ)
    → followed (with_mark places label pc) rest other ≡ option_or (places other)
    (cond (option_map_or (bytes_eq other) label false) (Some pc) (rest other))
marked places None pc rest other = refl
marked places (Some label) pc rest other = chosen_place (places other) (bytes_eq other label) pc (rest other)

pub one_more : (places new : Places) (pc n i : ℕ) (lines : List Pooled) (x : Pooled) → i < length lines → x ≡ get_or lines i x
    → new ≡ with_mark places x.code.label pc → n ≡ size_at pc x
    → followed new (place_from (pc + n) (drop (i + 1) lines)) ≡ followed places (place_from pc (drop i lines))
one_more places new pc n i lines x l at e s =
    let xs = drop (i + 1) lines in
    ap (λ (p : Places). followed p (place_from (pc + n) xs)) e
    ∙ ap (λ (k : ℕ). followed (with_mark places x.code.label pc) (place_from (pc + k) xs)) s
    ∙ fun_ext (λ other. marked places x.code.label pc (place_from (pc + size_at pc x) xs) other)
    ∙ ap (λ (ls : List Pooled). followed places (place_from pc ls)) (sym (next_line lines i x l at))

pub all_marked : (places all : Places) (pc i : ℕ) (lines : List Pooled) → length lines ≤ i
    → followed places (place_from pc (drop i lines)) ≡ all → places ≡ all
all_marked places all pc i lines l h =
    let none : drop i lines ≡ [] = grind (arith, common_steps) in
    sym (ap (λ (ls : List Pooled). followed places (place_from pc ls)) none ∙ fun_ext (λ label. or_none (places label))) ∙ h
