-- The cases of a `lookupswitch`, as a loop reads them.
use Rattle.std.proofs.Common.{◌≡◌, ℕ, List, [], ◌∷◌, ◌++◌, Ok, Err, refl, sym, ap, ◌∙◌, append_assoc}
use Rattle.std.proofs.lemmas.List.{append-nil}
use Rattle.asm_lines.specs.declared.fault.AsmFault.{AsmFault}
use Rattle.asm_lines.specs.declared.number.Number.{Number}
use Rattle.list_views.specs.Results.{◌>>=◌}
use Rattle.asm_lines.specs.Statements.{Said, Words, next_word, number_word}
use Rattle.asm_lines.specs.Operations.{cases_of}

abbrev pub Cases : Type 0
Cases = List (Number × List ℕ)

-- what was read before, and what is still read
abbrev pub with_front : Cases → Said Cases → Said Cases
with_front front said = said >>= λ cases. Ok (front ++ cases)

regroup : (front : Cases) (x : Number × List ℕ) (said : Said Cases)
    → with_front front (said >>= λ cases. Ok (x ∷ cases)) ≡ with_front (front ++ x ∷ []) said
regroup front x (Ok cases) = ap (λ (cs : Cases). Ok cs) (sym (append_assoc front (x ∷ []) cases))
regroup front x (Err fault) = refl

abbrev pub case_with : ℕ → List ℕ → Words → Said Number → Said Cases
case_with line label words read = read >>= λ n. cases_of line words >>= λ cases. Ok ((n, label) ∷ cases)

pub begins : (said : Said Cases) → with_front [] said ≡ said
begins (Ok cases) = refl
begins (Err fault) = refl

pub goes : (line : ℕ) (front : Cases) (key label : List ℕ) (words : Words) (n : Number) → number_word line key ≡ Ok n
    → with_front front (cases_of line (key ∷ label ∷ words)) ≡ with_front (front ++ (n, label) ∷ []) (cases_of line words)
goes line front key label words n h = ap (λ (r : Said Number). with_front front (case_with line label words r)) h
    ∙ regroup front (n, label) (cases_of line words)

pub no_number : (line : ℕ) (front : Cases) (key label : List ℕ) (words : Words) (fault : AsmFault)
    → number_word line key ≡ Err fault → with_front front (cases_of line (key ∷ label ∷ words)) ≡ Err fault
no_number line front key label words fault h = ap (λ (r : Said Number). with_front front (case_with line label words r)) h

pub no_label : (line : ℕ) (front : Cases) (key : List ℕ) (words : Words) (fault : AsmFault) → next_word line words ≡ Err fault
    → with_front front (cases_of line (key ∷ words)) ≡ Err fault
no_label line front key [] fault h = let e : next_word line [] ≡ Err fault = h in cc
no_label line front key (w ∷ words) fault h = absurd cc

pub done : (line : ℕ) (front : Cases) → with_front front (cases_of line []) ≡ Ok front
done line front = ap (λ (cs : Cases). Ok cs) (append-nil front)

abbrev answered : List ℕ × Words → Said (List ℕ × Words)
answered x = Ok x

ok_is : (x y : List ℕ × Words) → answered x ≡ answered y → x ≡ y
ok_is x y h = cc

pub step : (line : ℕ) (front : Cases) (rest : Words) (key : List ℕ) (after : Words) (label : List ℕ) (after2 : Words) (n : Number)
    (copied : List ℕ) (whole : Said Cases)
    → rest ≡ key ∷ after → next_word line after ≡ Ok (label, after2) → number_word line key ≡ Ok n → copied ≡ label
    → with_front front (cases_of line rest) ≡ whole → with_front (front ++ (n, copied) ∷ []) (cases_of line after2) ≡ whole
step line front rest key [] label after2 n copied whole r w num c h = absurd cc
step line front rest key (x ∷ xs) label after2 n copied whole r w num c h =
    let p = ok_is (x, xs) (label, after2) w in
    let l : x ≡ label = ap (λ (q : List ℕ × Words). q.0) p in
    let a : xs ≡ after2 = ap (λ (q : List ℕ × Words). q.1) p in
    ap (λ (t : List ℕ). with_front (front ++ (n, t) ∷ []) (cases_of line after2)) (c ∙ sym l)
    ∙ ap (λ (ws : Words). with_front (front ++ (n, x) ∷ []) (cases_of line ws)) (sym a)
    ∙ sym (goes line front key x xs n num)
    ∙ ap (λ (ws : Words). with_front front (cases_of line ws)) (sym r)
    ∙ h
