-- Reading values one after the other, as a loop does.
use Rattle.std.proofs.Common.{◌≡◌, ℕ, suc, ◌-◌, ◌+◌, ◌≤◌, ◌<◌, List, [], ◌∷◌, ◌++◌, Result, Ok, Err, refl, sym, ap, ◌∙◌}
use Rattle.std.proofs.Common.{append_assoc, arith}
use Rattle.std.proofs.lemmas.List.{append-nil}
use Rattle.code_forms.specs.declared.fault.CodeFault.{CodeFault}
use Rattle.code_forms.proofs.list_views.Steps.{handed_on}
use Rattle.code_forms.specs.Faults.{is_memory, Fails}
use Rattle.code_decode.specs.Reading.{◌>>=◌, repeat_at}

-- what was read before, and what is still read
abbrev pub with_front : {A : Type 0} → List A → Result (List A × List ℕ) CodeFault → Result (List A × List ℕ) CodeFault
with_front front read = read >>= λ x. Ok (front ++ x.0, x.1)

regroup : {A : Type 0} (front : List A) (n : A) (read : Result (List A × List ℕ) CodeFault)
    → with_front front (read >>= λ x. Ok (n ∷ x.0, x.1)) ≡ with_front (front ++ n ∷ []) read
regroup {A} front n (Ok x) = ap (λ (ns : List A). Ok (ns, x.1)) (simp append_assoc)
regroup front n (Err f) = refl

pub goes_on : {A : Type 0} (read : List ℕ → Result (A × List ℕ) CodeFault) (front : List A) (count i : ℕ) (bytes : List ℕ) (n : A)
    (after : List ℕ) (total : Result (List A × List ℕ) CodeFault) → i < count → read bytes ≡ Ok (n, after)
    → with_front front (repeat_at read (count - i) bytes) ≡ total
    → with_front (front ++ n ∷ []) (repeat_at read (count - (i + 1)) after) ≡ total
unfolding repeat_at
goes_on read front count i bytes n after total lt h so_far =
    let k : count - i ≡ suc (count - (i + 1)) = omega arith in
    let one : with_front front (repeat_at read (count - i) bytes) ≡ with_front (front ++ n ∷ [])
    (repeat_at read (count - (i + 1)) after) = rw (k, h) (regroup front n (repeat_at read (count - (i + 1)) after)) in
    sym one ∙ so_far

pub ends : {A : Type 0} (e : CodeFault) (read : List ℕ → Result (A × List ℕ) CodeFault) (front : List A) (count i : ℕ)
    (bytes : List ℕ) (total : Result (List A × List ℕ) CodeFault) → i < count → Fails e (read bytes)
    → with_front front (repeat_at read (count - i) bytes) ≡ total → Fails e total
unfolding repeat_at
ends {A} e read front count i bytes total lt h so_far =
    let k : count - i ≡ suc (count - (i + 1)) = omega arith in
    let one : (f : CodeFault) → read bytes ≡ Err f → total ≡ Err f = λ f g. sym so_far ∙ rw (k, g) refl in
    handed_on is_memory e (read bytes) total (one e) h

pub is_done : {A : Type 0} (read : List ℕ → Result (A × List ℕ) CodeFault) (front : List A) (count i : ℕ) (bytes : List ℕ)
    (total : Result (List A × List ℕ) CodeFault) → count ≤ i → with_front front (repeat_at read (count - i) bytes) ≡ total
    → total ≡ Ok (front, bytes)
unfolding repeat_at
is_done {A} read front count i bytes total le so_far =
    let k : count - i ≡ 0 = omega arith in
    let one : with_front front (repeat_at read (count - i) bytes) ≡ Ok (front, bytes) = rw k
    (ap (λ (ns : List A). Ok (ns, bytes)) (append-nil front)) in
    sym so_far ∙ one
