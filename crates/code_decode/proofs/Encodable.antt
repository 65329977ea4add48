-- The instructions of a code can be written.
use Rattle.std.proofs.Common.{◌≡◌, ℕ, suc, ◌+◌, ◌-◌, ◌<◌, ◌^◌, List, [], ◌∷◌, ◌++◌, length, Result, Ok, Err, refl, sym, ap, subst}
use Rattle.std.proofs.Common.{◌∙◌, arith, pos, ◌+ℤ◌}
use Rattle.std.specs.Prelude.{IfOk}
use Rattle.std.specs.Global.{Vec}
use Rattle.std.specs.Int.{w32, to_be_bytes}
use Rattle.std.specs.List.{flat_map, AllByRecursion}
use Rattle.std.proofs.lemmas.List.{length-append}
use Rattle.std.proofs.lemmas.List.Concat.{flat_map-cons}
use Rattle.code_forms.specs.declared.fault.CodeFault.{CodeFault}
use Rattle.code_forms.specs.declared.insn.Insn.{Insn}
use Rattle.code_forms.specs.Spellings.{Spelling, Plain, Byte, Pair, SignedByte, SignedPair, Jump, FarJump, Increment, Table, Lookup}
use Rattle.code_forms.specs.Spellings.{Interface, Array, WideLocal, WideIncrement, spelling}
use Rattle.code_decode.specs.Texts.{padding_of, zeros, signed, distance, case_text, spelling_text, text, Fits}
use Rattle.code_decode.specs.Codes.{Spells, IsReading}
use Rattle.code_decode.specs.Encoding.{plain_text, code_of, ArePlaced, IsCode}
use Rattle.code_decode.proofs.Takes.{length-zeros}

longer : (op : ℕ) (p z rest : List ℕ) → length p ≡ length z → length (op ∷ (p ++ rest)) ≡ length (op ∷ (z ++ rest))
longer op p z rest e = ap suc (length-append p rest ∙ ap (λ (n : ℕ). n + length rest) e ∙ sym (length-append z rest))

-- Only the length of the padding counts.
same_length : (pc : ℕ) (s : Spelling) (p z : List ℕ) → length p ≡ length z → length (spelling_text pc p s) ≡ length (spelling_text pc z s)
same_length pc (Table op default low targets) p z e = longer op p z
    (signed w32 (distance pc default)
    ++ (signed w32 low ++ (signed w32 (low +ℤ pos (length targets - 1)) ++ flat_map (λ target. signed w32 (distance pc target))
    targets))) e
same_length pc (Lookup op default cases) p z e = longer op p z
    (signed w32 (distance pc default) ++ (to_be_bytes w32 (length cases) ++ flat_map (case_text pc) cases)) e
same_length pc (Plain op) p z e = refl
same_length pc (Byte op n) p z e = refl
same_length pc (Pair op n) p z e = refl
same_length pc (SignedByte op v) p z e = refl
same_length pc (SignedPair op v) p z e = refl
same_length pc (Jump op target) p z e = refl
same_length pc (FarJump op target) p z e = refl
same_length pc (Increment op n v) p z e = refl
same_length pc (Interface op n count) p z e = refl
same_length pc (Array op code) p z e = refl
same_length pc (WideLocal op n) p z e = refl
same_length pc (WideIncrement op n v) p z e = refl

plain_length : (pc : ℕ) (padding : List ℕ) (i : Insn) → length padding ≡ padding_of pc
    → length (text pc padding i) ≡ length (plain_text pc i)
plain_length pc padding i e = same_length pc (spelling i) padding (zeros (padding_of pc)) (e ∙ sym (length-zeros (padding_of pc)))

placed : (pc : ℕ) (xs : List (ℕ × Insn)) (bytes : List ℕ) → Spells pc xs bytes → ArePlaced pc xs
placed pc [] bytes h = tt
placed pc (x ∷ xs) bytes h =
    (h.2, subst (λ (k : ℕ). ArePlaced (pc + k) xs) (plain_length pc h.0 x.1 h.3) (placed (pc + length (text pc h.0 x.1)) xs h.1 h.6))

fit : (pc : ℕ) (xs : List (ℕ × Insn)) (bytes : List ℕ) → Spells pc xs bytes → AllByRecursion (λ x. Fits x.0 x.1) xs
fit pc [] bytes h = tt
fit pc (x ∷ xs) bytes h = (subst (λ (k : ℕ). Fits k x.1) (sym h.2) h.4, fit (pc + length (text pc h.0 x.1)) xs h.1 h.6)

long : (pc : ℕ) (xs : List (ℕ × Insn)) (bytes : List ℕ) → Spells pc xs bytes → length (code_of xs) ≡ length bytes
long pc [] bytes h = sym (ap length h)
long pc (x ∷ xs) bytes h =
    let first : length (plain_text x.0 x.1) ≡ length (text pc h.0 x.1) = ap (λ (k : ℕ). length (plain_text k x.1)) h.2
    ∙ sym (plain_length pc h.0 x.1 h.3) in
    let others = long (pc + length (text pc h.0 x.1)) xs h.1 h.6 in
    ap length (flat_map-cons (λ y. plain_text y.0 y.1) x xs) ∙ length-append (plain_text x.0 x.1) (code_of xs)
    ∙ ap (λ (n : ℕ). n + length (code_of xs)) first ∙ ap (λ (n : ℕ). length (text pc h.0 x.1) + n) others
    ∙ sym (length-append (text pc h.0 x.1) h.1) ∙ sym (ap length h.5)

is_code : (code : List ℕ) (xs : List (ℕ × Insn)) → length code < 2 ^ 16 → IsReading code xs → IsCode xs
is_code code xs small h =
    let same = long 0 xs code h.spelled in
    record { placed = placed 0 xs code h.spelled; small = omega (arith, same); fits = fit 0 xs code h.spelled; targets = h.targets }

pub can_be_written : (code : List ℕ) (r : Result (Vec (ℕ × Insn)) CodeFault) → length code < 2 ^ 16
    → IfOk r (λ v. IsReading code v.items) → IfOk r (λ v. IsCode v.items)
can_be_written code (Ok v) small h = is_code code v.items small h
can_be_written code (Err e) small h = tt
