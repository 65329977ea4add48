-- What reading an instruction takes from the bytes.
use Rattle.std.proofs.Common.{◌≡◌, ℕ, zero, suc, ◌+◌, ◌-◌, ◌^◌, ◌<◌, ◌≤◌, Bool, true, false, cond, eqb, ltb, List, [], ◌∷◌, ◌++◌}
use Rattle.std.proofs.Common.{length, take, drop, map, Option, Some, None, Result, Ok, Err, refl, sym, ap, subst, ◌∙◌, arith, ℤ}
use Rattle.std.proofs.Common.{pos, ◌+ℤ◌, ◌-ℤ◌, ◌⊎◌, inl, inr}
use Rattle.std.specs.Prelude.{◌&&◌}
use Rattle.std.specs.Int.{w8, w16, w32, to_be_bytes, cast_signed, cast_unsigned}
use Rattle.std.specs.Int.RustNames.{FitsSigned, int_lt, unsigned_abs}
use Rattle.std.specs.List.{flat_map, AllByRecursion}
use Rattle.std.proofs.lemmas.Bool.{eqb-true, ltb-false, ltb-true, and_parts}
use Rattle.std.proofs.lemmas.Int.{ints, of_z-to_z}
use Rattle.std.proofs.lemmas.List.{take-append-drop, length-take}
use Rattle.std.proofs.lemmas.List.Concat.{flat_map-cons}
use Rattle.code_forms.proofs.list_views.Options.{cond_either}
use Rattle.code_forms.specs.declared.fault.CodeFault.{CodeFault}
use Rattle.code_forms.specs.declared.fault.CodeFault.TheVariants.{Truncated, BadSwitch, BadOperand}
use Rattle.code_forms.specs.declared.insn.Case.{Case}
use Rattle.code_forms.specs.declared.insn.Insn.{Insn}
use Rattle.code_forms.specs.declared.insn.Insn.TheVariants as insns
use Rattle.code_forms.specs.Spellings.{Spelling, Plain, Byte, Pair, SignedByte, SignedPair, Jump, FarJump, Increment, Table, Lookup}
use Rattle.code_forms.specs.Spellings.{Interface, Array, WideLocal, WideIncrement, spelling}
use Rattle.code_forms.specs.Cases.{is_rising}
use Rattle.code_decode.specs.Texts.{signed, distance, padding_of, case_text, spelling_text, Reaches, FitsSpelling, zeros}
use Rattle.code_forms.specs.Opcodes.{opcode_of, find_by, wide_local}
use Rattle.code_decode.specs.Reading.{◌>>=◌, byte_at, number_at, signed_at, target_at, skip_at, repeat_at, case_at}
use Rattle.code_decode.specs.Reading.{table_targets_at, table_at, counted_cases_at, lookup_at, interface_at, array_at}
use Rattle.code_decode.specs.Reading.{wide_increment_at, wide_operand_at, wide_at, increment_at, signed_byte_at, sipush_at}
use Rattle.code_decode.specs.Reading.{far_jump_at, byte_operand_at, pair_operand_at, jump_operand_at}
use Rattle.code_decode.specs.Codes.{spelling_targets}
use Rattle.code_decode.proofs.Fields.{IsBytes, IsBytes-drop, bind_ok, guard_ok, guarded, ok_is, Takes, Takes-then, byte_takes}
use Rattle.code_decode.proofs.Fields.{wide16, wide32, number_takes, signed_takes, target_takes}

-- ---- an instruction of a spelling

abbrev pub AreNear : List ℕ → Type 0
AreNear places = AllByRecursion (λ place. place < 65535) places

-- the bytes of a spelling at a place
pub record IsSpellingText (pc : ℕ) (s : Spelling) (bytes : List ℕ) : Type 0 where
  pub padding : List ℕ
  pub long : length padding ≡ padding_of pc
  pub fits : FitsSpelling pc s
  pub is : bytes ≡ spelling_text pc padding s

pub record TakesSpelling (pc op : ℕ) (bytes : List ℕ) (s : Spelling) (rest : List ℕ) : Type 0 where
  pub text : List ℕ
  pub taken : Takes bytes text rest
  pub same : AreNear (spelling_targets s) → IsSpellingText pc s (op ∷ text)

pub length-zeros : (n : ℕ) → length (zeros n) ≡ n
length-zeros zero = refl
length-zeros (suc n) = ap suc (length-zeros n)

-- a spelling without padding
unpadded : (pc : ℕ) (s : Spelling) (bytes : List ℕ) → FitsSpelling pc s → bytes ≡ spelling_text pc (zeros (padding_of pc)) s
    → IsSpellingText pc s bytes
unpadded pc s bytes f e = record { padding = zeros (padding_of pc); long = length-zeros (padding_of pc); fits = f; is = e }

abbrev read : Insn → List ℕ → Insn × List ℕ
read i rest = (i, rest)

abbrev answer : Insn × List ℕ → Result (Insn × List ℕ) CodeFault
answer x = Ok x

-- what a reader answered, by the spelling of the instruction that it made
made : (pc op : ℕ) (bytes : List ℕ) (i : Insn) (rest : List ℕ) (s : Spelling) (x : Insn × List ℕ) → read i rest ≡ x → spelling i ≡ s
    → TakesSpelling pc op bytes s rest → TakesSpelling pc op bytes (spelling x.0) x.1
made pc op bytes i rest s x e h t =
    subst (λ (y : Insn × List ℕ). TakesSpelling pc op bytes (spelling y.0) y.1) e
    (subst (λ (z : Spelling). TakesSpelling pc op bytes z rest) (sym h) t)

pub plain_takes : (pc op : ℕ) (bytes : List ℕ) (i : Insn) (x : Insn × List ℕ) → IsBytes bytes → spelling i ≡ Plain op
    → read i bytes ≡ x → TakesSpelling pc op bytes (spelling x.0) x.1
plain_takes pc op bytes i x fits h e =
    made pc op bytes i bytes (Plain op) x e h
    (record { text = []; taken = record { parts = refl; rest_fits = fits }; same = λ _. unpadded pc (Plain op) (op ∷ []) tt refl })

pub byte_operand_takes : (pc op : ℕ) (make : ℕ → Insn) (bytes : List ℕ) (x : Insn × List ℕ) → IsBytes bytes
    → ((n : ℕ) → spelling (make n) ≡ Byte op n) → byte_operand_at pc make bytes ≡ Ok x → TakesSpelling pc op bytes (spelling x.0) x.1
unfolding byte_operand_at
byte_operand_takes pc op make bytes x fits h e =
    let b = bind_ok (byte_at pc bytes) (λ n. Ok (make n.0, n.1)) x e in
    let t = byte_takes pc bytes b.0 fits b.1 in
    made pc op bytes (make b.0.0) b.0.1 (Byte op b.0.0) x (ok_is (read (make b.0.0) b.0.1) x b.2) (h b.0.0)
    (record { text = b.0.0 ∷ []; taken = t.0; same = λ _. unpadded pc (Byte op b.0.0) (op ∷ b.0.0 ∷ []) t.1 refl })

pub pair_operand_takes : (pc op : ℕ) (make : ℕ → Insn) (bytes : List ℕ) (x : Insn × List ℕ) → IsBytes bytes
    → ((n : ℕ) → spelling (make n) ≡ Pair op n) → pair_operand_at pc make bytes ≡ Ok x → TakesSpelling pc op bytes (spelling x.0) x.1
unfolding pair_operand_at
pair_operand_takes pc op make bytes x fits h e =
    let b = bind_ok (number_at w16 pc bytes) (λ n. Ok (make n.0, n.1)) x e in
    let t = number_takes w16 (2 ^ 16) wide16 pc bytes b.0 fits b.1 in
    made pc op bytes (make b.0.0) b.0.1 (Pair op b.0.0) x (ok_is (read (make b.0.0) b.0.1) x b.2) (h b.0.0)
    (record {
      text = to_be_bytes w16 b.0.0;
      taken = t.0;
      same = λ _. unpadded pc (Pair op b.0.0) (op ∷ to_be_bytes w16 b.0.0)
          t.1 refl;
    })

pub jump_operand_takes : (pc op : ℕ) (make : ℕ → Insn) (bytes : List ℕ) (x : Insn × List ℕ) → IsBytes bytes
    → ((n : ℕ) → spelling (make n) ≡ Jump op n) → jump_operand_at pc make bytes ≡ Ok x → TakesSpelling pc op bytes (spelling x.0) x.1
unfolding jump_operand_at
jump_operand_takes pc op make bytes x fits h e =
    let b = bind_ok (target_at w16 pc bytes) (λ n. Ok (make n.0, n.1)) x e in
    let t = target_takes w16 (2 ^ 16) wide16 pc bytes b.0 fits b.1 in
    made pc op bytes (make b.0.0) b.0.1 (Jump op b.0.0) x (ok_is (read (make b.0.0) b.0.1) x b.2) (h b.0.0)
    (record {
      text = t.text;
      taken = t.taken;
      same = λ near. let s = t.same near.0 in unpadded pc (Jump op b.0.0) (op ∷ t.text) s.1
          (ap (λ (u : List ℕ). op ∷ u) s.0);
    })

pub far_jump_takes : (pc : ℕ) (bytes : List ℕ) (x : Insn × List ℕ) → IsBytes bytes → far_jump_at pc bytes ≡ Ok x
    → TakesSpelling pc 200 bytes (spelling x.0) x.1
unfolding far_jump_at
far_jump_takes pc bytes x fits e =
    let b = bind_ok (target_at w32 pc bytes) (λ n. Ok (insns.GotoW n.0, n.1)) x e in
    let t = target_takes w32 (2 ^ 32) wide32 pc bytes b.0 fits b.1 in
    made pc 200 bytes (insns.GotoW b.0.0) b.0.1 (FarJump 200 b.0.0) x (ok_is (read (insns.GotoW b.0.0) b.0.1) x b.2) refl
    (record {
      text = t.text;
      taken = t.taken;
      same = λ near. let s = t.same near.0 in unpadded pc (FarJump 200 b.0.0) (200 ∷ t.text)
          s.1 (ap (λ (u : List ℕ). 200 ∷ u) s.0);
    })

-- a byte as a signed number
pub signed_byte : (n : ℕ) → n < 2 ^ 8 → (cast_unsigned w8 (cast_signed w8 n) ≡ n) × FitsSigned w8 (cast_signed w8 n)
signed_byte n lt = (of_z-to_z w8 n lt, search (arith, ints))

pub signed_byte_takes : (pc : ℕ) (bytes : List ℕ) (x : Insn × List ℕ) → IsBytes bytes → signed_byte_at pc bytes ≡ Ok x
    → TakesSpelling pc 16 bytes (spelling x.0) x.1
unfolding signed_byte_at
signed_byte_takes pc bytes x fits e =
    let b = bind_ok (byte_at pc bytes) (λ n. Ok (insns.Bipush (cast_signed w8 n.0), n.1)) x e in
    let t = byte_takes pc bytes b.0 fits b.1 in
    let s = signed_byte b.0.0 t.1 in
    made pc 16 bytes (insns.Bipush (cast_signed w8 b.0.0)) b.0.1 (SignedByte 16 (cast_signed w8 b.0.0)) x
    (ok_is (read (insns.Bipush (cast_signed w8 b.0.0)) b.0.1) x b.2) refl
    (record {
      text = b.0.0 ∷ [];
      taken = t.0;
      same = λ _. unpadded pc (SignedByte 16 (cast_signed w8 b.0.0)) (16 ∷ b.0.0 ∷ []) s.1
          (ap (λ (u : ℕ). 16 ∷ u ∷ []) (sym s.0));
    })

pub sipush_takes : (pc : ℕ) (bytes : List ℕ) (x : Insn × List ℕ) → IsBytes bytes → sipush_at pc bytes ≡ Ok x
    → TakesSpelling pc 17 bytes (spelling x.0) x.1
unfolding sipush_at
sipush_takes pc bytes x fits e =
    let b = bind_ok (signed_at w16 pc bytes) (λ n. Ok (insns.Sipush n.0, n.1)) x e in
    let t = signed_takes w16 (2 ^ 16) wide16 pc bytes b.0 fits b.1 in
    made pc 17 bytes (insns.Sipush b.0.0) b.0.1 (SignedPair 17 b.0.0) x (ok_is (read (insns.Sipush b.0.0) b.0.1) x b.2) refl
    (record { text = signed w16 b.0.0; taken = t.0; same = λ _. unpadded pc (SignedPair 17 b.0.0) (17 ∷ signed w16 b.0.0) t.1 refl })

pub increment_takes : (pc : ℕ) (bytes : List ℕ) (x : Insn × List ℕ) → IsBytes bytes → increment_at pc bytes ≡ Ok x
    → TakesSpelling pc 132 bytes (spelling x.0) x.1
unfolding increment_at
increment_takes pc bytes x fits e =
    let a = bind_ok (byte_at pc bytes) (λ n. byte_at pc n.1 >>= λ v. Ok (insns.Iinc n.0 (cast_signed w8 v.0), v.1)) x e in
    let b = bind_ok (byte_at pc a.0.1) (λ v. Ok (insns.Iinc a.0.0 (cast_signed w8 v.0), v.1)) x a.2 in
    let t = byte_takes pc bytes a.0 fits a.1 in
    let u = byte_takes pc a.0.1 b.0 t.0.rest_fits b.1 in
    let s = signed_byte b.0.0 u.1 in
    let i = insns.Iinc a.0.0 (cast_signed w8 b.0.0) in
    let shown = Increment 132 a.0.0 (cast_signed w8 b.0.0) in
    made pc 132 bytes i b.0.1 shown x (ok_is (read i b.0.1) x b.2) refl
    (record {
      text = a.0.0 ∷ b.0.0 ∷ [];
      taken = Takes-then bytes (a.0.0 ∷ []) a.0.1 (b.0.0 ∷ []) b.0.1 t.0 u.0;
      same = λ _. unpadded pc shown (132 ∷ a.0.0 ∷ b.0.0 ∷ []) (t.1, s.1) (ap (λ (u : ℕ). 132 ∷ a.0.0 ∷ u ∷ []) (sym s.0));
    })

pub wide_increment_takes : (pc : ℕ) (bytes : List ℕ) (x : Insn × List ℕ) → IsBytes bytes → wide_increment_at pc bytes ≡ Ok x
    → (text : List ℕ) × Takes bytes text x.1 × (IsSpellingText pc (spelling x.0) (196 ∷ 132 ∷ text))
unfolding wide_increment_at
wide_increment_takes pc bytes x fits e =
    let a = bind_ok (number_at w16 pc bytes) (λ n. signed_at w16 pc n.1 >>= λ v. Ok (insns.WideIinc n.0 v.0, v.1)) x e in
    let b = bind_ok (signed_at w16 pc a.0.1) (λ v. Ok (insns.WideIinc a.0.0 v.0, v.1)) x a.2 in
    let t = number_takes w16 (2 ^ 16) wide16 pc bytes a.0 fits a.1 in
    let u = signed_takes w16 (2 ^ 16) wide16 pc a.0.1 b.0 t.0.rest_fits b.1 in
    let i = insns.WideIinc a.0.0 b.0.0 in
    let text = to_be_bytes w16 a.0.0 ++ signed w16 b.0.0 in
    subst (λ (y : Insn × List ℕ). (text : List ℕ) × Takes bytes text y.1 × (IsSpellingText pc (spelling y.0) (196 ∷ 132 ∷ text)))
    (ok_is (read i b.0.1) x b.2) (
      text,
      Takes-then bytes (to_be_bytes w16 a.0.0) a.0.1 (signed w16 b.0.0) b.0.1 t.0 u.0,
      unpadded pc
          (WideIncrement 132 a.0.0 b.0.0) (196 ∷ 132 ∷ text) (t.1, u.1) refl,
    )

pub array_takes : (pc : ℕ) (bytes : List ℕ) (x : Insn × List ℕ) → IsBytes bytes → array_at pc bytes ≡ Ok x
    → TakesSpelling pc 188 bytes (spelling x.0) x.1
unfolding array_at
array_takes pc bytes x fits e =
    let b = bind_ok (byte_at pc bytes) (λ code. cond (ltb 3 code.0 && ltb code.0 12) (Ok (insns.Newarray code.0, code.1))
    (Err (BadOperand pc))) x e in
    let g = guarded (ltb 3 b.0.0 && ltb b.0.0 12) (BadOperand pc) (insns.Newarray b.0.0, b.0.1) x b.2 in
    let p = and_parts (ltb 3 b.0.0) (ltb b.0.0 12) g.0 in
    let t = byte_takes pc bytes b.0 fits b.1 in
    let low : 3 < b.0.0 = ltb-true 3 b.0.0 p.0 in
    let high : b.0.0 < 12 = ltb-true b.0.0 12 p.1 in
    made pc 188 bytes (insns.Newarray b.0.0) b.0.1 (Array 188 b.0.0) x g.1 refl
    (record {
      text = b.0.0 ∷ [];
      taken = t.0;
      same = λ _. unpadded pc (Array 188 b.0.0) (188 ∷ b.0.0 ∷ [])
          (omega arith, omega arith) refl;
    })

pub interface_takes : (pc : ℕ) (bytes : List ℕ) (x : Insn × List ℕ) → IsBytes bytes → interface_at pc bytes ≡ Ok x
    → TakesSpelling pc 185 bytes (spelling x.0) x.1
unfolding interface_at
interface_takes pc bytes x fits e =
    let a = bind_ok (number_at w16 pc bytes) (λ n. byte_at pc n.1 >>= λ count. byte_at pc count.1 >>= λ last. cond (eqb last.0 0)
    (Ok (insns.Invokeinterface n.0 count.0, last.1)) (Err (BadOperand pc))) x e in
    let b = bind_ok (byte_at pc a.0.1)
    (λ count. byte_at pc count.1 >>= λ last. cond (eqb last.0 0) (Ok (insns.Invokeinterface a.0.0 count.0, last.1))
    (Err (BadOperand pc))) x a.2 in
    let d = bind_ok (byte_at pc b.0.1)
    (λ last. cond (eqb last.0 0) (Ok (insns.Invokeinterface a.0.0 b.0.0, last.1)) (Err (BadOperand pc))) x b.2 in
    let g = guarded (eqb d.0.0 0) (BadOperand pc) (insns.Invokeinterface a.0.0 b.0.0, d.0.1) x d.2 in
    let t = number_takes w16 (2 ^ 16) wide16 pc bytes a.0 fits a.1 in
    let u = byte_takes pc a.0.1 b.0 t.0.rest_fits b.1 in
    let v = byte_takes pc b.0.1 d.0 u.0.rest_fits d.1 in
    let i = insns.Invokeinterface a.0.0 b.0.0 in
    let shown = Interface 185 a.0.0 b.0.0 in
    let last : d.0.0 ≡ 0 = eqb-true d.0.0 0 g.0 in
    let text = to_be_bytes w16 a.0.0 ++ ((b.0.0 ∷ []) ++ (d.0.0 ∷ [])) in
    made pc 185 bytes i d.0.1 shown x g.1 refl
    (record {
      text = text;
      taken = Takes-then bytes (to_be_bytes w16 a.0.0) a.0.1 ((b.0.0 ∷ []) ++ (d.0.0 ∷ [])) d.0.1 t.0
          (Takes-then a.0.1 (b.0.0 ∷ []) b.0.1 (d.0.0 ∷ []) d.0.1 u.0 v.0);
      same = λ _. unpadded pc shown (185 ∷ text) (t.1, u.1) (ap (λ (z : ℕ). 185 ∷ (to_be_bytes w16 a.0.0 ++ b.0.0 ∷ z ∷ [])) last);
    })

-- ---- many values

-- A value that is read has some bytes; under a condition on it they are its own, and it fits.
pub record TakesOne {A : Type 0} (P : A → Type 0) (enc : A → List ℕ) (Q : A → Type 0) (bytes : List ℕ) (x : A)
    (rest : List ℕ) : Type 0 where
  pub text : List ℕ
  pub taken : Takes bytes text rest
  pub same : P x → (text ≡ enc x) × Q x

pub record TakesMany {A : Type 0} (P : A → Type 0) (enc : A → List ℕ) (Q : A → Type 0) (bytes : List ℕ) (n : ℕ) (xs : List A)
    (rest : List ℕ) : Type 0 where
  pub text : List ℕ
  pub taken : Takes bytes text rest
  pub len : length xs ≡ n
  pub same : AllByRecursion P xs → (text ≡ flat_map enc xs) × AllByRecursion Q xs

repeat_takes : {A : Type 0} (P : A → Type 0) (enc : A → List ℕ) (Q : A → Type 0) (read : List ℕ → Result (A × List ℕ) CodeFault)
    → ((bytes : List ℕ) (x : A × List ℕ) → IsBytes bytes → read bytes ≡ Ok x → TakesOne P enc Q bytes x.0 x.1)
    → (n : ℕ) (bytes : List ℕ) (x : List A × List ℕ) → IsBytes bytes → repeat_at read n bytes ≡ Ok x → TakesMany P enc Q bytes n x.0 x.1
unfolding repeat_at
repeat_takes {A} P enc Q read one zero bytes x fits e =
    subst (λ (y : List A × List ℕ). TakesMany P enc Q bytes 0 y.0 y.1) (ok_is ([], bytes) x e)
    (record { text = []; taken = record { parts = refl; rest_fits = fits }; len = refl; same = λ _. (refl, tt) })
repeat_takes {A} P enc Q read one (suc n) bytes x fits e =
    let a = bind_ok (read bytes) (λ first. repeat_at read n first.1 >>= λ others. Ok (first.0 ∷ others.0, others.1)) x e in
    let b = bind_ok (repeat_at read n a.0.1) (λ others. Ok (a.0.0 ∷ others.0, others.1)) x a.2 in
    let t = one bytes a.0 fits a.1 in
    let u = repeat_takes P enc Q read one n a.0.1 b.0 t.taken.rest_fits b.1 in
    subst (λ (y : List A × List ℕ). TakesMany P enc Q bytes (suc n) y.0 y.1) (ok_is (a.0.0 ∷ b.0.0, b.0.1) x b.2)
    (record {
      text = t.text ++ u.text;
      taken = Takes-then bytes t.text a.0.1 u.text b.0.1 t.taken u.taken;
      len = ap suc u.len;
      same = λ h. let p = t.same h.0 in let q = u.same h.1 in (
        ap (λ (z : List ℕ). z ++ u.text) p.0
            ∙ ap (λ (z : List ℕ). enc a.0.0 ++ z) q.0 ∙ sym (flat_map-cons enc a.0.0 b.0.0),
        (p.1, q.1),
      );
    })

one_target : (pc : ℕ) (bytes : List ℕ) (x : ℕ × List ℕ) → IsBytes bytes → target_at w32 pc bytes ≡ Ok x
    → TakesOne (λ place. place < 65535) (λ place. signed w32 (distance pc place)) (Reaches w32 pc) bytes x.0 x.1
one_target pc bytes x fits e =
    let t = target_takes w32 (2 ^ 32) wide32 pc bytes x fits e in
    record { text = t.text; taken = t.taken; same = t.same }

abbrev FitsCase : ℕ → Case → Type 0
FitsCase pc c = FitsSigned w32 c.key × Reaches w32 pc c.target

one_case : (pc : ℕ) (bytes : List ℕ) (x : Case × List ℕ) → IsBytes bytes → case_at pc bytes ≡ Ok x
    → TakesOne (λ c. c.target < 65535) (case_text pc) (FitsCase pc) bytes x.0 x.1
unfolding case_at
one_case pc bytes x fits e =
    let a = bind_ok (signed_at w32 pc bytes)
    (λ key. target_at w32 pc key.1 >>= λ target. Ok (record { key = key.0; target = target.0 }, target.1)) x e in
    let b = bind_ok (target_at w32 pc a.0.1) (λ target. Ok (record { key = a.0.0; target = target.0 }, target.1)) x a.2 in
    let t = signed_takes w32 (2 ^ 32) wide32 pc bytes a.0 fits a.1 in
    let u = target_takes w32 (2 ^ 32) wide32 pc a.0.1 b.0 t.0.rest_fits b.1 in
    let c : Case = record { key = a.0.0; target = b.0.0 } in
    let y : Case × List ℕ = (c, b.0.1) in
    subst (λ (y : Case × List ℕ). TakesOne (λ c. c.target < 65535) (case_text pc) (FitsCase pc) bytes y.0 y.1) (ok_is y x b.2)
    (record {
      text = signed w32 a.0.0 ++ u.text;
      taken = Takes-then bytes (signed w32 a.0.0) a.0.1 u.text b.0.1 t.0 u.taken;
      same = λ h. let s = u.same h in (ap (λ (z : List ℕ). signed w32 a.0.0 ++ z) s.0, (t.1, s.1));
    })

-- ---- switches

skip_takes : (n pc : ℕ) (bytes rest : List ℕ) → IsBytes bytes → skip_at n pc bytes ≡ Ok rest → Takes bytes (take n bytes) rest
    × (length (take n bytes) ≡ n)
unfolding skip_at
skip_takes n pc bytes rest fits e =
    let g = guard_ok (ltb (length bytes) n) (Truncated pc) (drop n bytes) rest e in
    let long : n ≤ length bytes = ltb-false _ _ g.0 in (
      subst (λ (r : List ℕ). Takes bytes (take n bytes) r) g.1
          (record { parts = sym (take-append-drop n bytes); rest_fits = IsBytes-drop n bytes fits }),
      omega (arith, length-take n bytes),
    )

-- the highest key of a table, by its lowest and the number of targets
highest : (low high : ℤ) (count : ℕ) → int_lt high low ≡ false → count ≡ unsigned_abs (high -ℤ low) + 1 → high ≡ low +ℤ pos (count - 1)
highest low high count h e = grind (arith, ints)

guard_repeat : {A : Type 0} (b : Bool) (d : CodeFault) (r : Result A CodeFault) (y : A) → cond b (Err d) r ≡ Ok y
    → (b ≡ false) × (r ≡ Ok y)
guard_repeat true d r y e = absurd cc
guard_repeat false d r y e = (refl, e)

table_parts : (pc : ℕ) (bytes padded : List ℕ) (d : ℕ × List ℕ) (l h : ℤ × List ℕ) (ts : List ℕ × List ℕ) (x : Insn × List ℕ)
    → IsBytes bytes
    → skip_at (padding_of pc) pc bytes ≡ Ok padded → target_at w32 pc padded ≡ Ok d → signed_at w32 pc d.1 ≡ Ok l
    → signed_at w32 pc l.1 ≡ Ok h → table_targets_at pc l.0 h.0 h.1 ≡ Ok ts
    → answer (read (insns.Tableswitch d.0 l.0 ts.0) ts.1) ≡ Ok x → TakesSpelling pc 170 bytes (spelling x.0) x.1
unfolding table_targets_at
table_parts pc bytes padded d l h ts x fits e1 e2 e3 e4 e5 e6 =
    let g = guard_repeat (int_lt h.0 l.0) (BadSwitch pc) (repeat_at (target_at w32 pc) (unsigned_abs (h.0 -ℤ l.0) + 1) h.1) ts e5 in
    let t1 = skip_takes (padding_of pc) pc bytes padded fits e1 in
    let t2 = target_takes w32 (2 ^ 32) wide32 pc padded d t1.0.rest_fits e2 in
    let t3 = signed_takes w32 (2 ^ 32) wide32 pc d.1 l t2.taken.rest_fits e3 in
    let t4 = signed_takes w32 (2 ^ 32) wide32 pc l.1 h t3.0.rest_fits e4 in
    let t5 = repeat_takes (λ place. place < 65535) (λ place. signed w32 (distance pc place)) (Reaches w32 pc) (target_at w32 pc)
    (one_target pc) (unsigned_abs (h.0 -ℤ l.0) + 1) h.1 ts t4.0.rest_fits g.1 in
    let top : h.0 ≡ l.0 +ℤ pos (length ts.0 - 1) = highest l.0 h.0 (length ts.0) g.0 t5.len in
    let padding = take (padding_of pc) bytes in
    let s4 = signed w32 h.0 ++ t5.text in
    let s3 = signed w32 l.0 ++ s4 in
    let s2 = t2.text ++ s3 in
    let u4 = Takes-then l.1 (signed w32 h.0) h.1 t5.text ts.1 t4.0 t5.taken in
    let u3 = Takes-then d.1 (signed w32 l.0) l.1 s4 ts.1 t3.0 u4 in
    let u2 = Takes-then padded t2.text d.1 s3 ts.1 t2.taken u3 in
    let u1 = Takes-then bytes padding padded s2 ts.1 t1.0 u2 in
    let i = insns.Tableswitch d.0 l.0 ts.0 in
    made pc 170 bytes i ts.1 (Table 170 d.0 l.0 ts.0) x (ok_is (read i ts.1) x e6) refl
    (record {
      text = padding ++ s2;
      taken = u1;
      same = λ near.
          let p = t2.same near.0 in
          let q = t5.same near.1 in
          record {
            padding = padding;
            long = t1.1;
            fits = record {
              otherwise = p.1;
              lowest = t3.1;
              some = omega (arith, t5.len);
              highest = subst
                  (λ (v : ℤ). FitsSigned w32 v) top t4.1;
              each = q.1;
            };
            is = ap (λ (u : List ℕ). 170 ∷ (padding ++ (u ++ s3))) p.0
                ∙ ap (λ (v : ℤ). 170 ∷ (padding ++ (signed w32 (distance pc d.0) ++ (signed w32 l.0 ++ (signed w32 v ++ t5.text))))) top
                ∙ ap (λ (u : List ℕ). 170
                ∷ (padding ++ (signed w32 (distance pc d.0)
                ++ (signed w32 l.0 ++ (signed w32 (l.0 +ℤ pos (length ts.0 - 1)) ++ u))))) q.0;
          };
    })

pub table_takes : (pc : ℕ) (bytes : List ℕ) (x : Insn × List ℕ) → IsBytes bytes → table_at pc bytes ≡ Ok x
    → TakesSpelling pc 170 bytes (spelling x.0) x.1
unfolding table_at
table_takes pc bytes x fits e =
    let a = bind_ok (skip_at (padding_of pc) pc bytes)
    (λ padded. target_at w32 pc padded >>= λ default. signed_at w32 pc default.1 >>= λ low. signed_at w32 pc low.1 >>= λ high.
    table_targets_at pc low.0 high.0 high.1 >>= λ targets. Ok (insns.Tableswitch default.0 low.0 targets.0, targets.1)) x e in
    let b = bind_ok (target_at w32 pc a.0) (λ default. signed_at w32 pc default.1 >>= λ low. signed_at w32 pc low.1 >>= λ high.
    table_targets_at pc low.0 high.0 high.1 >>= λ targets. Ok (insns.Tableswitch default.0 low.0 targets.0, targets.1)) x a.2 in
    let l = bind_ok (signed_at w32 pc b.0.1) (λ low. signed_at w32 pc low.1 >>= λ high. table_targets_at pc low.0 high.0 high.1 >>=
    λ targets. Ok (insns.Tableswitch b.0.0 low.0 targets.0, targets.1)) x b.2 in
    let h = bind_ok (signed_at w32 pc l.0.1)
    (λ high. table_targets_at pc l.0.0 high.0 high.1 >>= λ targets. Ok (insns.Tableswitch b.0.0 l.0.0 targets.0, targets.1)) x l.2 in
    let ts = bind_ok (table_targets_at pc l.0.0 h.0.0 h.0.1) (λ targets. Ok (insns.Tableswitch b.0.0 l.0.0 targets.0, targets.1)) x h.2 in
    table_parts pc bytes a.0 b.0 l.0 h.0 ts.0 x fits a.1 b.1 l.1 h.1 ts.1 ts.2

near_cases : (cases : List Case) → AllByRecursion (λ place. place < 65535) (map (λ c. c.target) cases)
    → AllByRecursion (λ c. c.target < 65535) cases
near_cases [] h = tt
near_cases (c ∷ cs) h = (h.0, near_cases cs h.1)

guard_counted : {A : Type 0} (b : Bool) (d : CodeFault) (r : Result A CodeFault) (y : A) → cond b r (Err d) ≡ Ok y
    → (b ≡ true) × (r ≡ Ok y)
guard_counted true d r y e = (refl, e)
guard_counted false d r y e = absurd cc

lookup_parts : (pc : ℕ) (bytes padded : List ℕ) (d n : ℕ × List ℕ) (cs : List Case × List ℕ) (x : Insn × List ℕ) → IsBytes bytes
    → skip_at (padding_of pc) pc bytes ≡ Ok padded → target_at w32 pc padded ≡ Ok d → number_at w32 pc d.1 ≡ Ok n
    → counted_cases_at n.0 pc n.1 ≡ Ok cs
    → cond (is_rising cs.0) (answer (read (insns.Lookupswitch d.0 cs.0) cs.1)) (Err (BadSwitch pc)) ≡ Ok x
    → TakesSpelling pc 171 bytes (spelling x.0) x.1
unfolding counted_cases_at
lookup_parts pc bytes padded d n cs x fits e1 e2 e3 e4 e5 =
    let i = insns.Lookupswitch d.0 cs.0 in
    let r = guarded (is_rising cs.0) (BadSwitch pc) (read i cs.1) x e5 in
    let g = guard_counted (ltb n.0 2147483648) (BadSwitch pc) (repeat_at (case_at pc) n.0 n.1) cs e4 in
    let small : n.0 < 2147483648 = ltb-true n.0 2147483648 g.0 in
    let t1 = skip_takes (padding_of pc) pc bytes padded fits e1 in
    let t2 = target_takes w32 (2 ^ 32) wide32 pc padded d t1.0.rest_fits e2 in
    let t3 = number_takes w32 (2 ^ 32) wide32 pc d.1 n t2.taken.rest_fits e3 in
    let t4 = repeat_takes (λ c. c.target < 65535) (case_text pc) (FitsCase pc) (case_at pc) (one_case pc) n.0 n.1 cs t3.0.rest_fits g.1 in
    let padding = take (padding_of pc) bytes in
    let s3 = to_be_bytes w32 n.0 ++ t4.text in
    let s2 = t2.text ++ s3 in
    let u3 = Takes-then d.1 (to_be_bytes w32 n.0) n.1 t4.text cs.1 t3.0 t4.taken in
    let u2 = Takes-then padded t2.text d.1 s3 cs.1 t2.taken u3 in
    let u1 = Takes-then bytes padding padded s2 cs.1 t1.0 u2 in
    made pc 171 bytes i cs.1 (Lookup 171 d.0 cs.0) x r.1 refl
    (record {
      text = padding ++ s2;
      taken = u1;
      same = λ near.
          let p = t2.same near.0 in
          let q = t4.same (near_cases cs.0 near.1) in
          record {
            padding = padding;
            long = t1.1;
            fits = record { otherwise = p.1; few = omega (arith, t4.len); each = q.1; rising = r.0 };
            is = ap (λ (u : List ℕ). 171 ∷ (padding ++ (u ++ s3))) p.0
                ∙ ap (λ (k : ℕ). 171 ∷ (padding ++ (signed w32 (distance pc d.0) ++ (to_be_bytes w32 k ++ t4.text)))) (sym t4.len)
                ∙ ap (λ (u : List ℕ). 171 ∷ (padding ++ (signed w32 (distance pc d.0) ++ (to_be_bytes w32 (length cs.0) ++ u)))) q.0;
          };
    })

pub lookup_takes : (pc : ℕ) (bytes : List ℕ) (x : Insn × List ℕ) → IsBytes bytes → lookup_at pc bytes ≡ Ok x
    → TakesSpelling pc 171 bytes (spelling x.0) x.1
unfolding lookup_at
lookup_takes pc bytes x fits e =
    let a = bind_ok (skip_at (padding_of pc) pc bytes)
    (λ padded. target_at w32 pc padded >>= λ default. number_at w32 pc default.1 >>= λ count. counted_cases_at count.0 pc
    count.1 >>= λ cases. cond (is_rising cases.0) (Ok (insns.Lookupswitch default.0 cases.0, cases.1)) (Err (BadSwitch pc))) x e in
    let b = bind_ok (target_at w32 pc a.0) (λ default. number_at w32 pc default.1 >>= λ count. counted_cases_at count.0 pc count.1
    >>= λ cases. cond (is_rising cases.0) (Ok (insns.Lookupswitch default.0 cases.0, cases.1)) (Err (BadSwitch pc))) x a.2 in
    let n = bind_ok (number_at w32 pc b.0.1) (λ count. counted_cases_at count.0 pc count.1 >>= λ cases. cond (is_rising cases.0)
    (Ok (insns.Lookupswitch b.0.0 cases.0, cases.1)) (Err (BadSwitch pc))) x b.2 in
    let cs = bind_ok (counted_cases_at n.0.0 pc n.0.1)
    (λ cases. cond (is_rising cases.0) (Ok (insns.Lookupswitch b.0.0 cases.0, cases.1)) (Err (BadSwitch pc))) x n.2 in
    lookup_parts pc bytes a.0 b.0 n.0 cs.0 x fits a.1 b.1 n.1 cs.1 cs.2

-- ---- behind `wide`

-- the instructions that a reader of operands makes have the spelling
local_rows : AllByRecursion (λ make. (n : ℕ) → spelling (make n) ≡ WideLocal (opcode_of (spelling (make 0))) n) wide_local
local_rows = (λ n. refl, (λ n. refl, (λ n. refl, (λ n. refl, tt))))

abbrev pub just : {A : Type 0} → A → Option A
just x = Some x

pub some_is : {A : Type 0} (x y : A) → just x ≡ just y → x ≡ y
some_is x y e = cc

-- a row that is found is a row of the list
pub found_by : (S : ℕ → ℕ → Spelling) (makes : List (ℕ → Insn)) (op : ℕ) (make : ℕ → Insn)
    → AllByRecursion (λ make. (n : ℕ) → spelling (make n) ≡ S (opcode_of (spelling (make 0))) n) makes
    → find_by makes op ≡ Some make → (n : ℕ) → spelling (make n) ≡ S op n
found_by S [] op make rows e = absurd cc
found_by S (m ∷ ms) op make rows e =
    elim (cond_either (eqb op (opcode_of (spelling (m 0)))) (Some m) (find_by ms op) (Some make) e) [
      | inl p ↦ λ n. subst (λ (f : ℕ → Insn). spelling (f n) ≡ S op n) (some_is m make p.1)
          (rows.0 n ∙ ap (λ (k : ℕ). S k n) (sym (eqb-true op (opcode_of (spelling (m 0))) p.0)))
      | inr p ↦ found_by S ms op make rows.1 p.1
    ]

wide_operand_takes : (pc op : ℕ) (a : Option (ℕ → Insn)) (bytes : List ℕ) (x : Insn × List ℕ) → IsBytes bytes
    → find_by wide_local op ≡ a → wide_operand_at pc op a bytes ≡ Ok x → (text : List ℕ) × Takes bytes text x.1
    × (IsSpellingText pc (spelling x.0) (196 ∷ op ∷ text))
unfolding wide_operand_at
wide_operand_takes pc op (Some make) bytes x fits h e =
    let b = bind_ok (number_at w16 pc bytes) (λ n. Ok (make n.0, n.1)) x e in
    let t = number_takes w16 (2 ^ 16) wide16 pc bytes b.0 fits b.1 in
    let s : spelling (make b.0.0) ≡ WideLocal op b.0.0 = found_by WideLocal wide_local op make local_rows h b.0.0 in
    let text = to_be_bytes w16 b.0.0 in
    subst (λ (y : Insn × List ℕ). (text : List ℕ) × Takes bytes text y.1 × (IsSpellingText pc (spelling y.0) (196 ∷ op ∷ text)))
    (ok_is (read (make b.0.0) b.0.1) x b.2) (
      text,
      t.0,
      subst (λ (z : Spelling). IsSpellingText pc z (196 ∷ op ∷ text)) (sym s)
          (unpadded pc (WideLocal op b.0.0) (196 ∷ op ∷ text) t.1 refl),
    )
wide_operand_takes pc op None bytes x fits h e =
    let g = guard_counted (eqb op 132) (BadOperand pc) (wide_increment_at pc bytes) x e in
    subst (λ (k : ℕ). (text : List ℕ) × Takes bytes text x.1 × (IsSpellingText pc (spelling x.0) (196 ∷ k ∷ text)))
    (sym (eqb-true op 132 g.0)) (wide_increment_takes pc bytes x fits g.1)

pub wide_takes : (pc : ℕ) (bytes : List ℕ) (x : Insn × List ℕ) → IsBytes bytes → wide_at pc bytes ≡ Ok x
    → TakesSpelling pc 196 bytes (spelling x.0) x.1
unfolding wide_at
wide_takes pc bytes x fits e =
    let a = bind_ok (byte_at pc bytes) (λ op. wide_operand_at pc op.0 (find_by wide_local op.0) op.1) x e in
    let t = byte_takes pc bytes a.0 fits a.1 in
    let w = wide_operand_takes pc a.0.0 (find_by wide_local a.0.0) a.0.1 x t.0.rest_fits refl a.2 in
    record { text = (a.0.0 ∷ []) ++ w.0; taken = Takes-then bytes (a.0.0 ∷ []) a.0.1 w.0 x.1 t.0 w.1; same = λ _. w.2 }
