-- What is described without a fault: each input is there, and each pair is one.
use Rattle.std.proofs.Common.{◌≡◌, ◌≢◌, ℕ, ◌+◌, ◌≤◌, ◌<◌, Bool, true, false, cond, eqb, List, [], ◌∷◌, ◌++◌, length, length-append}
use Rattle.std.proofs.Common.{map, Option, Some, None, Ok, refl, sym, ap, subst, ◌∙◌, arith}
use Rattle.std.specs.Prelude.{All, not, ◌&&◌, slice_get, is_some}
use Rattle.std.specs.List.{list_all, position_from}
use Rattle.std.specs.Option.{option_map_or}
use Rattle.std.proofs.lemmas.Bool.{false≢true, and_parts, not-true, not-false, eqb-false}
use Rattle.std.proofs.lemmas.List.{length-map}
use Rattle.std.proofs.lemmas.List.Elements.{All-nil, All-cons, All-head, All-tail, All-weaker}
use Rattle.std.proofs.lemmas.Option.{slice_get_within}
use Rattle.list_views.proofs.Options.{both_none}
use Rattle.list_views.proofs.Quantified.{every_back, every_front}
use Rattle.jvm_values.specs.declared.types.Slot.{Slot}
use Rattle.jvm_values.specs.declared.types.Slot.TheVariants as slots
use Rattle.jvm_values.specs.Slots.{is_reference_slot}
use Rattle.class_world.specs.World.{World}
use Rattle.class_program.specs.Programs.{Program}
use Rattle.input_text.specs.declared.fault.DescFault.TheVariants.{EmptyInterval, UnknownType, BadPair}
use Rattle.input_text.specs.declared.texts.InputText.{InputText}
use Rattle.input_text.specs.declared.texts.DescText.{DescText}
use Rattle.input_desc.specs.declared.desc.Input.{Input}
use Rattle.input_desc.specs.declared.desc.Desc.{Desc}
use Rattle.input_desc.specs.Given.{params_of, statics_of, field_slot, argument_slot, slots_of}
use Rattle.input_desc.specs.Pairs.{is_reference_at, is_pair, is_no_pair, IsPairBelow}
use Rattle.input_desc.specs.Typed.{first_unfit}
use Rattle.input_desc.specs.Descs.{inputs_from, has_ints, has_a_type, found_fault, later_fault, desc_fault, IsGoodDesc}
use Rattle.input_desc.specs.inner.Words.{Finds, IsMade}
use Rattle.input_desc.proofs.Faultless.{not_mapped}

-- ---- each input is there

both_there : (n : ℕ) (wanted : List Slot) (found : List (Option Input)) → length found ≡ length wanted
    → first_unfit has_ints n wanted found ≡ None → first_unfit has_a_type n wanted found ≡ None → list_all is_some found ≡ true
both_there n wanted [] l e f = refl
both_there n [] (input ∷ found) l e f = absurd (omega (arith, l))
both_there n (slots.Num kind ∷ wanted) (Some input ∷ found) l e f = both_there (n + 1) wanted found (omega (arith, l)) e f
both_there n (slots.Num kind ∷ wanted) (None ∷ found) l e f = absurd (let h : Some n ≡ None = e in cc)
both_there n (slots.Ref t ∷ wanted) (Some input ∷ found) l e f = both_there (n + 1) wanted found (omega (arith, l)) e f
both_there n (slots.Ref t ∷ wanted) (None ∷ found) l e f = absurd (let h : Some n ≡ None = f in cc)

inputs_count : (world : World) (wanted : List Slot) (texts' : List InputText) → length texts' ≡ length wanted
    → length (inputs_from world wanted texts') ≡ length wanted
inputs_count world [] texts' l = refl
inputs_count world (slot ∷ wanted) [] l = absurd (omega (arith, l))
inputs_count world (slot ∷ wanted) (text ∷ texts') l = let rest = inputs_count world wanted texts' (omega (arith, l)) in omega
    (arith, rest)

-- as many are found as there are slots
pub found_count : (world : World) (wanted here : List Slot) (texts' : List InputText) (found shown : List (Option Input))
    → length texts' ≡ length wanted → here ≡ wanted → found ≡ inputs_from world here texts' → shown ≡ found → length shown ≡ length here
found_count world wanted here texts' found shown l h f s = ap length s ∙ ap length f
    ∙ inputs_count world here texts' (l ∙ ap length (sym h))

-- what holds where nothing that was found has a fault
record IsClean (wanted : List Slot) (found : List (Option Input)) (pairs : List (ℕ × ℕ)) : Type 0 where
  ints : first_unfit has_ints 0 wanted found ≡ None
  types : first_unfit has_a_type 0 wanted found ≡ None
  good : position_from (is_no_pair wanted) 0 pairs ≡ None

clean : (wanted : List Slot) (found : List (Option Input)) (pairs : List (ℕ × ℕ)) → found_fault wanted found pairs ≡ None
    → IsClean wanted found pairs
unfolding found_fault
clean wanted found pairs e =
    let a = both_none _ _ e in
    let b = both_none _ _ a.1 in
    record { ints = not_mapped EmptyInterval _ a.0; types = not_mapped UnknownType _ b.0; good = not_mapped BadPair _ b.1 }

later_clean : (p : Program) (texts' : List InputText) (pairs : List (ℕ × ℕ)) → later_fault p texts' pairs ≡ None
    → IsClean (slots_of p) (inputs_from p.world (slots_of p) texts') pairs
unfolding later_fault
later_clean p texts' pairs e = clean (slots_of p) (inputs_from p.world (slots_of p) texts') pairs (both_none _ _ e).1

pub found_are_there : (p : Program) (texts' : List InputText) (pairs : List (ℕ × ℕ)) (found : List (Option Input))
    → length texts' ≡ length (slots_of p) → Finds p texts' pairs (Ok found) → list_all is_some found ≡ true
found_are_there p texts' pairs found l h =
    let fine = later_clean p texts' pairs h.0 in
    ap (list_all is_some) h.1 ∙ both_there 0 (slots_of p) (inputs_from p.world (slots_of p) texts')
    (inputs_count p.world (slots_of p) texts' l) fine.ints fine.types

-- ---- pairs

reference_within : (wanted : List Slot) (n : ℕ) → is_reference_at wanted n ≡ true → n < length wanted
reference_within wanted n e = go (slice_get wanted n) refl e
  where
    go : (o : Option Slot) → slice_get wanted n ≡ o → option_map_or is_reference_slot o false ≡ true → n < length wanted
    go None q f = absurd (false≢true f)
    go (Some slot) q f = slice_get_within wanted n slot q

pair_below : (wanted : List Slot) (pair : ℕ × ℕ) → is_no_pair wanted pair ≡ false → IsPairBelow (length wanted) pair
pair_below wanted pair e =
    let outer = and_parts (not (eqb pair.0 pair.1)) (is_reference_at wanted pair.0 && is_reference_at wanted pair.1)
    (not-false (is_pair wanted pair) e) in
    let inner = and_parts (is_reference_at wanted pair.0) (is_reference_at wanted pair.1) outer.1 in (
      eqb-false pair.0 pair.1 (not-true (eqb pair.0 pair.1) outer.0),
      (reference_within wanted pair.0 inner.0, reference_within wanted pair.1 inner.1),
    )

pairs_below : (wanted : List Slot) (n : ℕ) (pairs : List (ℕ × ℕ)) → position_from (is_no_pair wanted) n pairs ≡ None
    → All (IsPairBelow (length wanted)) pairs
pairs_below wanted n [] e = All-nil (IsPairBelow (length wanted))
pairs_below wanted n (pair ∷ pairs) e = go (pairs_below wanted (n + 1) pairs) (is_no_pair wanted pair) refl e
  where
    go : (position_from (is_no_pair wanted) (n + 1) pairs ≡ None → All (IsPairBelow (length wanted)) pairs) → (b : Bool)
        → is_no_pair wanted pair ≡ b → cond b (Some n) (position_from (is_no_pair wanted) (n + 1) pairs) ≡ None
        → All (IsPairBelow (length wanted)) (pair ∷ pairs)
    go rest true q f = absurd (let h : Some n ≡ None = f in cc)
    go rest false q f = All-cons (IsPairBelow (length wanted)) pair pairs (pair_below wanted pair q) (rest f)

-- ---- descriptions

pub texts_count : (p : Program) (text : DescText) → length text.params ≡ length (params_of p)
    → length text.statics ≡ length (statics_of p) → length (text.params ++ text.statics) ≡ length (slots_of p)
texts_count p text l m =
    length-append text.params text.statics
    ∙ ap (λ n. n + length text.statics) (l ∙ sym (length-map (params_of p) argument_slot))
    ∙ ap (λ n. length (map argument_slot (params_of p)) + n) m
    ∙ sym (length-append (map argument_slot (params_of p)) (statics_of p))

-- what is made of what was found is a good description
pub made_is_good : (p : Program) (texts' : List InputText) (same share : List (ℕ × ℕ)) (found : List (Option Input)) (desc : Desc)
    → length texts' ≡ length (slots_of p) → Finds p texts' (same ++ share) (Ok found) → IsMade found same share desc → IsGoodDesc p desc
made_is_good p texts' same share found desc l h made =
    let fine = later_clean p texts' (same ++ share) h.0 in
    let count : length desc.inputs ≡ length (slots_of p) = sym (length-map desc.inputs Some) ∙ ap length (made.inputs_are ∙ h.1)
    ∙ inputs_count p.world (slots_of p) texts' l in
    let pairs : desc.same ++ desc.share ≡ same ++ share = ap (λ xs. xs ++ desc.share) made.same_is ∙ ap (λ xs. same ++ xs) made.share_is in
    let below = pairs_below (slots_of p) 0 (same ++ share) fine.good in
    record {
      count = count;
      few = made.few;
      pairs = subst (λ xs. All (IsPairBelow (length desc.inputs)) xs) (sym pairs)
          (subst (λ n. All (IsPairBelow n) (same ++ share)) (sym count) below);
    }

-- each pair of a description without a fault is one of two different reference inputs
references : (wanted : List Slot) (n : ℕ) (pairs : List (ℕ × ℕ)) → position_from (is_no_pair wanted) n pairs ≡ None
    → All (λ pair. is_pair wanted pair ≡ true) pairs
references wanted n [] e = All-nil (λ (pair : ℕ × ℕ). is_pair wanted pair ≡ true)
references wanted n (pair ∷ pairs) e = go (references wanted (n + 1) pairs) (is_no_pair wanted pair) refl e
  where
    go : (position_from (is_no_pair wanted) (n + 1) pairs ≡ None → All (λ pair. is_pair wanted pair ≡ true) pairs) → (b : Bool)
        → is_no_pair wanted pair ≡ b → cond b (Some n) (position_from (is_no_pair wanted) (n + 1) pairs) ≡ None
        → All (λ pair. is_pair wanted pair ≡ true) (pair ∷ pairs)
    go rest true q f = absurd (let h : Some n ≡ None = f in cc)
    go rest false q f = All-cons (λ (pair : ℕ × ℕ). is_pair wanted pair ≡ true) pair pairs (not-false (is_pair wanted pair) q) (rest f)

pub pairs_are : (p : Program) (text : DescText) → desc_fault p text ≡ None
    → All (λ pair. is_pair (slots_of p) pair ≡ true) (text.same ++ text.share)
unfolding desc_fault
pairs_are p text e =
    let later = (both_none _ _ (both_none _ _ e).1).1 in
    references (slots_of p) 0 (text.same ++ text.share) (later_clean p (text.params ++ text.statics) (text.same ++ text.share) later).good

pub few_made : (inputs : List Input) (found : List (Option Input)) → map Some inputs ≡ found → length found ≤ 512 → length inputs ≤ 512
few_made inputs found e l = let same : length found ≡ length inputs = ap length (sym e) ∙ length-map inputs Some in omega (arith, same)

-- ---- what the initial state needs

lower : (n : ℕ) (pair : ℕ × ℕ) → n ≤ 512 → IsPairBelow n pair → IsPairBelow 2048 pair
lower n pair l h =
    let first = h.1.0 in
    let second = h.1.1 in
    (h.0, (omega arith, omega arith))

pub same_below : (p : Program) (desc : Desc) → IsGoodDesc p desc → All (IsPairBelow 2048) desc.same
same_below p desc good = every_front (IsPairBelow 2048) desc.same desc.share
    (All-weaker (IsPairBelow (length desc.inputs)) (IsPairBelow 2048) (λ pair h. lower (length desc.inputs) pair good.few h)
    (desc.same ++ desc.share) good.pairs)

pub share_below : (p : Program) (desc : Desc) → IsGoodDesc p desc → All (IsPairBelow 2048) desc.share
share_below p desc good = every_back (IsPairBelow 2048) desc.same desc.share
    (All-weaker (IsPairBelow (length desc.inputs)) (IsPairBelow 2048) (λ pair h. lower (length desc.inputs) pair good.few h)
    (desc.same ++ desc.share) good.pairs)

pub inputs_few : (p : Program) (desc : Desc) → IsGoodDesc p desc → length (params_of p) + length p.statics ≤ 2048
inputs_few p desc good =
    let parts : length (slots_of p) ≡ length (params_of p) + length p.statics =
    length-append (map argument_slot (params_of p)) (statics_of p)
    ∙ ap (λ n. n + length (statics_of p)) (length-map (params_of p) argument_slot)
    ∙ ap (λ n. length (params_of p) + n) (length-map p.statics field_slot) in
    let count = good.count in
    let few = good.few in
    omega (arith, parts, count, few)
