-- The types of a method's parameters are read one by one, and something is kept of them.
use Rattle.std.proofs.Common.{◌≡◌, ◌≢◌, ℕ, zero, suc, ◌+◌, ◌-◌, ◌<◌, ◌≤◌, false, eqb, List, [], ◌∷◌, ◌++◌, length, Option, Some}
use Rattle.std.proofs.Common.{None, refl, sym, ap, ◌∙◌, append_assoc, append-nil, arith}
use Rattle.std.proofs.lemmas.Bool.{ne_eqb}
use Rattle.std.specs.Option.{option_map}
use Rattle.list_views.specs.Options.{Finds}
use Rattle.class_base.specs.declared.types.FieldType.{FieldType}
use Rattle.class_base.specs.Types.{type_at, type_words}
use Rattle.class_base.specs.MethodTypes.{types_at, words_of}

-- ---- what a loop keeps

-- what is kept after further types, where `step` adds one
abbrev pub kept : {S : Type 0} → (S → FieldType → S) → S → List FieldType → S
kept step s [] = s
kept step s (t ∷ ts) = kept step (step s t) ts

abbrev pub gathered : {S : Type 0} → (S → FieldType → S) → S → Option (List FieldType × List ℕ) → Option (S × List ℕ)
gathered step s read = option_map (λ x. (kept step s x.0, x.1)) read

-- the types themselves
abbrev pub with_type : List FieldType → FieldType → List FieldType
with_type ts t = ts ++ t ∷ []

kept_types : (ts us : List FieldType) → kept with_type ts us ≡ ts ++ us
kept_types ts [] = sym (append-nil ts)
kept_types ts (u ∷ us) = kept_types (ts ++ u ∷ []) us ∙ append_assoc ts (u ∷ []) us

pub all_types : (read : Option (List FieldType × List ℕ)) → gathered with_type [] read ≡ read
all_types None = refl
all_types (Some x) = ap (λ ts. Some (ts, x.1)) (kept_types [] x.0)

-- their words
abbrev pub with_words : ℕ → FieldType → ℕ
with_words words t = words + type_words t

kept_words : (words : ℕ) (ts : List FieldType) → kept with_words words ts ≡ words + words_of ts
kept_words words [] = omega arith
kept_words words (t ∷ ts) = kept_words (words + type_words t) ts ∙ omega arith

pub all_words : (read : Option (List FieldType × List ℕ)) → gathered with_words 0 read ≡ option_map (λ x. (words_of x.0, x.1)) read
all_words None = refl
all_words (Some x) = ap (λ words. Some (words, x.1)) (kept_words 0 x.0 ∙ omega arith)

-- ---- turns

pub ends : {S : Type 0} (step : S → FieldType → S) (turns i first : ℕ) (s : S) (rest after : List ℕ) (all : Option (S × List ℕ))
    → i < turns → rest ≡ first ∷ after → first ≡ 41 → gathered step s (types_at (turns - i) rest) ≡ all → all ≡ Some (s, after)
unfolding types_at
ends step turns i first s rest after all lt is_first is_end so_far =
    let k : turns - i ≡ suc (turns - (i + 1)) = omega arith in
    let one : gathered step s (types_at (turns - i) rest) ≡ Some (s, after) = rw (k, is_first, is_end) refl in
    sym so_far ∙ one

first_kept : {S : Type 0} (step : S → FieldType → S) (s : S) (t : FieldType) (read : Option (List FieldType × List ℕ))
    → gathered step s (option_map (λ more. (t ∷ more.0, more.1)) read) ≡ gathered step (step s t) read
first_kept step s t None = refl
first_kept step s t (Some x) = refl

pub goes : {S : Type 0} (step : S → FieldType → S) (turns i first : ℕ) (t : FieldType) (s more : S) (rest after next : List ℕ)
    (all : Option (S × List ℕ))
    → i < turns → rest ≡ first ∷ after → first ≢ 41 → type_at rest ≡ Some (t, next) → more ≡ step s t
    → gathered step s (types_at (turns - i) rest) ≡ all
    → gathered step more (types_at (turns - (i + 1)) next) ≡ all
unfolding types_at
goes step turns i first t s more rest after next all lt is_first no_end read is so_far =
    let k : turns - i ≡ suc (turns - (i + 1)) = omega arith in
    let other : eqb first 41 ≡ false = ne_eqb first 41 no_end in
    let here : type_at (first ∷ after) ≡ Some (t, next) = rw (← is_first) read in
    let one : gathered step s (types_at (turns - i) rest) ≡ gathered step s
    (option_map (λ more. (t ∷ more.0, more.1)) (types_at (turns - (i + 1)) next)) = rw (k, is_first, other, here) refl in
    rw is (sym (first_kept step s t (types_at (turns - (i + 1)) next)) ∙ sym one ∙ so_far)

pub fails : {S : Type 0} (step : S → FieldType → S) (turns i first : ℕ) (s : S) (rest after : List ℕ) (all : Option (S × List ℕ))
    → i < turns → rest ≡ first ∷ after → first ≢ 41 → type_at rest ≡ None → gathered step s (types_at (turns - i) rest) ≡ all → all ≡ None
unfolding types_at
fails step turns i first s rest after all lt is_first no_end read so_far =
    let k : turns - i ≡ suc (turns - (i + 1)) = omega arith in
    let other : eqb first 41 ≡ false = ne_eqb first 41 no_end in
    let here : type_at (first ∷ after) ≡ None = rw (← is_first) read in
    let one : gathered step s (types_at (turns - i) rest) ≡ None = rw (k, is_first, other, here) refl in
    sym so_far ∙ one

pub empty : {S : Type 0} (step : S → FieldType → S) (turns : ℕ) (s : S) (rest : List ℕ) (all : Option (S × List ℕ))
    → length rest ≡ 0 → gathered step s (types_at turns rest) ≡ all → all ≡ None
unfolding types_at
empty step zero s rest all none so_far = sym so_far
empty step (suc turns) s [] all none so_far = sym so_far
empty step (suc turns) s (b ∷ rest) all none so_far = absurd (omega arith)

pub out : {S : Type 0} (step : S → FieldType → S) (turns i : ℕ) (s : S) (rest : List ℕ) (all : Option (S × List ℕ)) → turns ≤ i
    → gathered step s (types_at (turns - i) rest) ≡ all → all ≡ None
unfolding types_at
out step turns i s rest all le so_far =
    let k : turns - i ≡ 0 = omega arith in
    let one : gathered step s (types_at (turns - i) rest) ≡ None = rw k refl in
    sym so_far ∙ one

-- a call that found nothing
pub nothing : {X Y : Type 0} (view : X → Y) (r : Option X) (all : Option Y) → r ≡ None → all ≡ None → Finds view r all
nothing view None all e h = h
nothing view (Some x) all e h = absurd cc
