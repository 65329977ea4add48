-- What is known of a pool's texts is what they are.
use Rattle.std.proofs.Common.{◌≡◌, ℕ, zero, suc, ◌-◌, Bool, true, false, List, [], ◌∷◌, get_or, map, Option, Some, None, Ok, Err}
use Rattle.std.proofs.Common.{refl, sym, ap, ◌∙◌}
use Rattle.std.specs.Prelude.{option_and_then, nat_le}
use Rattle.std.specs.Option.{option_map_or}
use Rattle.class_base.specs.ClassNames.{is_class_name}
use Rattle.class_base.specs.MemberKinds.{is_descriptor, receiver_words}
use Rattle.class_base.specs.declared.member_kind.MemberKind.{MemberKind}
use Rattle.class_base.specs.declared.member_kind.MemberKind.TheVariants.{Field, Method}
use Rattle.class_pool.specs.declared.entry.PoolEntry.{PoolEntry}
use Rattle.class_pool.specs.declared.entry.PoolEntry.TheVariants.{Class}
use Rattle.class_pool.specs.Text.{entry_at, utf8_at, name_of, name_index_at, class_of, class_name_at}
use Rattle.class_read.specs.declared.known.Kinds.{Kinds}
use Rattle.class_read.specs.declared.fault.ClassFault.TheVariants.{BadDescriptor}
use Rattle.class_read.specs.Reading.{passing, place, named_at, u2_at}
use Rattle.class_read.specs.inner.Known.{kinds_of}

-- ---- what kinds say

by_index : (entries : List PoolEntry) (o : Option PoolEntry)
    → option_and_then (utf8_at entries) (option_and_then name_of o) ≡ option_and_then (class_of entries) o
by_index entries None = refl
by_index entries (Some (Class name)) = refl
by_index entries (Some _) = refl

pub named_by : (entries : List PoolEntry) (i : ℕ) → option_and_then (utf8_at entries) (name_index_at entries i) ≡ class_name_at entries i
named_by entries i = by_index entries (entry_at entries i)

pub no_class : (entries : List PoolEntry) (i : ℕ) → None ≡ name_index_at entries i
    → false ≡ option_map_or is_class_name (class_name_at entries i) false
no_class entries i e = ap (λ o. option_map_or is_class_name o false) (ap (option_and_then (utf8_at entries)) e ∙ named_by entries i)

pub field_known : (flags : ℕ) (o : Option (List ℕ)) → (kinds_of o).field ≡ option_map_or (is_descriptor Field flags) o false
unfolding is_descriptor
field_known flags None = refl
field_known flags (Some text) = refl

pub method_known : (flags : ℕ) (o : Option (List ℕ))
    → option_map_or (λ words. nat_le words (255 - receiver_words flags)) (kinds_of o).words false ≡ option_map_or
    (is_descriptor Method flags) o false
unfolding is_descriptor
method_known flags None = refl
method_known flags (Some text) = refl

-- ---- the descriptor of a member, as it is asked

pub field_asked : (flags : ℕ) (kind : MemberKind) (k : Kinds) (o : Option (List ℕ)) → kind ≡ Field → k ≡ kinds_of o
    → k.field ≡ option_map_or (is_descriptor kind flags) o false
field_asked flags kind k o m e = ap (λ (x : Kinds). x.field) e ∙ field_known flags o
    ∙ ap (λ (x : MemberKind). option_map_or (is_descriptor x flags) o false) (sym m)

pub method_asked : (flags words receiver : ℕ) (kind : MemberKind) (k : Kinds) (o : Option (List ℕ)) → kind ≡ Method → k ≡ kinds_of o
    → k.words ≡ Some words → receiver ≡ receiver_words flags
    → nat_le words (255 - receiver) ≡ option_map_or (is_descriptor kind flags) o false
method_asked flags words receiver kind k o m e w is =
    ap (λ (n : ℕ). nat_le words (255 - n)) is
    ∙ ap (λ (p : Option ℕ). option_map_or (λ x. nat_le x (255 - receiver_words flags)) p false) (sym w ∙ ap (λ (x : Kinds). x.words) e)
    ∙ method_known flags o
    ∙ ap (λ (x : MemberKind). option_map_or (is_descriptor x flags) o false) (sym m)

pub no_method : (flags : ℕ) (kind : MemberKind) (k : Kinds) (o : Option (List ℕ)) → kind ≡ Method → k ≡ kinds_of o → k.words ≡ None
    → false ≡ option_map_or (is_descriptor kind flags) o false
no_method flags kind k o m e w =
    ap (λ (p : Option ℕ). option_map_or (λ x. nat_le x (255 - receiver_words flags)) p false) (sym w ∙ ap (λ (x : Kinds). x.words) e)
    ∙ method_known flags o
    ∙ ap (λ (x : MemberKind). option_map_or (is_descriptor x flags) o false) (sym m)

-- ---- a field that names something, and a test of it

pub passes : {A : Type 0} (look : ℕ → Option A) (test : A → Bool) (total index : ℕ) (bytes rest : List ℕ) (x : A)
    → u2_at total bytes ≡ Ok (index, rest) → Some x ≡ look index → option_map_or test (look index) false ≡ true
    → passing test (λ _. BadDescriptor) total (named_at look total) bytes ≡ Ok (x, rest)
passes look test total index bytes rest x e l t =
    let good : test x ≡ true = ap (λ o. option_map_or test o false) l ∙ t in
    rw (e, ← l, good) refl

pub refused : {A : Type 0} (look : ℕ → Option A) (test : A → Bool) (total index : ℕ) (bytes rest : List ℕ) (x : A)
    → u2_at total bytes ≡ Ok (index, rest) → Some x ≡ look index → option_map_or test (look index) false ≡ false
    → passing test (λ _. BadDescriptor) total (named_at look total) bytes ≡ Err (BadDescriptor (place total bytes))
refused look test total index bytes rest x e l t =
    let bad : test x ≡ false = ap (λ o. option_map_or test o false) l ∙ t in
    rw (e, ← l, bad) refl

pub absent : {A : Type 0} (look : ℕ → Option A) (test : A → Bool) (total index : ℕ) (bytes rest : List ℕ)
    → u2_at total bytes ≡ Ok (index, rest) → None ≡ look index
    → passing test (λ _. BadDescriptor) total (named_at look total) bytes ≡ Err (BadDescriptor (place total bytes))
absent look test total index bytes rest e l = rw (e, ← l) refl
