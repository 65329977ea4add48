-- One more field or method of a class.
use Rattle.std.proofs.Common.{◌≡◌, ◌||◌, not, cond, Bool, true, false, ℕ, List, [], ◌∷◌, ◌++◌, map, Ok, Err, refl, sym, ap, ◌∙◌}
use Rattle.std.specs.List.{list_any}
use Rattle.std.proofs.lemmas.List.{map-append}
use Rattle.std.proofs.lemmas.List.Folds.{list_any-append}
use Rattle.class_base.proofs.list_views.Truths.{or_behind}
use Rattle.class_pool.specs.declared.entry.PoolEntry.{PoolEntry}
use Rattle.class_pool.specs.Text.{utf8_at}
use Rattle.class_read.specs.declared.fault.ClassFault.{ClassFault}
use Rattle.class_read.specs.declared.fault.ClassFault.TheVariants.{DuplicateMember}
use Rattle.class_base.specs.declared.member_kind.MemberKind.{MemberKind}
use Rattle.class_base.specs.declared.member_kind.MemberKind.TheVariants.{Field, Method}
use Rattle.class_read.specs.declared.view.FieldView.{FieldView}
use Rattle.class_read.specs.declared.view.MethodView.{MethodView}
use Rattle.class_read.specs.Content.{FieldContent, MethodContent}
use Rattle.class_read.specs.View.{field_content, method_content}
use Rattle.class_read.specs.Rules.{same_key, has_code}
use Rattle.class_read.specs.Reading.{Read, and_then, ◌>>=◌, pure, place, u2_at, named_at, collected, Fails}
use Rattle.class_read.specs.FirstFault.{Key, descriptor_at, new_descriptor_at, head_at, attributes_at, method_attributes_at}
use Rattle.class_read.specs.FirstFault.{field_keys, method_keys, field_at, method_at, more_fields_at, more_methods_at}
use Rattle.class_read.proofs.Loop.{fails_along}

-- two lists have the same keys
abbrev pub SameKeys : List Key → List Key → Type 0
SameKeys xs ys = (k : Key) → list_any (same_key k) xs ≡ list_any (same_key k) ys

at_end : (p : Key → Bool) (ks : List Key) (k : Key) → (p k || list_any p ks) ≡ list_any p (ks ++ k ∷ [])
at_end p ks k = or_behind (p k) (list_any p ks) ∙ sym (list_any-append p ks (k ∷ []))

then_same : {A B : Type 0} (r : Read A) (f g : A → List ℕ → Read B) → ((x : A) (rest : List ℕ) → f x rest ≡ g x rest)
    → and_then r f ≡ and_then r g
then_same (Ok x) f g h = h x.0 x.1
then_same (Err e) f g h = refl

same_new : (total : ℕ) (pool : List PoolEntry) (kind : MemberKind) (xs ys : List Key) (flags : ℕ) (name bytes : List ℕ) → SameKeys xs ys
    → new_descriptor_at total pool kind xs flags name bytes ≡ new_descriptor_at total pool kind ys flags name bytes
same_new total pool kind xs ys flags name bytes same =
    then_same (descriptor_at total pool kind flags bytes)
    (λ desc rest. cond (not (list_any (same_key (name, desc)) xs)) (Ok (desc, rest)) (Err (DuplicateMember (place total bytes))))
    (λ desc rest. cond (not (list_any (same_key (name, desc)) ys)) (Ok (desc, rest)) (Err (DuplicateMember (place total bytes))))
    (λ desc rest. ap (λ (b : Bool). cond (not b) (Ok (desc, rest)) (Err (DuplicateMember (place total bytes)))) (same (name, desc)))

abbrev head_made : ℕ → List ℕ → List ℕ → List ℕ → Read FieldContent
head_made flags name desc rest = Ok (record { flags = flags; name = name; desc = desc }, rest)

same_head : (total : ℕ) (pool : List PoolEntry) (kind : MemberKind) (xs ys : List Key) (bytes : List ℕ) → SameKeys xs ys
    → head_at total pool kind xs bytes ≡ head_at total pool kind ys bytes
unfolding head_at
same_head total pool kind xs ys bytes same =
    let after : List Key → ℕ → List ℕ → List ℕ → Read FieldContent = λ earlier flags name rest. and_then
    (new_descriptor_at total pool kind earlier flags name rest) (head_made flags name) in
    let named : List Key → ℕ → List ℕ → Read FieldContent = λ earlier flags rest. and_then (named_at (utf8_at pool) total rest)
    (after earlier flags) in
    then_same (u2_at total bytes) (named xs) (named ys)
    (λ flags r. then_same (named_at (utf8_at pool) total r) (after xs flags) (after ys flags)
    (λ name s. ap (λ (d : Read (List ℕ)). and_then d (head_made flags name)) (same_new total pool kind xs ys flags name s same)))

same_field : (total : ℕ) (pool : List PoolEntry) (xs ys : List Key) (bytes : List ℕ) → SameKeys xs ys
    → field_at total pool xs bytes ≡ field_at total pool ys bytes
unfolding field_at
same_field total pool xs ys bytes same =
    ap (λ (r : Read FieldContent). and_then r (λ field. attributes_at total pool >>= λ skipped. pure field))
    (same_head total pool Field xs ys bytes same)

same_method : (total : ℕ) (pool : List PoolEntry) (xs ys : List Key) (bytes : List ℕ) → SameKeys xs ys
    → method_at total pool xs bytes ≡ method_at total pool ys bytes
unfolding method_at
same_method total pool xs ys bytes same =
    ap (λ (r : Read FieldContent). and_then r
    (λ head. method_attributes_at total pool (has_code head.flags) >>= λ code. pure
    (record { flags = head.flags; name = head.name; desc = head.desc; code = code })))
    (same_head total pool Method xs ys bytes same)

-- one more field
pub field_steps : (total : ℕ) (pool : List PoolEntry) (seen : List Key) (had next : List FieldView) (more : FieldView)
    (bytes rest : List ℕ)
    → SameKeys seen (field_keys (map field_content had)) → field_at total pool seen bytes ≡ Ok (field_content more, rest)
    → next ≡ had ++ more ∷ []
    → more_fields_at total pool (map field_content had) bytes ≡ Ok (map field_content next, rest)
unfolding more_fields_at collected
field_steps total pool seen had next more bytes rest keys read pushed =
    let read_here : field_at total pool (field_keys (map field_content had)) bytes ≡ Ok (field_content more, rest) = sym
    (same_field total pool seen (field_keys (map field_content had)) bytes keys) ∙ read in
    let longer : map field_content next ≡ map field_content had ++ field_content more ∷ [] = rw pushed
    (map-append field_content had (more ∷ [])) in
    rw (read_here, longer) refl

pub field_seen : (seen now : List Key) (had next : List FieldView) (more : FieldView)
    → SameKeys seen (field_keys (map field_content had)) → next ≡ had ++ more ∷ []
    → ((k : Key) → list_any (same_key k) now ≡ (same_key k (more.name.now, more.desc.now) || list_any (same_key k) seen))
    → SameKeys now (field_keys (map field_content next))
field_seen seen now had next more keys pushed added k =
    let longer : map field_content next ≡ map field_content had ++ field_content more ∷ [] = rw pushed
    (map-append field_content had (more ∷ [])) in
    let key : FieldContent → Key = λ m. (m.name, m.desc) in
    let all : field_keys (map field_content next) ≡ field_keys (map field_content had) ++ (more.name.now, more.desc.now) ∷ [] = rw
    longer (map-append key (map field_content had) (field_content more ∷ [])) in
    added k ∙ ap (λ (b : Bool). same_key k (more.name.now, more.desc.now) || b) (keys k)
    ∙ at_end (same_key k) (field_keys (map field_content had)) (more.name.now, more.desc.now) ∙ ap (list_any (same_key k)) (sym all)

pub field_fails : (e : ClassFault) (total : ℕ) (pool : List PoolEntry) (seen : List Key) (had : List FieldView) (bytes : List ℕ)
    → SameKeys seen (field_keys (map field_content had)) → Fails e (field_at total pool seen bytes)
    → Fails e (more_fields_at total pool (map field_content had) bytes)
unfolding more_fields_at collected
field_fails e total pool seen had bytes keys failed =
    fails_along e (field_at total pool seen bytes) (more_fields_at total pool (map field_content had) bytes)
    (λ h. let here : field_at total pool (field_keys (map field_content had)) bytes ≡ Err e = sym
    (same_field total pool seen (field_keys (map field_content had)) bytes keys) ∙ h in rw here refl) failed

-- one more method
pub method_steps : (total : ℕ) (pool : List PoolEntry) (seen : List Key) (had next : List MethodView) (more : MethodView)
    (bytes rest : List ℕ)
    → SameKeys seen (method_keys (map method_content had)) → method_at total pool seen bytes ≡ Ok (method_content more, rest)
    → next ≡ had ++ more ∷ []
    → more_methods_at total pool (map method_content had) bytes ≡ Ok (map method_content next, rest)
unfolding more_methods_at collected
method_steps total pool seen had next more bytes rest keys read pushed =
    let read_here : method_at total pool (method_keys (map method_content had)) bytes ≡ Ok (method_content more, rest) = sym
    (same_method total pool seen (method_keys (map method_content had)) bytes keys) ∙ read in
    let longer : map method_content next ≡ map method_content had ++ method_content more ∷ [] = rw pushed
    (map-append method_content had (more ∷ [])) in
    rw (read_here, longer) refl

pub method_seen : (seen now : List Key) (had next : List MethodView) (more : MethodView)
    → SameKeys seen (method_keys (map method_content had)) → next ≡ had ++ more ∷ []
    → ((k : Key) → list_any (same_key k) now ≡ (same_key k (more.name.now, more.desc.now) || list_any (same_key k) seen))
    → SameKeys now (method_keys (map method_content next))
method_seen seen now had next more keys pushed added k =
    let longer : map method_content next ≡ map method_content had ++ method_content more ∷ [] = rw pushed
    (map-append method_content had (more ∷ [])) in
    let key : MethodContent → Key = λ m. (m.name, m.desc) in
    let all : method_keys (map method_content next) ≡ method_keys (map method_content had) ++ (more.name.now, more.desc.now) ∷ [] =
    rw longer (map-append key (map method_content had) (method_content more ∷ [])) in
    added k ∙ ap (λ (b : Bool). same_key k (more.name.now, more.desc.now) || b) (keys k)
    ∙ at_end (same_key k) (method_keys (map method_content had)) (more.name.now, more.desc.now) ∙ ap (list_any (same_key k)) (sym all)

pub method_fails : (e : ClassFault) (total : ℕ) (pool : List PoolEntry) (seen : List Key) (had : List MethodView) (bytes : List ℕ)
    → SameKeys seen (method_keys (map method_content had)) → Fails e (method_at total pool seen bytes)
    → Fails e (more_methods_at total pool (map method_content had) bytes)
unfolding more_methods_at collected
method_fails e total pool seen had bytes keys failed =
    fails_along e (method_at total pool seen bytes) (more_methods_at total pool (map method_content had) bytes)
    (λ h. let here : method_at total pool (method_keys (map method_content had)) bytes ≡ Err e = sym
    (same_method total pool seen (method_keys (map method_content had)) bytes keys) ∙ h in rw here refl) failed
