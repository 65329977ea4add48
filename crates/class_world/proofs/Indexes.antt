-- The tables of members, class by class.
use Rattle.std.proofs.Common.{◌≡◌, ℕ, zero, suc, ◌+◌, ◌<◌, ◌≤◌, Bool, true, false, cond, eqb, List, [], ◌∷◌, ◌++◌, length, get_or}
use Rattle.std.proofs.Common.{take, Option, Some, None, sym, refl, ap, ap₂, ◌∙◌, subst, arith, add-one, length-append}
use Rattle.std.specs.Prelude.{map, position, slice_get, option_and_then, IfSome}
use Rattle.std.specs.List.{filter_map, cons_option, list_any, list_all, IsDistinct, AllByRecursion}
use Rattle.std.specs.Option.{option_map_or, option_len}
use Rattle.std.proofs.Math.Seq.{take-suc}
use Rattle.std.proofs.lemmas.Option.{slice_get_past}
use Rattle.std.proofs.lemmas.Bool.{and_parts, ltb-true}
use Rattle.std.proofs.lemmas.List.Quantifiers.{position-Some}
use Rattle.std.proofs.lemmas.List.Elements.{filter_map-append}
use Rattle.code_forms.proofs.list_views.Items.{length_mapped, length_taken}
use Rattle.class_read.specs.Content.{ClassContent, FieldContent}
use Rattle.class_read.specs.Rules.{same_key, key_of, field_of, method_of}
use Rattle.class_read.specs.View.{field_content, method_content}
use Rattle.class_read.specs.declared.view.FieldView.{FieldView}
use Rattle.class_read.specs.declared.view.MethodView.{MethodView}
use Rattle.jvm_values.specs.declared.types.Slot.{Slot}
use Rattle.class_world.specs.World.{World, built_in, built_ins, built_in_names, world_of, class_of, super_of}
use Rattle.class_world.specs.inner.Once.{once, interfaces_once}
use Rattle.class_world.specs.Linking.{CanBeRead, has_few_members}
use Rattle.class_world.specs.Members.{is_method_named, declared_method}
use Rattle.class_world.specs.Fields.{field_slot}
use Rattle.class_world.specs.Resolve.{is_field_named, declared_field, is_initialiser, is_initialised}
use Rattle.class_world.specs.inner.Tables.{values_to}
use Rattle.class_world.specs.inner.Index.{Key, has_places, field_key, method_key, field_content_key, method_content_key}
use Rattle.class_world.specs.inner.Index.{HasDistinctMembers, method_keys, field_keys, kept_before, kept_counts, kept_row}
use Rattle.code_forms.proofs.class_base.Maps.{position-map}
use Rattle.class_world.proofs.Tables.{class_at, values_more, length-values, get_or-values}

pub map_map : {A B C : Type 0} (f : B → C) (g : A → B) (xs : List A) → map f (map g xs) ≡ map (λ x. f (g x)) xs
map_map f g [] = refl
map_map f g (x ∷ xs) = ap (λ ys. f (g x) ∷ ys) (map_map f g xs)

differ_at : (world : World) (class : ℕ) (c : ClassContent) → AllByRecursion HasDistinctMembers world
    → slice_get world class ≡ Some c → HasDistinctMembers c
differ_at [] class c h s = cc
differ_at (x ∷ xs) zero c h s = let same : x ≡ c = cc in subst HasDistinctMembers same h.0
differ_at (x ∷ xs) (suc n) c h s = differ_at xs n c h.1 s

method_keys_are : (c : ClassContent) (inside methods : List MethodView) → map method_content inside ≡ c.methods → methods ≡ inside
    → map method_key methods ≡ map method_content_key c.methods
method_keys_are c inside methods p q = ap (map method_key) q ∙ sym (map_map method_content_key method_content inside)
    ∙ ap (map method_content_key) p

field_keys_are : (c : ClassContent) (inside fields : List FieldView) → map field_content inside ≡ c.fields → fields ≡ inside
    → map field_key fields ≡ map field_content_key c.fields
field_keys_are c inside fields p q = ap (map field_key) q ∙ sym (map_map field_content_key field_content inside)
    ∙ ap (map field_content_key) p

pub methods_differ : (world : World) (class : ℕ) (c : ClassContent) (inside methods : List MethodView)
    → AllByRecursion HasDistinctMembers world → class < length world → c ≡ get_or world class c
    → map method_content inside ≡ c.methods → methods ≡ inside → IsDistinct same_key (map method_key methods)
methods_differ world class c inside methods h l e p q = subst (IsDistinct same_key) (sym (method_keys_are c inside methods p q))
    (differ_at world class c h (class_at world class c l e)).methods

pub fields_differ : (world : World) (class : ℕ) (c : ClassContent) (inside fields : List FieldView)
    → AllByRecursion HasDistinctMembers world → class < length world → c ≡ get_or world class c
    → map field_content inside ≡ c.fields → fields ≡ inside → IsDistinct same_key (map field_key fields)
fields_differ world class c inside fields h l e p q = subst (IsDistinct same_key) (sym (field_keys_are c inside fields p q))
    (differ_at world class c h (class_at world class c l e)).fields

pub methods_from : (world : World) (class : ℕ) (c : ClassContent) (inside methods : List MethodView) → class < length world
    → c ≡ get_or world class c → map method_content inside ≡ c.methods → methods ≡ inside
    → map method_key methods ≡ method_keys world class
unfolding method_keys
methods_from world class c inside methods l e p q =
    method_keys_are c inside methods p q ∙ ap (λ o. option_map_or (λ x. map method_content_key x.methods) o [])
    (sym (class_at world class c l e))

pub fields_from : (world : World) (class : ℕ) (c : ClassContent) (inside fields : List FieldView) → class < length world
    → c ≡ get_or world class c → map field_content inside ≡ c.fields → fields ≡ inside → map field_key fields ≡ field_keys world class
unfolding field_keys
fields_from world class c inside fields l e p q =
    field_keys_are c inside fields p q ∙ ap (λ o. option_map_or (λ x. map field_content_key x.fields) o [])
    (sym (class_at world class c l e))

pub initialised_from : (world : World) (class : ℕ) (c : ClassContent) (inside methods : List MethodView) → class < length world
    → c ≡ get_or world class c → map method_content inside ≡ c.methods → methods ≡ inside
    → list_any is_initialiser (map method_content methods) ≡ is_initialised world class
unfolding is_initialised
initialised_from world class c inside methods l e p q =
    ap (λ ms. list_any is_initialiser (map method_content ms)) q ∙ ap (list_any is_initialiser) p
    ∙ ap (λ o. option_map_or (λ x. list_any is_initialiser x.methods) o false) (sym (class_at world class c l e))

pub kept_from : (world : World) (class : ℕ) (c : ClassContent) (inside fields : List FieldView) → class < length world
    → c ≡ get_or world class c → map field_content inside ≡ c.fields → fields ≡ inside
    → kept_counts world (map field_content fields) ≡ kept_row world class
unfolding kept_row
kept_from world class c inside fields l e p q =
    ap (λ fs. kept_counts world (map field_content fs)) q ∙ ap (kept_counts world) p
    ∙ ap (λ o. option_map_or (λ x. kept_counts world x.fields) o []) (sym (class_at world class c l e))

-- ---- counting

length-cons : {B : Type 0} (o : Option B) → length (cons_option o []) ≡ option_len o
length-cons None = refl
length-cons (Some y) = refl

pub length-filtered : {A B : Type 0} (f : A → Option B) (xs : List A) → length (filter_map f xs) ≤ length xs
length-filtered f [] = omega arith
length-filtered {B} f (x ∷ xs) = go (f x) (length-filtered f xs)
  where
    go : (o : Option B) → length (filter_map f xs) ≤ length xs → length (cons_option o (filter_map f xs)) ≤ suc (length xs)
    go None l = omega (arith, l)
    go (Some y) l = omega (arith, l)

pub kept_none : (world : World) (fields : List FieldContent) → kept_before world fields 0 ≡ 0
unfolding kept_before
kept_none world fields = refl

pub kept_more : (world : World) (fields : List FieldView) (i : ℕ) (d : FieldView) → i < length fields
    → kept_before world (map field_content fields) (i + 1) ≡ kept_before world (map field_content fields) i + option_len
    (field_slot world (field_content (get_or fields i d)))
unfolding kept_before
kept_more world fields i d l =
    let f = field_slot world in
    let fs = map field_content fields in
    let e : take (i + 1) fs ≡ take i fs ++ get_or fs i (field_content d) ∷ [] = rw (add-one)
    (take-suc fs i (field_content d) (omega (arith, l, length_mapped field_content fields))) in
    ap (λ xs. length (filter_map f xs)) e
    ∙ ap length (filter_map-append f (take i fs) (get_or fs i (field_content d) ∷ []))
    ∙ length-append (filter_map f (take i fs)) (cons_option (f (get_or fs i (field_content d))) [])
    ∙ ap (λ n. length (filter_map f (take i fs)) + n) (length-cons (f (get_or fs i (field_content d))))
    ∙ ap (λ x. length (filter_map f (take i fs)) + option_len (f x)) (get_or-map field_content fields i d)
  where
    get_or-map : {A B : Type 0} (g : A → B) (xs : List A) (j : ℕ) (x : A) → get_or (map g xs) j (g x) ≡ g (get_or xs j x)
    get_or-map g [] j x = refl
    get_or-map g (y ∷ ys) zero x = refl
    get_or-map g (y ∷ ys) (suc j) x = get_or-map g ys j x

pub kept_most : (world : World) (fields : List FieldContent) (i : ℕ) → kept_before world fields i ≤ i
unfolding kept_before
kept_most world fields i = omega (arith, length-filtered (field_slot world) (take i fields), length_taken i fields)

pub kept_step : (world : World) (fields : List FieldView) (i kept more : ℕ) (d : FieldView) → i < length fields
    → kept ≡ kept_before world (map field_content fields) i
    → more ≡ kept + option_len (field_slot world (field_content (get_or fields i d)))
    → more ≡ kept_before world (map field_content fields) (i + 1)
kept_step world fields i kept more d l e m = m ∙ ap (λ n. n + option_len (field_slot world (field_content (get_or fields i d)))) e
    ∙ sym (kept_more world fields i d l)

pub counts_first : (g : ℕ → ℕ) (start counts : List ℕ) → start ≡ [] → counts ≡ start ++ 0 ∷ [] → g 0 ≡ 0 → counts ≡ values_to g 1
unfolding values_to
counts_first g start counts e m z = m ∙ ap (λ xs. xs ++ 0 ∷ []) e ∙ ap (λ n. n ∷ []) (sym z)

pub counts_more : (g : ℕ → ℕ) (i x : ℕ) (counts more : List ℕ) → counts ≡ values_to g i → more ≡ counts ++ x ∷ [] → x ≡ g i
    → more ≡ values_to g (i + 1)
counts_more g i x counts more e m h = m ∙ ap₂ (λ xs y. xs ++ y ∷ []) e h ∙ sym (values_more g i)

-- ---- classes that are read have members that differ

distinct_read : (c : ClassContent) → CanBeRead c → HasDistinctMembers c
distinct_read c r =
    let s = r.1 in
    let methods : map method_content_key c.methods ≡ map (key_of s.text.pool) s.text.methods = ap
    (λ x. map method_content_key x.methods) (sym s.content) ∙ map_map method_content_key (method_of s.text.pool) s.text.methods in
    let fields : map field_content_key c.fields ≡ map (key_of s.text.pool) s.text.fields = ap (λ x. map field_content_key x.fields)
    (sym s.content) ∙ map_map field_content_key (field_of s.text.pool) s.text.fields in
    record {
      methods = subst (IsDistinct same_key) (sym methods) s.rules.methods_differ;
      fields = subst (IsDistinct same_key) (sym fields) s.rules.fields_differ;
    }

all_distinct_read : (cs : List ClassContent) → AllByRecursion CanBeRead cs → AllByRecursion HasDistinctMembers cs
all_distinct_read [] h = tt
all_distinct_read (c ∷ cs) h = (distinct_read c h.0, all_distinct_read cs h.1)

distinct_built : (names : List (List ℕ × List ℕ)) → AllByRecursion HasDistinctMembers (map (λ n. built_in n.0 n.1) names)
unfolding IsDistinct
distinct_built [] = tt
distinct_built (n ∷ names) = (record { methods = (tt, tt); fields = tt }, distinct_built names)

all_both : (P : ClassContent → Type 0) (xs ys : List ClassContent) → AllByRecursion P xs → AllByRecursion P ys
    → AllByRecursion P (xs ++ ys)
all_both P [] ys e f = f
all_both P (x ∷ xs) ys e f = (e.0, all_both P xs ys e.1 f)

pub distinct_world : (given : List ClassContent) (world : World) → world ≡ world_of given → AllByRecursion CanBeRead given
    → AllByRecursion HasDistinctMembers world
distinct_world given world e h = subst (λ (w : World). AllByRecursion HasDistinctMembers w) (sym e)
    (all_both HasDistinctMembers built_ins given (distinct_built built_in_names) (all_distinct_read given h))

-- ---- looking members up

pub declared_found : (world : World) (table : List (List Key)) (class : ℕ) (keys : List Key) (name desc : List ℕ) (r : Option ℕ)
    → table ≡ values_to (method_keys world) (length world) → class < length table → keys ≡ get_or table class keys
    → r ≡ position (same_key (name, desc)) keys → r ≡ declared_method world class name desc
unfolding declared_method method_keys
declared_found world table class keys name desc r t l k e =
    let m : length table ≡ length world = ap length t ∙ length-values (method_keys world) (length world) in
    let here : keys ≡ method_keys world class = k ∙ ap (λ x. get_or x class keys) t
    ∙ get_or-values (method_keys world) (length world) class keys (omega (arith, l, m)) in
    e ∙ ap (position (same_key (name, desc))) here ∙ go (slice_get world class)
  where
    go : (o : Option ClassContent) → position (same_key (name, desc)) (option_map_or (λ c. map method_content_key c.methods) o [])
        ≡ option_and_then (λ c. position (is_method_named name desc) c.methods) o
    go None = refl
    go (Some c) = position-map (same_key (name, desc)) method_content_key c.methods

pub declared_past : (world : World) (table : List (List Key)) (class : ℕ) (name desc : List ℕ)
    → table ≡ values_to (method_keys world) (length world) → length table ≤ class → None ≡ declared_method world class name desc
unfolding declared_method
declared_past world table class name desc t l =
    let m : length table ≡ length world = ap length t ∙ length-values (method_keys world) (length world) in
    ap (option_and_then (λ x. position (is_method_named name desc) x.methods)) (sym (slice_get_past world class (omega (arith, l, m))))

pub placed_from : (slots seen : List (List Slot)) (all : Bool) → seen ≡ slots → all ≡ list_all has_places seen → all ≡ true
    → list_all has_places slots ≡ true
placed_from slots seen all e a n = ap (list_all has_places) (sym e) ∙ sym a ∙ n

pub field_found : (world : World) (table : List (List Key)) (class : ℕ) (keys : List Key) (name desc : List ℕ) (r : Option ℕ)
    → table ≡ values_to (field_keys world) (length world) → class < length table → keys ≡ get_or table class keys
    → r ≡ position (same_key (name, desc)) keys → r ≡ declared_field world class name desc
unfolding declared_field field_keys
field_found world table class keys name desc r t l k e =
    let m : length table ≡ length world = ap length t ∙ length-values (field_keys world) (length world) in
    let here : keys ≡ field_keys world class = k ∙ ap (λ x. get_or x class keys) t
    ∙ get_or-values (field_keys world) (length world) class keys (omega (arith, l, m)) in
    e ∙ ap (position (same_key (name, desc))) here ∙ go (slice_get world class)
  where
    go : (o : Option ClassContent) → position (same_key (name, desc)) (option_map_or (λ c. map field_content_key c.fields) o [])
        ≡ option_and_then (λ c. position (is_field_named name desc) c.fields) o
    go None = refl
    go (Some c) = position-map (same_key (name, desc)) field_content_key c.fields

pub field_past : (world : World) (table : List (List Key)) (class : ℕ) (name desc : List ℕ)
    → table ≡ values_to (field_keys world) (length world) → length table ≤ class → None ≡ declared_field world class name desc
unfolding declared_field
field_past world table class name desc t l =
    let m : length table ≡ length world = ap length t ∙ length-values (field_keys world) (length world) in
    ap (option_and_then (λ x. position (is_field_named name desc) x.fields)) (sym (slice_get_past world class (omega (arith, l, m))))

pub few_fields : (world : World) (n : ℕ) (c : ClassContent) → list_all has_few_members world ≡ true → slice_get world n ≡ Some c
    → length c.fields < 65536
few_fields [] n c e s = cc
few_fields (x ∷ xs) zero c e s =
    let same : x ≡ c = cc in
    let r = and_parts (has_few_members x) (list_all has_few_members xs) e in
    subst (λ (y : ClassContent). length y.fields < 65536) same (ltb-true (length x.fields) 65536 (and_parts _ _ r.0).0)
few_fields (x ∷ xs) (suc n) c e s = few_fields xs n c (and_parts (has_few_members x) (list_all has_few_members xs) e).1 s

pub field_within : (world : World) (class : ℕ) (name desc : List ℕ) (r : Option ℕ) → list_all has_few_members world ≡ true
    → r ≡ declared_field world class name desc → IfSome r (λ i. i < 65536)
unfolding declared_field
field_within world class name desc None few e = tt
field_within world class name desc (Some i) few e = go (slice_get world class) refl e
  where
    go : (o : Option ClassContent) → slice_get world class ≡ o
        → Some i ≡ option_and_then (λ x. position (is_field_named name desc) x.fields) o → i < 65536
    go None s f = cc
    go (Some c) s f =
        let here = (position-Some (is_field_named name desc) c.fields i (record { flags = 0; name = []; desc = [] }) (sym f)).0 in
        omega (arith, here, few_fields world class c few s)

pub initialised_found : (world : World) (table : List Bool) (class : ℕ) (r : Bool)
    → table ≡ values_to (is_initialised world) (length world) → class < length table → r ≡ get_or table class r
    → r ≡ is_initialised world class
initialised_found world table class r t l k =
    let m : length table ≡ length world = ap length t ∙ length-values (is_initialised world) (length world) in
    k ∙ ap (λ x. get_or x class r) t ∙ get_or-values (is_initialised world) (length world) class r (omega (arith, l, m))

pub initialised_past : (world : World) (table : List Bool) (class : ℕ) → table ≡ values_to (is_initialised world) (length world)
    → length table ≤ class → false ≡ is_initialised world class
unfolding is_initialised
initialised_past world table class t l =
    let m : length table ≡ length world = ap length t ∙ length-values (is_initialised world) (length world) in
    ap (λ o. option_map_or (λ c. list_any is_initialiser c.methods) o false) (sym (slice_get_past world class (omega (arith, l, m))))

-- a table of the values of a function, read at a number
pub table_found : {A : Type 0} (f : ℕ → A) (n : ℕ) (table : List A) (i : ℕ) (r : A) → table ≡ values_to f n → i < length table
    → r ≡ get_or table i r → r ≡ f i
table_found f n table i r t l k =
    let m : length table ≡ n = ap length t ∙ length-values f n in
    k ∙ ap (λ x. get_or x i r) t ∙ get_or-values f n i r (omega (arith, l, m))

pub table_past : {A : Type 0} (f : ℕ → A) (n : ℕ) (table : List A) (i : ℕ) (none : A) → table ≡ values_to f n
    → ((j : ℕ) → n ≤ j → none ≡ f j) → length table ≤ i → none ≡ f i
table_past f n table i none t past l =
    let m : length table ≡ n = ap length t ∙ length-values f n in
    past i (omega (arith, l, m))

pub no_super : (world : World) (class : ℕ) → length world ≤ class → None ≡ super_of world class
no_super world class l = go (eqb class 0)
  where
    go : (z : Bool) → None ≡ cond z None (option_and_then (λ c. class_of world c.super_name) (slice_get world class))
    go true = refl
    go false = ap (option_and_then (λ c. class_of world c.super_name)) (sym (slice_get_past world class l))

pub no_interfaces : (world : World) (class : ℕ) → length world ≤ class → [] ≡ interfaces_once world class
unfolding interfaces_once
no_interfaces world class l = ap (λ o. once (option_map_or (λ c. filter_map (class_of world) c.interfaces) o []))
    (sym (slice_get_past world class l))
