-- Lists of static fields: what instructions name, and the static fields of a program.
use Rattle.std.proofs.Common.{◌≡◌, ◌++◌, ◌||◌, ◌&&◌, ℕ, zero, suc, ◌+◌, ◌<◌, ◌≤◌, Bool, true, false, cond, eqb, ltb, List, [], ◌∷◌}
use Rattle.std.proofs.Common.{length, drop, drop-cons, get_or, add-one, zero-add, append_assoc, append-nil, Option, Some, None, Ok}
use Rattle.std.proofs.Common.{Err, refl, ap, sym, ◌∙◌, subst, arith}
use Rattle.std.specs.Prelude.{map, option_and_then}
use Rattle.std.specs.List.{filter_map, flat_map, cons_option, range_with_len}
use Rattle.std.specs.Option.{option_to_list}
use Rattle.std.proofs.lemmas.Bool.{and_parts, eqb-true, or_right, lt-ltb, le-ltb, ltb-false}
use Rattle.std.proofs.lemmas.List.{drop_all}
use Rattle.std.proofs.lemmas.List.Folds.{list_any-append}
use Rattle.std.proofs.lemmas.List.Concat.{flat_map-append}
use Rattle.std.proofs.lemmas.List.Elements.{filter_map-append}
use Rattle.class_world.proofs.Counting.{range_more}
use Rattle.class_world.specs.declared.fault.LinkFault.TheVariants.{TooManyStatics}
use Rattle.class_world.specs.World.{World}
use Rattle.class_world.specs.Resolve.{field_at, is_static_field}
use Rattle.class_world.specs.declared.world.MethodRef.{MethodRef}
use Rattle.class_program.specs.declared.op.Op.{Op}
use Rattle.class_program.specs.declared.op.Op.TheVariants.{Plain, Constant, Getstatic, Putstatic, Getfield, Putfield, Invokevirtual}
use Rattle.class_program.specs.declared.op.Op.TheVariants.{Invokespecial, Invokestatic, Invokeinterface, New, Anewarray, Checkcast}
use Rattle.class_program.specs.declared.op.Op.TheVariants.{Instanceof}
use Rattle.class_program.specs.declared.op.FieldRef.{FieldRef}
use Rattle.class_program.specs.declared.program.Method.{Method}
use Rattle.class_program.specs.declared.program.StaticField.{StaticField}
use Rattle.class_program.specs.Reached.{op_numbered, insns_numbered, method_numbered}
use Rattle.class_program.specs.Statics.{field_count, same_field, has_field, with_field, SameFields, field_named, fields_in}
use Rattle.class_program.specs.Statics.{fields_named, static_field, static_at, statics_in, statics_of, few_statics, statics_named}

-- ---- lists with the same fields

field_is : (a b : FieldRef) → same_field a b ≡ true → (xs : List FieldRef) → has_field xs a ≡ has_field xs b
field_is a b e xs =
    let both = and_parts (eqb a.class b.class) (eqb a.index b.index) e in
    let class = eqb-true a.class b.class both.0 in
    let index = eqb-true a.index b.index both.1 in
    ap (λ (c : ℕ). has_field xs (record { class = c; index = a.index })) class
    ∙ ap (λ (i : ℕ). has_field xs (record { class = b.class; index = i })) index

-- a field that is put behind a list, unless it stands there
pub same_with : (xs : List FieldRef) (new : FieldRef) → SameFields (with_field xs new) (xs ++ new ∷ [])
same_with xs new field = go (has_field xs new) refl
  where
    there : has_field xs new ≡ true → (b : Bool) → same_field field new ≡ b → has_field xs field ≡ (has_field xs field || (b || false))
    there h true s =
        let here : has_field xs field ≡ true = field_is field new s xs ∙ h in
        here ∙ sym (or_right (has_field xs field) (true || false) refl)
    there h false s = none (has_field xs field)
      where
        none : (b : Bool) → b ≡ (b || (false || false))
        none true = refl
        none false = refl

    go : (b : Bool) → has_field xs new ≡ b → has_field (cond b xs (xs ++ new ∷ [])) field ≡ has_field (xs ++ new ∷ []) field
    go true h = there h (same_field field new) refl ∙ sym (list_any-append (same_field field) xs (new ∷ []))
    go false h = refl

pub same_behind : (xs ys rest : List FieldRef) → SameFields xs ys → SameFields (xs ++ rest) (ys ++ rest)
same_behind xs ys rest h field =
    list_any-append (same_field field) xs rest ∙ ap (λ b. b || has_field rest field) (h field)
    ∙ sym (list_any-append (same_field field) ys rest)

pub same_added : (fields more : List FieldRef) (o : Option FieldRef) (new : FieldRef) → more ≡ with_field fields new → o ≡ Some new
    → SameFields more (fields ++ option_to_list o)
same_added fields more o new e s field =
    ap (λ (xs : List FieldRef). has_field xs field) e ∙ same_with fields new field
    ∙ ap (λ (p : Option FieldRef). has_field (fields ++ option_to_list p) field) (sym s)

pub same_kept : (fields more : List FieldRef) (o : Option FieldRef) → more ≡ fields → o ≡ None
    → SameFields more (fields ++ option_to_list o)
same_kept fields more o e s field =
    ap (λ (xs : List FieldRef). has_field xs field) (e ∙ sym (append-nil fields))
    ∙ ap (λ (p : Option FieldRef). has_field (fields ++ option_to_list p) field) (sym s)

-- ---- what instructions name, one after the other

pub fields_step : {A : Type 0} (f : A → Option FieldRef) (xs : List A) (i : ℕ) (d : A) (fields more all : List FieldRef)
    (o : Option FieldRef)
    → SameFields (fields ++ filter_map f (drop i xs)) all → i < length xs → o ≡ f (get_or xs i d)
    → SameFields more (fields ++ option_to_list o)
    → SameFields (more ++ filter_map f (drop (i + 1) xs)) all
fields_step {A} f xs i d fields more all o h l e s field =
    let rest = filter_map f (drop (i + 1) xs) in
    let cut : drop i xs ≡ get_or xs i d ∷ drop (i + 1) xs = drop-cons xs i d l ∙ ap (λ j. get_or xs i d ∷ drop j xs) (sym (add-one i)) in
    same_behind more (fields ++ option_to_list o) rest s field
    ∙ ap (λ (ys : List FieldRef). has_field ys field) (append_assoc fields (option_to_list o) rest
    ∙ ap (λ ys. fields ++ ys) (listed o rest ∙ ap (λ z. cons_option z rest) e ∙ sym (ap (filter_map f) cut)))
    ∙ h field
  where
    listed : (z : Option FieldRef) (rest : List FieldRef) → option_to_list z ++ rest ≡ cons_option z rest
    listed None rest = refl
    listed (Some y) rest = refl

pub methods_step : {A : Type 0} (f : A → List FieldRef) (xs : List A) (i : ℕ) (d : A) (fields more all found : List FieldRef)
    → SameFields (fields ++ flat_map f (drop i xs)) all → i < length xs → found ≡ f (get_or xs i d) → SameFields more (fields ++ found)
    → SameFields (more ++ flat_map f (drop (i + 1) xs)) all
methods_step {A} f xs i d fields more all found h l e s field =
    let rest = flat_map f (drop (i + 1) xs) in
    let cut : drop i xs ≡ get_or xs i d ∷ drop (i + 1) xs = drop-cons xs i d l ∙ ap (λ j. get_or xs i d ∷ drop j xs) (sym (add-one i)) in
    same_behind more (fields ++ found) rest s field
    ∙ ap (λ (ys : List FieldRef). has_field ys field) (append_assoc fields found rest
    ∙ ap (λ ys. fields ++ ys) (ap (λ ys. ys ++ rest) e ∙ sym (ap (flat_map f) cut)))
    ∙ h field

pub methods_done : (methods : List Method) (i : ℕ) (fields : List FieldRef)
    → SameFields (fields ++ flat_map (λ m. fields_in m.insns) (drop i methods)) (flat_map (λ m. fields_in m.insns) methods)
    → length methods ≤ i → SameFields fields (fields_named methods)
unfolding fields_named
methods_done methods i fields h l field =
    let whole : fields ++ flat_map (λ m. fields_in m.insns) (drop i methods) ≡ fields =
    ap (λ (ms : List Method). fields ++ flat_map (λ m. fields_in m.insns) ms) (drop_all i methods l) ∙ append-nil fields in
    ap (λ (xs : List FieldRef). has_field xs field) (sym whole) ∙ h field

-- ---- the static fields of a world

static_same : (world : World) (xs ys : List FieldRef) → SameFields xs ys → (class i : ℕ)
    → static_at world xs class i ≡ static_at world ys class i
unfolding static_at
static_same world xs ys h class i =
    let field : FieldRef = record { class = class; index = i } in
    ap (λ (b : Bool). cond (is_static_field world class i && b)
    (option_and_then (static_field world field) (field_at world class i)) None) (h field)

filter_same : {A B : Type 0} (f g : A → Option B) → ((x : A) → f x ≡ g x) → (xs : List A) → filter_map f xs ≡ filter_map g xs
filter_same f g h [] = refl
filter_same f g h (x ∷ xs) = ap (λ o. cons_option o (filter_map f xs)) (h x) ∙ ap (cons_option (g x)) (filter_same f g h xs)

flat_same : {A B : Type 0} (f g : A → List B) → ((x : A) → f x ≡ g x) → (xs : List A) → flat_map f xs ≡ flat_map g xs
flat_same f g h [] = refl
flat_same f g h (x ∷ xs) = ap (λ ys. ys ++ flat_map f xs) (h x) ∙ ap (λ ys. g x ++ ys) (flat_same f g h xs)

pub statics_same : (world : World) (xs ys : List FieldRef) → SameFields xs ys → statics_of world xs ≡ statics_of world ys
unfolding statics_of statics_in
statics_same world xs ys h =
    flat_same (statics_in world xs) (statics_in world ys)
    (λ class. filter_same (static_at world xs class) (static_at world ys class) (static_same world xs ys h class)
    (range_with_len 0 (field_count world class)))
    (range_with_len 0 (length world))

-- ---- filling lists, number by number

pub statics_step : {A : Type 0} (f : ℕ → Option A) (before found more : List A) (i : ℕ) (o : Option A)
    → found ≡ before ++ filter_map f (range_with_len 0 i) → o ≡ f i → more ≡ found ++ option_to_list o
    → more ≡ before ++ filter_map f (range_with_len 0 (i + 1))
statics_step {A} f before found more i o e h m =
    m ∙ ap (λ xs. xs ++ option_to_list o) e ∙ append_assoc before (filter_map f (range_with_len 0 i)) (option_to_list o)
    ∙ ap (λ xs. before ++ (filter_map f (range_with_len 0 i) ++ xs)) (ap option_to_list h ∙ sym (listed (f i)))
    ∙ ap (λ xs. before ++ xs) (sym (filter_map-append f (range_with_len 0 i) (i ∷ []))
    ∙ ap (filter_map f) (sym (range_more 0 i ∙ ap (λ x. range_with_len 0 i ++ x ∷ []) (zero-add i))))
  where
    listed : (z : Option A) → cons_option z [] ≡ option_to_list z
    listed None = refl
    listed (Some y) = refl

pub classes_step : {A : Type 0} (f : ℕ → List A) (found more : List A) (i : ℕ) → found ≡ flat_map f (range_with_len 0 i)
    → more ≡ found ++ f i → more ≡ flat_map f (range_with_len 0 (i + 1))
classes_step {A} f found more i e m =
    m ∙ ap (λ xs. xs ++ f i) e ∙ ap (λ xs. flat_map f (range_with_len 0 i) ++ xs) (sym (append-nil (f i)))
    ∙ sym (flat_map-append f (range_with_len 0 i) (i ∷ []))
    ∙ ap (flat_map f) (sym (range_more 0 i ∙ ap (λ x. range_with_len 0 i ++ x ∷ []) (zero-add i)))

-- ---- numbers change nothing that is named

op_names : (refs : List MethodRef) (statics : List StaticField) (op : Op) → field_named (op_numbered refs statics op) ≡ field_named op
op_names refs statics (Plain insn) = refl
op_names refs statics (Constant value) = refl
op_names refs statics (Getstatic used) = refl
op_names refs statics (Putstatic used) = refl
op_names refs statics (Getfield used) = refl
op_names refs statics (Putfield used) = refl
op_names refs statics (Invokevirtual call) = refl
op_names refs statics (Invokespecial call) = refl
op_names refs statics (Invokestatic call) = refl
op_names refs statics (Invokeinterface call) = refl
op_names refs statics (New t) = refl
op_names refs statics (Anewarray t) = refl
op_names refs statics (Checkcast t) = refl
op_names refs statics (Instanceof t) = refl

insns_name : (refs : List MethodRef) (statics : List StaticField) (insns : List (ℕ × Op))
    → fields_in (insns_numbered refs statics insns) ≡ fields_in insns
insns_name refs statics [] = refl
insns_name refs statics (x ∷ xs) = ap (λ o. cons_option o (fields_in (insns_numbered refs statics xs))) (op_names refs statics x.1)
    ∙ ap (cons_option (field_named x.1)) (insns_name refs statics xs)

pub numbered_names : (refs : List MethodRef) (statics : List StaticField) (methods : List Method)
    → fields_named (map (method_numbered refs statics) methods) ≡ fields_named methods
unfolding fields_named
numbered_names refs statics [] = refl
numbered_names refs statics (m ∷ ms) = ap (λ xs. xs ++ fields_named (map (method_numbered refs statics) ms))
    (insns_name refs statics m.insns) ∙ ap (λ xs. fields_in m.insns ++ xs) (numbered_names refs statics ms)

-- ---- what closing keeps of them

few_are : (xs ys : List StaticField) → few_statics xs ≡ Ok ys → (ys ≡ xs) × (length ys ≤ 256)
few_are xs ys e = go (ltb 256 (length xs)) refl e
  where
    go : (b : Bool) → ltb 256 (length xs) ≡ b → cond b (Err TooManyStatics) (Ok xs) ≡ Ok ys → (ys ≡ xs) × (length ys ≤ 256)
    go true q f = cc
    go false q f =
        let same : xs ≡ ys = cc in
        (sym same, subst (λ (zs : List StaticField). length zs ≤ 256) same (ltb-false 256 (length xs) q))

pub statics_kept : (world : World) (methods : List Method) (named : List FieldRef) (statics : List StaticField)
    → SameFields named (fields_named methods) → statics ≡ statics_of world named → length statics ≤ 256
    → statics_named world methods ≡ Ok statics
unfolding statics_named
statics_kept world methods named statics h e l =
    ap few_statics (sym (e ∙ statics_same world named (fields_named methods) h))
    ∙ ap (λ (b : Bool). cond b (Err TooManyStatics) (Ok statics)) (le-ltb 256 (length statics) l)

pub statics_many : (world : World) (methods : List Method) (named : List FieldRef) (statics : List StaticField)
    → SameFields named (fields_named methods) → statics ≡ statics_of world named → 256 < length statics
    → statics_named world methods ≡ Err TooManyStatics
unfolding statics_named
statics_many world methods named statics h e l =
    ap few_statics (sym (e ∙ statics_same world named (fields_named methods) h))
    ∙ ap (λ (b : Bool). cond b (Err TooManyStatics) (Ok statics)) (lt-ltb 256 (length statics) l)

pub statics_few : (world : World) (methods : List Method) (statics : List StaticField) → statics_named world methods ≡ Ok statics
    → length statics ≤ 256
unfolding statics_named
statics_few world methods statics e = (few_are (statics_of world (fields_named methods)) statics e).1

pub statics_are : (world : World) (methods : List Method) (statics : List StaticField) → statics_named world methods ≡ Ok statics
    → statics ≡ statics_of world (fields_named methods)
unfolding statics_named
statics_are world methods statics e = (few_are (statics_of world (fields_named methods)) statics e).0

pub statics_found : (world : World) (refs : List MethodRef) (statics : List StaticField) (methods numbered : List Method)
    → statics_named world methods ≡ Ok statics → numbered ≡ map (method_numbered refs statics) methods
    → statics ≡ statics_of world (fields_named numbered)
statics_found world refs statics methods numbered e n =
    statics_are world methods statics e ∙ ap (statics_of world) (sym (ap fields_named n ∙ numbered_names refs statics methods))
