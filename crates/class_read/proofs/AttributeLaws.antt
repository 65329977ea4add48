-- The readings of attributes are exact for their texts.
use Rattle.std.proofs.Common.{◌≡◌, ◌≢◌, ℕ, suc, ◌+◌, ◌^◌, ◌<◌, ◌≤◌, Bool, true, false, cond, ltb, leb, eqb, ◌&&◌, ◌||◌, not, List}
use Rattle.std.proofs.Common.{[], ◌∷◌, ◌++◌, length, map, Option, Some, None, Ok, refl, sym, ap, subst, ◌∙◌, append_assoc, arith}
use Rattle.std.proofs.Common.{inl, inr, ◌⊎◌}
use Rattle.std.specs.Prelude.{IsSome, unwrap_or, is_some, is_none}
use Rattle.std.specs.List.{flat_map, AllByRecursion}
use Rattle.std.specs.Option.{option_map_or}
use Rattle.std.proofs.lemmas.Bool.{ltb-true, lt-ltb, leb-true, le-leb, eqb-true, eq-eqb, and_parts, and_from, or_cases, or_left}
use Rattle.std.proofs.lemmas.Bool.{or_right, false_from_ne_true, not-true, not_from_false}
use Rattle.std.proofs.lemmas.Slice.Eq.{bytes_eq-Decides}
use Rattle.std.proofs.lemmas.List.{append-nil, length-append, nil_from_length}
use Rattle.std.proofs.lemmas.List.Concat.{flat_map-cons}
use Rattle.class_base.proofs.list_views.Items.{length_mapped}
use Rattle.class_base.proofs.list_views.Options.{none_from_is_none}
use Rattle.class_pool.specs.declared.entry.PoolEntry.{PoolEntry}
use Rattle.class_pool.specs.Text.{utf8_at, class_name_at}
use Rattle.class_read.specs.declared.fault.ClassFault.TheVariants.{BadDescriptor, CodeLength, MissingCode, ExtraCode}
use Rattle.class_read.specs.declared.text.AttrText.{AttrText}
use Rattle.class_read.specs.declared.text.AttrText.TheVariants.{Skipped, Code}
use Rattle.class_read.specs.Reading.{Read, and_then, ◌>>=◌, named_at}
use Rattle.class_read.specs.Content.{Handler, CodeContent}
use Rattle.class_base.specs.ClassNames.{is_class_name}
use Rattle.class_read.specs.Text.{u2, u4, counted, attribute_text, handler_text, code_text, attr_text}
use Rattle.class_read.specs.Rules.{text_of, name_of, IsText, IsClass, code_name, IsAttribute, IsHandler, IsMethodAttribute}
use Rattle.class_read.specs.Rules.{IsOtherAttribute, codes_in, first_of}
use Rattle.class_read.specs.FirstFault.{class_index_at, is_catch, content_at, skipped_at, attributes_at, handler_at, table_at}
use Rattle.class_read.specs.FirstFault.{is_code_length, code_at, is_code_name, may_stand, method_name_at, code_found_at, no_code_at}
use Rattle.class_read.specs.FirstFault.{method_attribute_at, method_attributes_at}
use Rattle.class_read.proofs.Exact.{Taken, Exact, then_exact, made_exact, told_exact, ruled_exact, passing_exact, u2_exact}
use Rattle.class_read.proofs.Exact.{u4_exact, bytes_exact, named_exact, sized_exact, FitAll, next_all, held_exact, true_not_false}
use Rattle.class_read.proofs.Exact.{repeated_exact, counted_exact, listed_exact, bind_ok}

-- ---- options

kept : (o : Option (List ℕ)) (test : List ℕ → Bool) → option_map_or test o false ≡ true → IsSome o × (test (unwrap_or o []) ≡ true)
kept None test e = absurd cc
kept (Some x) test e = (refl, e)

passes : (o : Option (List ℕ)) (test : List ℕ → Bool) → IsSome o → test (unwrap_or o []) ≡ true → option_map_or test o false ≡ true
passes None test there e = absurd cc
passes (Some x) test there e = e

-- ---- indexes

pub text_exact : (total : ℕ) (pool : List PoolEntry) → Exact (named_at (utf8_at pool) total) u2 (IsText pool) (text_of pool)
text_exact total pool = ruled_exact (named_exact (utf8_at pool) [] total) (λ i h. record { fits = h.0; there = h.1 })
    (λ i h. (h.fits, h.there))

pub class_exact : (total : ℕ) (pool : List PoolEntry) → Exact (class_index_at total pool) u2 (IsClass pool) (name_of pool)
unfolding class_index_at
class_exact total pool =
    ruled_exact (passing_exact is_class_name (λ _. BadDescriptor) total (named_exact (class_name_at pool) [] total))
    (λ i h. record { fits = h.0.0; there = h.0.1; good = h.1 }) (λ i h. ((h.fits, h.there), h.good))

-- ---- attributes that are skipped

pub content_exact : (total : ℕ) → Exact (content_at total) (λ (c : List ℕ). u4 (length c) ++ c) (λ c. length c < 2 ^ 32) (λ c. tt)
unfolding content_at
content_exact total =
    told_exact (then_exact (u4_exact total) (λ size. made_exact (λ (c : List ℕ). tt) (bytes_exact total size)))
    (λ (c : List ℕ). (length c, c)) (λ (p : ℕ × List ℕ). p.1)
    (λ p h. ap (λ (n : ℕ). (n, p.1)) h.1) (λ p h. omega (arith, h.0, h.1)) (λ c h. (h, refl)) (λ c h. refl) (λ c h. refl)

pub skipped_exact : (total : ℕ) (pool : List PoolEntry) (u : Unit {0})
    → Exact (skipped_at total pool u) attribute_text (IsAttribute pool) (λ a. tt)
unfolding skipped_at
skipped_exact total pool u =
    ruled_exact (then_exact (text_exact total pool) (λ name. content_exact total))
    (λ a h. record { name = h.0; fits = h.1 }) (λ a h. (h.name, h.fits))

units_to : (pool : List PoolEntry) (u : Unit {0}) (ts : List (ℕ × List ℕ))
    → FitAll (λ (u : Unit {0}) a. IsAttribute pool a) (λ u a. tt) u ts → AllByRecursion (IsAttribute pool) ts
units_to pool u [] h = tt
units_to pool u (t ∷ ts) h = (h.0, units_to pool tt ts h.1)

units_from : (pool : List PoolEntry) (u : Unit {0}) (ts : List (ℕ × List ℕ)) → AllByRecursion (IsAttribute pool) ts
    → FitAll (λ (u : Unit {0}) a. IsAttribute pool a) (λ u a. tt) u ts
units_from pool u [] h = tt
units_from pool u (t ∷ ts) h = (h.0, units_from pool tt ts h.1)

-- so many attributes, as pairs of a name and a content
pub attributes_exact : (total : ℕ) (pool : List PoolEntry)
    → Exact (attributes_at total pool) (counted attribute_text) (λ xs. (length xs < 2 ^ 16) × AllByRecursion (IsAttribute pool) xs)
    (λ xs. tt)
unfolding attributes_at
attributes_exact total pool =
    told_exact (counted_exact total (skipped_exact total pool) tt) (λ (xs : List (ℕ × List ℕ)). xs) (λ xs. xs) (λ xs h. refl)
    (λ xs h. (h.0, units_to pool tt xs h.1)) (λ xs h. (h.0, units_from pool tt xs h.1)) (λ xs h. refl) (λ xs h. refl)

-- attributes of a field or of the class
abbrev pair_of : AttrText → ℕ × List ℕ
pair_of (Skipped name content) = (name, content)
pair_of (Code name max_stack max_locals code table attributes) = (name, [])

abbrev skipped_of : ℕ × List ℕ → AttrText
skipped_of a = Skipped a.0 a.1

pairs_back : (xs : List (ℕ × List ℕ)) → map pair_of (map skipped_of xs) ≡ xs
pairs_back [] = refl
pairs_back (a ∷ xs) = ap (λ (r : List (ℕ × List ℕ)). a ∷ r) (pairs_back xs)

others_to : (pool : List PoolEntry) (xs : List (ℕ × List ℕ)) → AllByRecursion (IsAttribute pool) xs
    → AllByRecursion (IsOtherAttribute pool) (map skipped_of xs)
others_to pool [] h = tt
others_to pool (a ∷ xs) h = (h.0, others_to pool xs h.1)

others_from : (pool : List PoolEntry) (xs : List AttrText) → AllByRecursion (IsOtherAttribute pool) xs
    → AllByRecursion (IsAttribute pool) (map pair_of xs)
others_from pool [] h = tt
others_from pool (Skipped name content ∷ xs) h = (h.0, others_from pool xs h.1)
others_from pool (Code name max_stack max_locals code table attributes ∷ xs) h = absurd h.0

others_text : (pool : List PoolEntry) (xs : List AttrText) → AllByRecursion (IsOtherAttribute pool) xs
    → flat_map attribute_text (map pair_of xs) ≡ flat_map attr_text xs
others_text pool [] h = refl
others_text pool (Skipped name content ∷ xs) h =
    flat_map-cons attribute_text (name, content) (map pair_of xs) ∙ ap (λ (r : List ℕ). attribute_text (name, content) ++ r)
    (others_text pool xs h.1) ∙ sym (flat_map-cons attr_text (Skipped name content) xs)
others_text pool (Code name max_stack max_locals code table attributes ∷ xs) h = absurd h.0

others_counted : (pool : List PoolEntry) (xs : List AttrText) → AllByRecursion (IsOtherAttribute pool) xs
    → counted attribute_text (map pair_of xs) ≡ counted attr_text xs
others_counted pool xs h =
    ap (λ (n : ℕ). u2 n ++ flat_map attribute_text (map pair_of xs)) (length_mapped pair_of xs)
    ∙ ap (λ (r : List ℕ). u2 (length xs) ++ r) (others_text pool xs h)

abbrev pub AreOthers : List PoolEntry → List AttrText → Type 0
AreOthers pool xs = (length xs < 2 ^ 16) × AllByRecursion (IsOtherAttribute pool) xs

pub others_exact : (total : ℕ) (pool : List PoolEntry) → Exact (attributes_at total pool) (counted attr_text) (AreOthers pool) (λ xs. tt)
others_exact total pool =
    told_exact (attributes_exact total pool) (map pair_of) (map skipped_of)
    (λ xs h. pairs_back xs) (λ xs h. (omega (arith, h.0, length_mapped skipped_of xs), others_to pool xs h.1))
    (λ xs h. (omega (arith, h.0, length_mapped pair_of xs), others_from pool xs h.1))
    (λ xs h. others_counted pool xs h.1) (λ xs h. refl)

-- ---- code

catch_to : (pool : List PoolEntry) (i : ℕ) → is_catch pool i ≡ true → i < 2 ^ 16 → (i ≡ 0) ⊎ IsClass pool i
catch_to pool i h lt = elim (or_cases (eqb i 0) (option_map_or is_class_name (class_name_at pool i) false) h) [
  | inl zero_ ↦ inl (eqb-true i 0 zero_)
  | inr named ↦ let k = kept (class_name_at pool i) is_class_name named in inr (record { fits = lt; there = k.0; good = k.1 })
]

catch_from : (pool : List PoolEntry) (i : ℕ) → (i ≡ 0) ⊎ IsClass pool i → (i < 2 ^ 16) × (is_catch pool i ≡ true)
catch_from pool i (inl z) = (omega (arith, z), or_left (eqb i 0) (option_map_or is_class_name (class_name_at pool i) false) (eq-eqb i 0 z))
catch_from pool i (inr h) = (
  h.fits,
  or_right (eqb i 0) (option_map_or is_class_name (class_name_at pool i) false)
      (passes (class_name_at pool i) is_class_name h.there h.good),
)

pub handler_exact : (total : ℕ) (pool : List PoolEntry) → Exact (handler_at total pool) handler_text (IsHandler pool) (λ h. h)
unfolding handler_at
handler_exact total pool =
    told_exact (then_exact (u2_exact total) (λ start. then_exact (u2_exact total) (λ end. then_exact (u2_exact total) (λ handler.
    made_exact {B = Handler} (λ (catch : ℕ). record { start = start; end = end; handler = handler; catch = catch })
    (passing_exact (is_catch pool) (λ _. BadDescriptor) total (u2_exact total))))))
    (λ (h : Handler). (h.start, (h.end, (h.handler, h.catch))))
    (λ (p : ℕ × (ℕ × (ℕ × ℕ))). record { start = p.0; end = p.1.0; handler = p.1.1.0; catch = p.1.1.1 })
    (λ p h. refl) (λ p h. record { start = h.0; end = h.1.0; handler = h.1.1.0; catch = catch_to pool p.1.1.1 h.1.1.1.1 h.1.1.1.0 })
    (λ p h. (h.start, (h.end, (h.handler, catch_from pool p.catch h.catch)))) (λ p h. refl) (λ p h. refl)

pub table_exact : (total : ℕ) (pool : List PoolEntry)
    → Exact (table_at total pool) (counted handler_text) (λ hs. (length hs < 2 ^ 16) × AllByRecursion (IsHandler pool) hs) (map (λ h. h))
unfolding table_at
table_exact total pool = listed_exact total (handler_exact total pool)

map_same : {A : Type 0} (xs : List A) → map (λ x. x) xs ≡ xs
map_same [] = refl
map_same (x ∷ xs) = ap (λ r. x ∷ r) (map_same xs)

-- a code with its attributes
pub record CodeParts : Type 0 where
  pub max_stack : ℕ
  pub max_locals : ℕ
  pub code : List ℕ
  pub table : List Handler
  pub attributes : List (ℕ × List ℕ)

abbrev pub parts_text : CodeParts → List ℕ
parts_text c = code_text c.max_stack c.max_locals c.code c.table c.attributes

pub record AreCodeParts (pool : List PoolEntry) (c : CodeParts) : Type 0 where
  pub stack_fits : c.max_stack < 2 ^ 16
  pub locals_fit : c.max_locals < 2 ^ 16
  pub some : 0 < length c.code
  pub most : length c.code < 2 ^ 16
  pub table_fits : length c.table < 2 ^ 16
  pub handlers : AllByRecursion (IsHandler pool) c.table
  pub attributes_fit : length c.attributes < 2 ^ 16
  pub skipped : AllByRecursion (IsAttribute pool) c.attributes

abbrev pub parts_content : CodeParts → CodeContent
parts_content c = record { max_stack = c.max_stack; max_locals = c.max_locals; code = c.code; table = c.table }

abbrev Nested : Type 0
Nested = ℕ × (ℕ × (ℕ × (List ℕ × (List Handler × List (ℕ × List ℕ)))))

code_length_to : (n : ℕ) → is_code_length n ≡ true → (0 < n) × (n < 2 ^ 16)
code_length_to n h = let p = and_parts (ltb 0 n) (leb n 65535) h in (ltb-true _ _ p.0, omega (arith, leb-true _ _ p.1))

code_length_from : (n : ℕ) → 0 < n → n < 2 ^ 16 → is_code_length n ≡ true
code_length_from n h k = and_from (ltb 0 n) (leb n 65535) (lt-ltb _ _ h) (le-leb _ _ (omega (arith, k)))

pub code_exact : (total : ℕ) (pool : List PoolEntry) → Exact (code_at total pool) parts_text (AreCodeParts pool) parts_content
unfolding code_at
code_exact total pool =
    told_exact (then_exact (u2_exact total)
    (λ max_stack. then_exact (u2_exact total)
    (λ max_locals. then_exact (passing_exact is_code_length (λ _. CodeLength) total (u4_exact total))
    (λ size. then_exact (bytes_exact total size) (λ code.
    then_exact (table_exact total pool)
    (λ table. made_exact {B = CodeContent}
    (λ (u : Unit {0}). record { max_stack = max_stack; max_locals = max_locals; code = code; table = table })
    (attributes_exact total pool)))))))
    (λ (c : CodeParts). (c.max_stack, (c.max_locals, (length c.code, (c.code, (c.table, c.attributes))))))
    (λ (p : Nested). record { max_stack = p.0; max_locals = p.1.0; code = p.1.1.1.0; table = p.1.1.1.1.0; attributes = p.1.1.1.1.1 })
    (λ p h. ap (λ (n : ℕ). (p.0, (p.1.0, (n, p.1.1.1)))) h.1.1.1.0)
    (λ p h.
    let size = code_length_to p.1.1.0 h.1.1.0.1 in
    record {
      stack_fits = h.0;
      locals_fit = h.1.0;
      some = omega (arith, size.0, h.1.1.1.0);
      most = omega (arith, size.1, h.1.1.1.0);
      table_fits = h.1.1.1.1.0.0;
      handlers = h.1.1.1.1.0.1;
      attributes_fit = h.1.1.1.1.1.0;
      skipped = h.1.1.1.1.1.1;
    })
    (λ c h. (
      h.stack_fits,
      (
        h.locals_fit,
        (
          (omega (arith, h.most), code_length_from (length c.code) h.some h.most),
          (refl, ((h.table_fits, h.handlers), (h.attributes_fit, h.skipped))),
        ),
      ),
    ))
    (λ c h. refl)
    (λ c h.
    let with_table : List Handler → CodeContent = λ t. record
    { max_stack = c.max_stack; max_locals = c.max_locals; code = c.code; table = t } in
    ap with_table (map_same c.table))

-- ---- the attributes of a method

code_found_exact : (total : ℕ) (pool : List PoolEntry)
    → Exact (code_found_at total pool) (λ c. u4 (length (parts_text c)) ++ parts_text c)
    (λ c. AreCodeParts pool c × (length (parts_text c) < 2 ^ 32)) (λ c. Some (parts_content c))
unfolding code_found_at
code_found_exact total pool = made_exact {B = Option CodeContent} (λ (code : CodeContent). Some code)
    (sized_exact total (code_exact total pool))

no_code_exact : (total : ℕ) (found : Option CodeContent)
    → Exact (no_code_at total found) (λ (c : List ℕ). u4 (length c) ++ c) (λ c. length c < 2 ^ 32) (λ c. found)
unfolding no_code_at
no_code_exact total found = made_exact {B = Option CodeContent} (λ (u : Unit {0}). found) (content_exact total)

-- where `Code` may stand
abbrev pub MayStand : Bool → Option CodeContent → AttrText → Type 0
MayStand coded made (Skipped name content) = Unit {0}
MayStand coded made (Code name max_stack max_locals code table attributes) = (coded && is_none made) ≡ true

abbrev pub StandsThere : List PoolEntry → Bool → Option CodeContent → AttrText → Type 0
StandsThere pool coded made a = IsMethodAttribute pool a × MayStand coded made a

abbrev pub found_after : Option CodeContent → AttrText → Option CodeContent
found_after made (Skipped name content) = made
found_after made (Code name max_stack max_locals code table attributes) = Some
    (record { max_stack = max_stack; max_locals = max_locals; code = code; table = table })

named_code : (name : List ℕ) → is_code_name name ≡ true → name ≡ code_name
named_code name h = (bytes_eq-Decides name code_name).0 h

code_named : (name : List ℕ) → name ≡ code_name → is_code_name name ≡ true
code_named name h = (bytes_eq-Decides name code_name).1 h

not_named : (name : List ℕ) → is_code_name name ≡ false → name ≢ code_name
not_named name h same = true_not_false (is_code_name name) (code_named name same) h

not_code : (name : List ℕ) → name ≢ code_name → is_code_name name ≡ false
not_code name h = false_from_ne_true (is_code_name name) (λ e. h (named_code name e))

-- the choice between the two readings of an attribute after its name
chosen_at : {A : Type 0} (b : Bool) (x y : List ℕ → Read A) (bytes : List ℕ) (v : A × List ℕ) → cond b x y bytes ≡ Ok v
    → ((b ≡ true) × (x bytes ≡ Ok v)) ⊎ ((b ≡ false) × (y bytes ≡ Ok v))
chosen_at true x y bytes v e = inl (refl, e)
chosen_at false x y bytes v e = inr (refl, e)

may_code : (coded : Bool) (made : Option CodeContent) (name : List ℕ) → may_stand coded made name ≡ true → is_code_name name ≡ true
    → (coded && is_none made) ≡ true
may_code coded made name h is = elim (or_cases (not (is_code_name name)) (coded && is_none made) h) [
  | inl other ↦ absurd (true_not_false (is_code_name name) is (not-true (is_code_name name) other))
  | inr good ↦ good
]

abbrev NameTaken : List PoolEntry → Bool → Option CodeContent → List ℕ → List ℕ → List ℕ → Type 0
NameTaken pool coded made bytes name mid = Taken u2 (λ (i : ℕ). IsText pool i × (may_stand coded made (text_of pool i) ≡ true))
    (text_of pool) bytes name mid

attribute_taken : (total : ℕ) (pool : List PoolEntry) (coded : Bool) (made : Option CodeContent) (bytes : List ℕ)
    (v : Option CodeContent) (rest name mid : List ℕ) → NameTaken pool coded made bytes name mid
    → ((is_code_name name ≡ true) × (code_found_at total pool mid ≡ Ok (v, rest)))
    ⊎ ((is_code_name name ≡ false) × (no_code_at total made mid ≡ Ok (v, rest)))
    → Taken attr_text (StandsThere pool coded made) (found_after made) bytes v rest
attribute_taken total pool coded made bytes v rest name mid n (inl h) =
    let c = (code_found_exact total pool).takes mid v rest n.rest_fits h.1 in
    let named : is_code_name (text_of pool n.it) ≡ true = ap is_code_name n.seen ∙ h.0 in
    let p = c.it in
    record {
      it = Code n.it p.max_stack p.max_locals p.code p.table p.attributes;
      fits = (
        record {
          name_is = n.fits.0;
          named = named_code (text_of pool n.it) named;
          stack_fits = c.fits.0.stack_fits;
          locals_fit = c.fits.0.locals_fit;
          some = c.fits.0.some;
          most = c.fits.0.most;
          table_fits = c.fits.0.table_fits;
          handlers = c.fits.0.handlers;
          attributes_fit = c.fits.0.attributes_fit;
          skipped = c.fits.0.skipped;
          content_fits = c.fits.1;
        },
        may_code coded made (text_of pool n.it) n.fits.1 named,
      );
      parts = n.parts ∙ ap (λ (r : List ℕ). u2 n.it ++ r) c.parts
          ∙ sym (append_assoc (u2 n.it) (u4 (length (parts_text p)) ++ parts_text p) rest);
      seen = c.seen;
      rest_fits = c.rest_fits;
    }
attribute_taken total pool coded made bytes v rest name mid n (inr h) =
    let c = (no_code_exact total made).takes mid v rest n.rest_fits h.1 in
    record {
      it = Skipped n.it c.it;
      fits = ((record { name = n.fits.0; fits = c.fits }, not_named (text_of pool n.it) (ap is_code_name n.seen ∙ h.0)), tt);
      parts = n.parts ∙ ap (λ (r : List ℕ). u2 n.it ++ r) c.parts ∙ sym (append_assoc (u2 n.it) (u4 (length c.it) ++ c.it) rest);
      seen = c.seen;
      rest_fits = c.rest_fits;
    }

name_exact : (total : ℕ) (pool : List PoolEntry) (coded : Bool) (made : Option CodeContent)
    → Exact (method_name_at total pool coded made) u2 (λ i. IsText pool i × (may_stand coded made (text_of pool i) ≡ true)) (text_of pool)
name_exact total pool coded made = passing_exact (may_stand coded made) (λ _. ExtraCode) total (text_exact total pool)

attribute_again : (total : ℕ) (pool : List PoolEntry) (coded : Bool) (made : Option CodeContent) (t : AttrText) (rest : List ℕ)
    → StandsThere pool coded made t
    → method_attribute_at total pool coded made (attr_text t ++ rest) ≡ Ok (found_after made t, rest)
unfolding method_attribute_at
attribute_again total pool coded made (Skipped name content) rest fits =
    let other : is_code_name (text_of pool name) ≡ false = not_code (text_of pool name) fits.0.1 in
    let may : may_stand coded made (text_of pool name) ≡ true = or_left (not (is_code_name (text_of pool name)))
    (coded && is_none made) (not_from_false (is_code_name (text_of pool name)) other) in
    let after : List ℕ → List ℕ → Read (Option CodeContent) = λ n. cond (is_code_name n) (code_found_at total pool)
    (no_code_at total made) in
    let tail : List ℕ = (u4 (length content) ++ content) ++ rest in
    ap (method_name_at total pool coded made >>= after) (append_assoc (u2 name) (u4 (length content) ++ content) rest)
    ∙ ap (λ r. and_then r after) ((name_exact total pool coded made).again name tail (fits.0.0.name, may))
    ∙ ap (λ (b : Bool). cond b (code_found_at total pool) (no_code_at total made) tail) other
    ∙ (no_code_exact total made).again content rest fits.0.0.fits
attribute_again total pool coded made (Code name max_stack max_locals code table attributes) rest fits =
    let is : is_code_name (text_of pool name) ≡ true = code_named (text_of pool name) fits.0.named in
    let may : may_stand coded made (text_of pool name) ≡ true = or_right (not (is_code_name (text_of pool name)))
    (coded && is_none made) fits.1 in
    let after : List ℕ → List ℕ → Read (Option CodeContent) = λ n. cond (is_code_name n) (code_found_at total pool)
    (no_code_at total made) in
    let p : CodeParts = record { max_stack = max_stack; max_locals = max_locals; code = code; table = table; attributes = attributes } in
    let tail : List ℕ = (u4 (length (parts_text p)) ++ parts_text p) ++ rest in
    let good : AreCodeParts pool p = record {
      stack_fits = fits.0.stack_fits;
      locals_fit = fits.0.locals_fit;
      some = fits.0.some;
      most = fits.0.most;
      table_fits = fits.0.table_fits;
      handlers = fits.0.handlers;
      attributes_fit = fits.0.attributes_fit;
      skipped = fits.0.skipped;
    } in
    ap (method_name_at total pool coded made >>= after) (append_assoc (u2 name) (u4 (length (parts_text p)) ++ parts_text p) rest)
    ∙ ap (λ r. and_then r after) ((name_exact total pool coded made).again name tail (fits.0.name_is, may))
    ∙ ap (λ (b : Bool). cond b (code_found_at total pool) (no_code_at total made) tail) is
    ∙ (code_found_exact total pool).again p rest (good, fits.0.content_fits)

pub method_attribute_exact : (total : ℕ) (pool : List PoolEntry) (coded : Bool) (made : Option CodeContent)
    → Exact (method_attribute_at total pool coded made) attr_text (StandsThere pool coded made) (found_after made)
unfolding method_attribute_at
method_attribute_exact total pool coded made = record {
  takes = λ bytes v rest fits e.
      let after : List ℕ → List ℕ → Read (Option CodeContent) = λ name. cond (is_code_name name) (code_found_at total pool)
      (no_code_at total made) in
      let b = bind_ok (method_name_at total pool coded made bytes) after (v, rest) e in
      attribute_taken total pool coded made bytes v rest b.0.0 b.0.1 ((name_exact total pool coded made).takes bytes b.0.0 b.0.1 fits b.1)
      (chosen_at (is_code_name b.0.0) (code_found_at total pool) (no_code_at total made) b.0.1 (v, rest) b.2);
  again = attribute_again total pool coded made;
}

-- ---- all attributes of a method

coded_is : (coded : Bool) → 1 ≤ cond coded 1 0 → coded ≡ true
coded_is true h = refl
coded_is false h = absurd (omega (arith, h))

abbrev most_codes : Bool → ℕ
most_codes coded = cond coded 1 0

first_none : (had : List CodeContent) → first_of had ≡ None → had ≡ []
first_none [] h = refl
first_none (c ∷ had) h = absurd cc

codes_to : (pool : List PoolEntry) (coded : Bool) (made : Option CodeContent) (had : List CodeContent) (ts : List AttrText)
    → made ≡ first_of had → length had ≤ most_codes coded
    → FitAll (StandsThere pool coded) found_after made ts
    → AllByRecursion (IsMethodAttribute pool) ts × (length (had ++ codes_in ts) ≤ most_codes coded)
    × (next_all found_after made ts ≡ first_of (had ++ codes_in ts))
codes_to pool coded made had [] same few h = (
  tt,
  omega (arith, few, ap length (append-nil had)),
  same
      ∙ ap first_of (sym (append-nil had)),
)
codes_to pool coded made had (Skipped name content ∷ ts) same few h =
    let r = codes_to pool coded made had ts same few h.1 in
    ((h.0.0, r.0), r.1, r.2)
codes_to pool coded made had (Code name max_stack max_locals code table attributes ∷ ts) same few h =
    let c : CodeContent = record { max_stack = max_stack; max_locals = max_locals; code = code; table = table } in
    let may = and_parts coded (is_none made) h.0.1 in
    let nothing : had ≡ [] = first_none had (sym same ∙ none_from_is_none made may.1) in
    let one : 1 ≤ most_codes coded = rw may.0 (omega arith) in
    let r = codes_to pool coded (Some c) (c ∷ []) ts refl one h.1 in
    let front : c ∷ codes_in ts ≡ had ++ c ∷ codes_in ts = ap (λ (x : List CodeContent). x ++ c ∷ codes_in ts) (sym nothing) in
    ((h.0.0, r.0), subst (λ (x : List CodeContent). length x ≤ most_codes coded) front r.1, r.2 ∙ ap first_of front)

codes_from : (pool : List PoolEntry) (coded : Bool) (made : Option CodeContent) (had : List CodeContent) (ts : List AttrText)
    → made ≡ first_of had
    → AllByRecursion (IsMethodAttribute pool) ts → length (had ++ codes_in ts) ≤ most_codes coded
    → FitAll (StandsThere pool coded) found_after made ts
codes_from pool coded made had [] same h few = tt
codes_from pool coded made had (Skipped name content ∷ ts) same h few = ((h.0, tt), codes_from pool coded made had ts same h.1 few)
codes_from pool coded made had (Code name max_stack max_locals code table attributes ∷ ts) same h few =
    let c : CodeContent = record { max_stack = max_stack; max_locals = max_locals; code = code; table = table } in
    let all : length had + (1 + length (codes_in ts)) ≤ most_codes coded = omega (arith, few, length-append had (c ∷ codes_in ts)) in
    let is : coded ≡ true = coded_is coded (omega (arith, all)) in
    let one : most_codes coded ≡ 1 = rw is refl in
    let nothing : had ≡ [] = nil_from_length had (omega (arith, all, one)) in
    let none : is_none made ≡ true = rw (same, nothing) refl in
    let here : length ((c ∷ []) ++ codes_in ts) ≤ most_codes coded = omega (arith, all) in
    ((h.0, and_from coded (is_none made) is none), codes_from pool coded (Some c) (c ∷ []) ts refl h.1 here)

-- how many codes there are in the end
enough_to : (coded : Bool) (all : List CodeContent) → length all ≤ most_codes coded → (is_some (first_of all) || not coded) ≡ true
    → length all ≡ most_codes coded
enough_to true [] few h = absurd cc
enough_to true (c ∷ all) few h = omega (arith, few)
enough_to false all few h = omega (arith, few)

enough_from : (coded : Bool) (all : List CodeContent) → length all ≡ most_codes coded → (is_some (first_of all) || not coded) ≡ true
enough_from true [] h = absurd (omega (arith, h))
enough_from true (c ∷ all) h = refl
enough_from false all h = or_right (is_some (first_of all)) true refl

abbrev pub HasCodes : List PoolEntry → Bool → List AttrText → Type 0
HasCodes pool coded ts = (length ts < 2 ^ 16) × AllByRecursion (IsMethodAttribute pool) ts × (length (codes_in ts) ≡ most_codes coded)

pub method_attributes_exact : (total : ℕ) (pool : List PoolEntry) (coded : Bool)
    → Exact (method_attributes_at total pool coded) (counted attr_text) (HasCodes pool coded) (λ ts. first_of (codes_in ts))
unfolding method_attributes_at
method_attributes_exact total pool coded =
    told_exact (then_exact (u2_exact total) (λ count. held_exact (λ (found : Option CodeContent). is_some found || not coded)
    MissingCode total (repeated_exact (method_attribute_exact total pool coded) count None)))
    (λ (ts : List AttrText). (length ts, ts)) (λ (p : ℕ × List AttrText). p.1)
    (λ p h. ap (λ (n : ℕ). (n, p.1)) h.1.0.0)
    (λ p h.
    let made : Option CodeContent = None in
    let r = codes_to pool coded made [] p.1 refl (omega arith) h.1.0.1 in (
      omega (arith, h.0, h.1.0.0),
      r.0,
      enough_to coded (codes_in p.1) r.1
          (ap (λ (o : Option CodeContent). is_some o || not coded) (sym r.2) ∙ h.1.1),
    ))
    (λ ts h.
    let made : Option CodeContent = None in
    let f = codes_from pool coded made [] ts refl h.1 (omega (arith, h.2)) in
    let r = codes_to pool coded made [] ts refl (omega arith) f in
    (h.0, ((refl, f), ap (λ (o : Option CodeContent). is_some o || not coded) r.2 ∙ enough_from coded (codes_in ts) h.2)))
    (λ ts h. refl)
    (λ ts h.
    let made : Option CodeContent = None in
    let f = codes_from pool coded made [] ts refl h.1 (omega (arith, h.2)) in
    let r = codes_to pool coded made [] ts refl (omega arith) f in
    r.2)
