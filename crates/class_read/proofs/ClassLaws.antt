-- The reading of a class file is exact: the class that is read is the one that the bytes spell.
use Rattle.std.proofs.Common.{◌≡◌, ℕ, zero, suc, ◌+◌, ◌-◌, ◌^◌, ◌<◌, ◌≤◌, true, eqb, List, [], ◌∷◌, ◌++◌, length, map, Result, Ok}
use Rattle.std.proofs.Common.{Err, refl, sym, ap, subst, ◌∙◌, arith}
use Rattle.std.specs.Prelude.{IsSome}
use Rattle.std.specs.List.{flat_map, AllByRecursion}
use Rattle.std.proofs.lemmas.Bool.{eqb-true}
use Rattle.std.proofs.lemmas.List.{append-nil, drop_at, length-append, nil_from_length}
use Rattle.class_pool.specs.declared.entry.PoolEntry.{PoolEntry}
use Rattle.class_pool.specs.declared.fault.PoolFault.{PoolFault}
use Rattle.class_pool.specs.Text.{slots_of, places_of, IsPool, Unread, counted_bytes, class_name_at}
use Rattle.class_pool.specs.Reading.{pool_at}
use Rattle.class_pool.proofs.PoolLaws.{pool_found, pool_again}
use Rattle.class_read.specs.declared.fault.ClassFault.{ClassFault}
use Rattle.class_read.specs.declared.fault.ClassFault.TheVariants.{BadMagic, Version, TrailingBytes}
use Rattle.class_read.specs.declared.text.AttrText.{AttrText}
use Rattle.class_read.specs.declared.text.MemberText.{MemberText}
use Rattle.class_read.specs.declared.text.ClassText.{ClassText}
use Rattle.class_read.specs.Content.{ClassContent}
use Rattle.class_read.specs.Reading.{Read, ◌>>=◌, pure, place}
use Rattle.class_read.specs.Text.{u2, counted, attr_text, member_text, magic_number, class_bytes}
use Rattle.class_read.specs.Rules.{IsClass, name_of, WellFormed, is_read_major, field_of, method_of, content_of, Spells}
use Rattle.class_read.specs.FirstFault.{interfaces_at, pool_read, pool_field_at, end_at, lists_at, body_at, file_at, whole_at}
use Rattle.class_read.specs.FirstFault.{without_rest, class_in}
use Rattle.class_read.proofs.Exact.{IsBytes, IsBytes-drop, Exact, then_exact, made_exact, told_exact, passing_exact, u2_exact}
use Rattle.class_read.proofs.Exact.{u4_exact, listed_exact, bind_ok, tested_ok, parts_of}
use Rattle.class_read.proofs.AttributeLaws.{class_exact, AreOthers, others_exact}
use Rattle.class_read.proofs.MemberLaws.{AreFields, AreMethods, fields_exact, methods_exact}

-- ---- the pool

-- a pool under a count
abbrev Counted : Type 0
Counted = ℕ × List PoolEntry

abbrev IsCounted : Counted → Type 0
IsCounted p = (p.0 < 2 ^ 16) × IsPool p.1 × (length (places_of p.1) ≡ p.0 - 1 + 1)

abbrev counted_text : Counted → List ℕ
counted_text p = counted_bytes p.0 p.1

pool_ok : (r : Result (List PoolEntry × Unread) PoolFault) (v : List PoolEntry) (rest : List ℕ) → pool_read r ≡ Ok (v, rest)
    → (x : List PoolEntry × Unread) × (r ≡ Ok x) × (x.0 ≡ v) × (x.1.bytes ≡ rest)
pool_ok (Ok x) v rest e = let p = parts_of x.0 v x.1.bytes rest e in (x, refl, p.0, p.1)
pool_ok (Err f) v rest e = absurd cc

IsBytes-behind : (front rest : List ℕ) → IsBytes (front ++ rest) → IsBytes rest
IsBytes-behind front rest fits = subst IsBytes (drop_at front rest (length front) refl) (IsBytes-drop (length front) (front ++ rest) fits)

pool_exact : (total : ℕ) → Exact (pool_field_at total) counted_text IsCounted (λ p. p.1)
pool_exact total = record {
  takes = λ bytes v rest fits e.
      let u : Unread = record { at = place total bytes; bytes = bytes } in
      let o = pool_ok (pool_at u) v rest e in
      let s = pool_found u o.0.0 o.0.1 fits o.1 in
      let parts : bytes ≡ counted_bytes s.count o.0.0 ++ rest = s.text ∙ ap (λ (r : List ℕ). counted_bytes s.count o.0.0 ++ r) o.3 in
      record {
        it = (s.count, o.0.0);
        fits = (s.count_fits, s.pool, s.places);
        parts = parts;
        seen = o.2;
        rest_fits = IsBytes-behind
            (counted_bytes s.count o.0.0) rest (subst IsBytes parts fits);
      };
  again = λ p rest h.
      let u : Unread = record { at = place total (counted_text p ++ rest); bytes = counted_text p ++ rest } in
      let v : Unread = record { at = place total (counted_text p ++ rest) + length (counted_text p); bytes = rest } in
      ap pool_read (pool_again u p.1 v (record { pool = h.1; count = p.0; count_fits = h.0; places = h.2; text = refl; place = refl }));
}

-- ---- what follows the pool

interfaces_exact : (total : ℕ) (pool : List PoolEntry)
    → Exact (interfaces_at total pool) (counted u2) (λ is. (length is < 2 ^ 16) × AllByRecursion (IsClass pool) is) (map (name_of pool))
unfolding interfaces_at
interfaces_exact total pool = listed_exact total (class_exact total pool)

abbrev Body : Type 0
Body = ℕ × (ℕ × (ℕ × (List ℕ × (List MemberText × (List MemberText × List AttrText)))))

abbrev body_text : Body → List ℕ
body_text b = u2 b.0 ++ (u2 b.1.0
    ++ (u2 b.1.1.0 ++ (counted u2 b.1.1.1.0
    ++ (counted member_text b.1.1.1.1.0 ++ (counted member_text b.1.1.1.1.1.0 ++ counted attr_text b.1.1.1.1.1.1)))))

abbrev IsBody : List PoolEntry → Body → Type 0
IsBody pool b =
    (b.0 < 2 ^ 16) × (IsClass pool b.1.0
    × (IsClass pool b.1.1.0
    × (((length b.1.1.1.0 < 2 ^ 16) × AllByRecursion (IsClass pool) b.1.1.1.0)
    × (AreFields pool b.1.1.1.1.0 × (AreMethods pool b.1.1.1.1.1.0 × AreOthers pool b.1.1.1.1.1.1)))))

abbrev body_content : ℕ → List PoolEntry → Body → ClassContent
body_content major pool b = record {
  major = major;
  flags = b.0;
  name = name_of pool b.1.0;
  super_name = name_of pool b.1.1.0;
  interfaces = map (name_of pool) b.1.1.1.0;
  fields = map (field_of pool) b.1.1.1.1.0;
  methods = map (method_of pool) b.1.1.1.1.1.0;
  pool = pool;
}

body_exact : (total major : ℕ) (pool : List PoolEntry) → Exact (body_at total major pool) body_text (IsBody pool) (body_content major pool)
unfolding body_at lists_at
body_exact total major pool =
    then_exact (u2_exact total)
    (λ flags. then_exact (class_exact total pool)
    (λ name. then_exact (class_exact total pool) (λ super_name. then_exact (interfaces_exact total pool) (λ interfaces.
    then_exact (fields_exact total pool) (λ fields. then_exact (methods_exact total pool) (λ methods.
    made_exact {B = ClassContent} (λ (u : Unit {0}). record {
      major = major;
      flags = flags;
      name = name;
      super_name = super_name;
      interfaces = interfaces;
      fields = fields;
      methods = methods;
      pool = pool;
    }) (others_exact total pool)))))))

-- ---- the file

abbrev File : Type 0
File = ℕ × (ℕ × (ℕ × (Counted × Body)))

abbrev parts_of_class : ClassText → File
parts_of_class c = (
  magic_number,
  (
    c.minor,
    (
      c.major,
      (
        (length (places_of c.pool), c.pool),
        (c.flags, (c.this_index, (c.super_index, (c.interfaces, (c.fields, (c.methods, c.attributes)))))),
      ),
    ),
  ),
)

abbrev class_of_parts : File → ClassText
class_of_parts f = record {
  minor = f.1.0;
  major = f.1.1.0;
  pool = f.1.1.1.0.1;
  flags = f.1.1.1.1.0;
  this_index = f.1.1.1.1.1.0;
  super_index = f.1.1.1.1.1.1.0;
  interfaces = f.1.1.1.1.1.1.1.0;
  fields = f.1.1.1.1.1.1.1.1.0;
  methods = f.1.1.1.1.1.1.1.1.1.0;
  attributes = f.1.1.1.1.1.1.1.1.1.1;
}

-- a pool that has a class has a place, so its count is the number of its places
none_in_empty : (i : ℕ) → IsSome (class_name_at [] i) → ⊥
none_in_empty zero h = absurd cc
none_in_empty (suc i) h = absurd cc

one_slot : (e : PoolEntry) → 1 ≤ length (slots_of e)
one_slot e = omega arith

has_place : (pool : List PoolEntry) (i : ℕ) → IsSome (class_name_at pool i) → 2 ≤ length (places_of pool)
has_place [] i h = absurd (none_in_empty i h)
has_place (e ∷ pool) i h = omega (arith, length-append (slots_of e) (flat_map slots_of pool), one_slot e)

abbrev pub IsReadClass : ClassText → Type 0
IsReadClass c = WellFormed c × (is_read_major c.major ≡ true)

pub file_exact : (total : ℕ) → Exact (file_at total) class_bytes IsReadClass content_of
unfolding file_at
file_exact total =
    told_exact (then_exact (passing_exact (λ n. eqb n magic_number) (λ _ _. BadMagic) total (u4_exact total))
    (λ magic. then_exact (u2_exact total) (λ minor.
    then_exact (passing_exact is_read_major (λ n _. Version n) total (u2_exact total))
    (λ major. then_exact (pool_exact total) (λ pool. body_exact total major pool)))))
    parts_of_class class_of_parts
    (λ f h.
    let magic : magic_number ≡ f.0 = sym (eqb-true f.0 magic_number h.0.1) in
    let some = has_place f.1.1.1.0.1 f.1.1.1.1.1.0 h.1.1.1.1.1.0.there in
    let count : length (places_of f.1.1.1.0.1) ≡ f.1.1.1.0.0 = omega (arith, some, h.1.1.1.0.2) in
    let made : ℕ → ℕ → File = λ m k. (m, (f.1.0, (f.1.1.0, ((k, f.1.1.1.0.1), f.1.1.1.1)))) in
    ap (λ (m : ℕ). made m (length (places_of f.1.1.1.0.1))) magic ∙ ap (made f.0) count)
    (λ f h. (
      record {
        minor_fits = h.1.0;
        major_fits = h.1.1.0.0;
        pool = h.1.1.1.0.1;
        flags_fit = h.1.1.1.1.0;
        this_class = h.1.1.1.1.1.0;
        super_class = h.1.1.1.1.1.1.0;
        interfaces_fit = h.1.1.1.1.1.1.1.0.0;
        interfaces = h.1.1.1.1.1.1.1.0.1;
        fields_fit = h.1.1.1.1.1.1.1.1.0.0;
        fields = h.1.1.1.1.1.1.1.1.0.1;
        fields_differ = h.1.1.1.1.1.1.1.1.0.2;
        methods_fit = h.1.1.1.1.1.1.1.1.1.0.0;
        methods = h.1.1.1.1.1.1.1.1.1.0.1;
        methods_differ = h.1.1.1.1.1.1.1.1.1.0.2;
        attributes_fit = h.1.1.1.1.1.1.1.1.1.1.0;
        attributes = h.1.1.1.1.1.1.1.1.1.1.1;
      },
      h.1.1.0.1,
    ))
    (λ c h.
    let r = h.0 in (
      (omega arith, refl),
      (
        r.minor_fits,
        (
          (r.major_fits, h.1),
          (
            (r.pool.count, r.pool, omega arith),
            (
              r.flags_fit,
              (
                r.this_class,
                (
                  r.super_class,
                  (
                    (r.interfaces_fit, r.interfaces),
                    (
                      (r.fields_fit, r.fields, r.fields_differ),
                      ((r.methods_fit, r.methods, r.methods_differ), (r.attributes_fit, r.attributes)),
                    ),
                  ),
                ),
              ),
            ),
          ),
        ),
      ),
    ))
    (λ c h. refl) (λ c h. refl)

-- ---- classes

abbrev only : ClassContent → Result ClassContent ClassFault
only c = Ok c

one_is : (x y : ClassContent) → only x ≡ only y → x ≡ y
one_is x y e = cc

rest_of : (r : Read ClassContent) (c : ClassContent) → without_rest r ≡ Ok c → (rest : List ℕ) × (r ≡ Ok (c, rest))
rest_of (Ok x) c e = let same : x.0 ≡ c = one_is x.0 c e in (x.1, ap (λ (d : ClassContent). Ok (d, x.1)) same)
rest_of (Err f) c e = absurd cc

-- what is read is spelled
pub class_found : (bytes : List ℕ) (c : ClassContent) → IsBytes bytes → class_in bytes ≡ Ok c → Spells bytes c
unfolding class_in whole_at
class_found bytes c fits e =
    let r = rest_of (whole_at (length bytes) bytes) c e in
    let next : ClassContent → List ℕ → Read ClassContent = λ class. end_at (length bytes) >>= λ u. pure class in
    let a = bind_ok (file_at (length bytes) bytes) next (c, r.0) r.1 in
    let t = (file_exact (length bytes)).takes bytes a.0.0 a.0.1 fits a.1 in
    let b = bind_ok (end_at (length bytes) a.0.1) (λ u. pure a.0.0) (c, r.0) a.2 in
    let start : Unit {0} × List ℕ = (tt, a.0.1) in
    let g = tested_ok (eqb (length a.0.1) 0) (TrailingBytes (place (length bytes) a.0.1)) start b.0 b.1 in
    let nothing : a.0.1 ≡ [] = nil_from_length a.0.1 (eqb-true _ _ g.0) in
    let p = parts_of a.0.0 c b.0.1 r.0 b.2 in
    record {
      text = t.it;
      rules = t.fits.0;
      major = t.fits.1;
      bytes_are = sym (t.parts ∙ ap (λ (x : List ℕ). class_bytes t.it ++ x) nothing ∙ append-nil (class_bytes t.it));
      content = t.seen ∙ p.0;
    }

-- what is spelled is read
pub class_again : (bytes : List ℕ) (c : ClassContent) → Spells bytes c → class_in bytes ≡ Ok c
unfolding class_in whole_at
class_again bytes c s =
    let whole : class_bytes s.text ++ [] ≡ bytes = append-nil (class_bytes s.text) ∙ s.bytes_are in
    let read : file_at (length bytes) bytes ≡ Ok (c, []) = ap (file_at (length bytes)) (sym whole)
    ∙ (file_exact (length bytes)).again s.text [] (s.rules, s.major) ∙ ap (λ (d : ClassContent). Ok (d, [])) s.content in
    rw read refl

-- no bytes spell two classes
pub class_one : (bytes : List ℕ) (c d : ClassContent) → Spells bytes c → Spells bytes d → c ≡ d
class_one bytes c d s t = one_is c d (sym (class_again bytes c s) ∙ class_again bytes d t)
