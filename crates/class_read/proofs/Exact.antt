-- A reading is exact for a text: what it reads is a text that keeps the rules, and each such text is read.
use Rattle.std.proofs.Common.{◌≡◌, ℕ, zero, suc, ◌+◌, ◌-◌, ◌^◌, ◌<◌, ◌≤◌, Bool, true, false, cond, ltb, eqb, List, [], ◌∷◌, ◌++◌}
use Rattle.std.proofs.Common.{length, take, drop, map, Option, Some, None, Ok, Err, refl, sym, ap, subst, ◌∙◌, append_assoc, arith}
use Rattle.std.specs.Prelude.{IsSome, unwrap_or}
use Rattle.std.specs.List.{flat_map, AllByRecursion}
use Rattle.std.specs.Int.{Width, w16, w32, byte_len, from_be_bytes, to_be_bytes}
use Rattle.std.proofs.lemmas.Bool.{ltb-false, le-ltb, eqb-true, eq-eqb}
use Rattle.std.proofs.lemmas.List.{take_at, drop_at, take-append-drop, length-append, length-take, append-nil}
use Rattle.std.proofs.lemmas.List.Concat.{flat_map-cons}
use Rattle.std.proofs.lemmas.Nat.{be_bytes_2, be_bytes_4, from_be_bytes-to_be_bytes_2, from_be_bytes-to_be_bytes_4}
pub use Rattle.class_base.specs.list_views.ByteLists.{IsBytes}
pub use Rattle.class_base.proofs.list_views.ByteLists.{IsBytes-drop, IsBytes-take}
use Rattle.class_read.specs.declared.fault.ClassFault.{ClassFault}
use Rattle.class_read.specs.declared.fault.ClassFault.TheVariants.{Truncated, BadDescriptor, CodeLength}
use Rattle.class_read.specs.Reading.{Read, and_then, ◌>>=◌, pure, place, passing, holding, u2_at, u4_at, bytes_at, found, named_at}
use Rattle.class_read.specs.Reading.{sized_at, repeated, collected}
use Rattle.class_read.specs.Text.{u2, u4, counted}

-- what a reading took from the front of the bytes
pub record Taken {T V : Type 0} (text : T → List ℕ) (Fits : T → Type 0) (view : T → V) (bytes : List ℕ) (v : V)
    (rest : List ℕ) : Type 0 where
  pub it : T
  pub fits : Fits it
  pub parts : bytes ≡ text it ++ rest
  pub seen : view it ≡ v
  pub rest_fits : IsBytes rest

pub record Exact {T V : Type 0} (read : List ℕ → Read V) (text : T → List ℕ) (Fits : T → Type 0) (view : T → V) : Type 0 where
  pub takes : (bytes : List ℕ) (v : V) (rest : List ℕ) → IsBytes bytes → read bytes ≡ Ok (v, rest) → Taken text Fits view bytes v rest
  pub again : (t : T) (rest : List ℕ) → Fits t → read (text t ++ rest) ≡ Ok (view t, rest)

-- ---- steps that did not fail

pub bind_ok : {A B : Type 0} (r : Read A) (next : A → List ℕ → Read B) (y : B × List ℕ) → and_then r next ≡ Ok y
    → (x : A × List ℕ) × (r ≡ Ok x) × (next x.0 x.1 ≡ Ok y)
bind_ok (Ok x) next y e = (x, refl, e)
bind_ok (Err d) next y e = absurd cc

pub tested_ok : {A : Type 0} (b : Bool) (d : ClassFault) (x y : A) → cond b (Ok x) (Err d) ≡ Ok y → (b ≡ true) × (x ≡ y)
tested_ok true d x y e = (refl, cc)
tested_ok false d x y e = absurd cc

guarded_ok : {A : Type 0} (b : Bool) (d : ClassFault) (x y : A) → cond b (Err d) (Ok x) ≡ Ok y → (b ≡ false) × (x ≡ y)
guarded_ok true d x y e = absurd cc
guarded_ok false d x y e = (refl, cc)

abbrev read_of : {A : Type 0} → A → List ℕ → Read A
read_of x rest = Ok (x, rest)

pub pair_parts : {A : Type 0} (x : A × List ℕ) (y : A) (s : List ℕ) → x ≡ (y, s) → (x.0 ≡ y) × (x.1 ≡ s)
pair_parts {A = A} x y s e = (ap (λ (p : A × List ℕ). p.0) e, ap (λ (p : A × List ℕ). p.1) e)

ok_is : {A : Type 0} (x y : A × List ℕ) → read_of x.0 x.1 ≡ read_of y.0 y.1 → x ≡ y
ok_is x y e = cc

pub parts_of : {A : Type 0} (x y : A) (r s : List ℕ) → read_of x r ≡ read_of y s → (x ≡ y) × (r ≡ s)
parts_of x y r s e = pair_parts (x, r) y s (ok_is (x, r) (y, s) e)

-- ---- combinators

pub then_exact : {T U A B : Type 0} {read : List ℕ → Read A} {next : A → List ℕ → Read B} {text : T → List ℕ} {Fits : T → Type 0}
    {view : T → A} {text2 : U → List ℕ} {Fits2 : A → U → Type 0} {view2 : A → U → B}
    → Exact read text Fits view → ((a : A) → Exact (next a) text2 (Fits2 a) (view2 a))
    → Exact (read >>= next) (λ (p : T × U). text p.0 ++ text2 p.1) (λ p. Fits p.0 × Fits2 (view p.0) p.1) (λ p. view2 (view p.0) p.1)
then_exact {read = read} {next = next} {text = text} {Fits = Fits} {view = view} {text2 = text2} {Fits2 = Fits2} {view2 = view2}
    first second = record {
      takes = λ bytes v rest fits e.
          let b = bind_ok (read bytes) next (v, rest) e in
          let t = first.takes bytes b.0.0 b.0.1 fits b.1 in
          let u = (second b.0.0).takes b.0.1 v rest t.rest_fits b.2 in
          record {
            it = (t.it, u.it);
            fits = (t.fits, subst (λ a. Fits2 a u.it) (sym t.seen) u.fits);
            parts = t.parts ∙ ap (λ (r : List ℕ). text t.it ++ r) u.parts ∙ sym (append_assoc (text t.it) (text2 u.it) rest);
            seen = ap (λ a. view2 a u.it) t.seen ∙ u.seen;
            rest_fits = u.rest_fits;
          };
      again = λ p rest fits.
          ap (read >>= next) (append_assoc (text p.0) (text2 p.1) rest)
          ∙ ap (λ r. and_then r next) (first.again p.0 (text2 p.1 ++ rest) fits.0)
          ∙ (second (view p.0)).again p.1 rest fits.1;
    }

-- a value made of the one that is read
pub made_exact : {T A B : Type 0} {read : List ℕ → Read A} {text : T → List ℕ} {Fits : T → Type 0} {view : T → A} (f : A → B)
    → Exact read text Fits view → Exact (read >>= λ a. pure (f a)) text Fits (λ t. f (view t))
made_exact {read = read} {text = text} {view = view} f first = record {
  takes = λ bytes v rest fits e.
      let b = bind_ok (read bytes) (λ a. pure (f a)) (v, rest) e in
      let t = first.takes bytes b.0.0 b.0.1 fits b.1 in
      let p = parts_of (f b.0.0) v b.0.1 rest b.2 in
      record {
        it = t.it;
        fits = t.fits;
        parts = t.parts ∙ ap (λ (r : List ℕ). text t.it ++ r) p.1;
        seen = ap f t.seen ∙ p.0;
        rest_fits = subst IsBytes p.1 t.rest_fits;
      };
  again = λ t rest fits. ap (λ r. and_then r (λ a. pure (f a))) (first.again t rest fits);
}

-- the same reading, with its text, rules and value told in other words
pub told_exact : {T U V : Type 0} {read : List ℕ → Read V} {text : T → List ℕ} {Fits : T → Type 0} {view : T → V} {text2 : U
    → List ℕ} {Fits2 : U → Type 0} {view2 : U → V}
    → Exact read text Fits view → (part : U → T) (make : T → U)
    → ((t : T) → Fits t → part (make t) ≡ t) → ((t : T) → Fits t → Fits2 (make t)) → ((u : U) → Fits2 u → Fits (part u))
    → ((u : U) → Fits2 u → text (part u) ≡ text2 u) → ((u : U) → Fits2 u → view (part u) ≡ view2 u)
    → Exact read text2 Fits2 view2
told_exact {read = read} {text = text} {view = view} first part make back to from text_is view_is = record {
  takes = λ bytes v rest fits e.
      let t = first.takes bytes v rest fits e in
      let good = to t.it t.fits in
      let same = back t.it t.fits in
      record {
        it = make t.it;
        fits = good;
        parts = t.parts ∙ ap (λ (b : List ℕ). b ++ rest) (sym (ap text same) ∙ text_is (make t.it) good);
        seen = sym (view_is (make t.it) good) ∙ ap view same ∙ t.seen;
        rest_fits = t.rest_fits;
      };
  again = λ u rest fits.
      ap (λ (b : List ℕ). read (b ++ rest)) (sym (text_is u fits)) ∙ first.again (part u) rest (from u fits)
      ∙ ap (λ v. Ok (v, rest)) (view_is u fits);
}

-- the same reading, with its rules in other words
pub ruled_exact : {T V : Type 0} {read : List ℕ → Read V} {text : T → List ℕ} {Fits Fits2 : T → Type 0} {view : T → V}
    → Exact read text Fits view → ((t : T) → Fits t → Fits2 t) → ((t : T) → Fits2 t → Fits t) → Exact read text Fits2 view
ruled_exact first to from = told_exact first (λ t. t) (λ t. t) (λ t h. refl) to from (λ t h. refl) (λ t h. refl)

pub passing_exact : {T A : Type 0} {read : List ℕ → Read A} {text : T → List ℕ} {Fits : T → Type 0} {view : T → A} (test : A → Bool)
    (fault : A → ℕ → ClassFault) (total : ℕ)
    → Exact read text Fits view → Exact (passing test fault total read) text (λ t. Fits t × (test (view t) ≡ true)) view
passing_exact {A = A} {read = read} {text = text} {view = view} test fault total first = record {
  takes = λ bytes v rest fits e.
      let next = λ (x : A) (r : List ℕ). cond (test x) (Ok (x, r)) (Err (fault x (place total bytes))) in
      let b = bind_ok (read bytes) next (v, rest) e in
      let t = first.takes bytes b.0.0 b.0.1 fits b.1 in
      let g = tested_ok (test b.0.0) (fault b.0.0 (place total bytes)) b.0 (v, rest) b.2 in
      let p = pair_parts b.0 v rest g.1 in
      record {
        it = t.it;
        fits = (t.fits, ap test t.seen ∙ g.0);
        parts = t.parts ∙ ap (λ (r : List ℕ). text t.it ++ r) p.1;
        seen = t.seen ∙ p.0;
        rest_fits = subst IsBytes p.1 t.rest_fits;
      };
  again = λ t rest fits. rw (first.again t rest fits.0, fits.1) refl;
}

-- a rule on a value at the place after it
pub held_exact : {T A : Type 0} {read : List ℕ → Read A} {text : T → List ℕ} {Fits : T → Type 0} {view : T → A} (test : A → Bool)
    (fault : ℕ → ClassFault) (total : ℕ)
    → Exact read text Fits view
    → Exact (read >>= λ x. holding (test x) fault total >>= λ u. pure x) text (λ t. Fits t × (test (view t) ≡ true)) view
held_exact {A = A} {read = read} {text = text} {view = view} test fault total first = record {
  takes = λ bytes v rest fits e.
      let next : A → List ℕ → Read A = λ x. holding (test x) fault total >>= λ u. pure x in
      let b = bind_ok (read bytes) next (v, rest) e in
      let t = first.takes bytes b.0.0 b.0.1 fits b.1 in
      let h = bind_ok (holding (test b.0.0) fault total b.0.1) (λ u. pure b.0.0) (v, rest) b.2 in
      let start : Unit {0} × List ℕ = (tt, b.0.1) in
      let g = tested_ok (test b.0.0) (fault (place total b.0.1)) start h.0 h.1 in
      let p = parts_of b.0.0 v h.0.1 rest h.2 in
      let after : b.0.1 ≡ rest = ap (λ (x : Unit {0} × List ℕ). x.1) g.1 ∙ p.1 in
      record {
        it = t.it;
        fits = (t.fits, ap test t.seen ∙ g.0);
        parts = t.parts ∙ ap (λ (r : List ℕ). text t.it ++ r) after;
        seen = t.seen ∙ p.0;
        rest_fits = subst IsBytes after t.rest_fits;
      };
  again = λ t rest fits. rw (first.again t rest fits.0, fits.1) refl;
}

pub true_not_false : (b : Bool) → b ≡ true → b ≡ false → ⊥
true_not_false true e f = absurd cc
true_not_false false e f = absurd cc

-- ---- fields

record IsWide (w : Width) (limit : ℕ) : Type 0 where
  len : (n : ℕ) → length (to_be_bytes w n) ≡ byte_len w
  back : (bytes : List ℕ) → length bytes ≡ byte_len w → IsBytes bytes → to_be_bytes w (from_be_bytes w bytes) ≡ bytes
  again : (n : ℕ) → n < limit → from_be_bytes w (to_be_bytes w n) ≡ n
  below : (bytes : List ℕ) → IsBytes bytes → from_be_bytes w bytes < limit

wide16 : IsWide w16 (2 ^ 16)
wide16 = record {
  len = λ n. refl;
  back = λ bytes len fits. be_bytes_2 bytes _ len fits refl;
  again = λ n lt. from_be_bytes-to_be_bytes_2 n lt;
  below = λ bytes fits. omega (arith, fits 0, fits 1);
}

wide32 : IsWide w32 (2 ^ 32)
wide32 = record {
  len = λ n. refl;
  back = λ bytes len fits. be_bytes_4 bytes _ len fits refl;
  again = λ n lt. from_be_bytes-to_be_bytes_4 n lt;
  below = λ bytes fits. omega (arith, fits 0, fits 1, fits 2, fits 3);
}

abbrev number_at : Width → ℕ → List ℕ → Read ℕ
number_at w total bytes = cond (ltb (length bytes) (byte_len w)) (Err (Truncated (place total bytes)))
    (Ok (from_be_bytes w (take (byte_len w) bytes), drop (byte_len w) bytes))

number_exact : (w : Width) (limit : ℕ) → IsWide w limit → (total : ℕ) → Exact (number_at w total) (to_be_bytes w) (λ n. n < limit) (λ n. n)
number_exact w limit wide total = record {
  takes = λ bytes v rest fits e.
      let g = guarded_ok (ltb (length bytes) (byte_len w)) (Truncated (place total bytes))
      (from_be_bytes w (take (byte_len w) bytes), drop (byte_len w) bytes) (v, rest) e in
      let long : byte_len w ≤ length bytes = ltb-false _ _ g.0 in
      let p = pair_parts (from_be_bytes w (take (byte_len w) bytes), drop (byte_len w) bytes) v rest g.1 in
      let front = IsBytes-take (byte_len w) bytes fits in
      let value : to_be_bytes w v ≡ take (byte_len w) bytes = rw (← p.0)
      (wide.back (take (byte_len w) bytes) (omega (arith, length-take (byte_len w) bytes)) front) in
      record {
        it = v;
        fits = rw (← p.0) (wide.below (take (byte_len w) bytes) front);
        parts = rw (value, ← p.1) (sym (take-append-drop (byte_len w) bytes));
        seen = refl;
        rest_fits = subst IsBytes p.1 (IsBytes-drop (byte_len w) bytes fits);
      };
  again = λ n rest lt.
      let len = wide.len n in
      let long : ltb (length (to_be_bytes w n ++ rest)) (byte_len w) ≡ false = le-ltb _ _
      (omega (arith, length-append (to_be_bytes w n) rest)) in
      rw (long, take_at (to_be_bytes w n) rest (byte_len w) len, drop_at (to_be_bytes w n) rest (byte_len w) len, wide.again n lt) refl;
}

pub u2_exact : (total : ℕ) → Exact (u2_at total) u2 (λ n. n < 2 ^ 16) (λ n. n)
u2_exact total = number_exact w16 (2 ^ 16) wide16 total

pub u4_exact : (total : ℕ) → Exact (u4_at total) u4 (λ n. n < 2 ^ 32) (λ n. n)
u4_exact total = number_exact w32 (2 ^ 32) wide32 total

pub bytes_exact : (total count : ℕ) → Exact (bytes_at total count) (λ (c : List ℕ). c) (λ c. length c ≡ count) (λ c. c)
bytes_exact total count = record {
  takes = λ bytes v rest fits e.
      let g = guarded_ok (ltb (length bytes) count) (Truncated (place total bytes)) (take count bytes, drop count bytes) (v, rest) e in
      let long : count ≤ length bytes = ltb-false _ _ g.0 in
      let p = pair_parts (take count bytes, drop count bytes) v rest g.1 in
      record {
        it = v;
        fits = rw (← p.0) (omega (arith, length-take count bytes));
        parts = rw (← p.0, ← p.1) (sym (take-append-drop count bytes));
        seen = refl;
        rest_fits = subst IsBytes p.1 (IsBytes-drop count bytes fits);
      };
  again = λ c rest fits.
      let long : ltb (length (c ++ rest)) count ≡ false = le-ltb _ _ (omega (arith, fits, length-append c rest)) in
      rw (long, take_at c rest count fits, drop_at c rest count fits) refl;
}

-- what an index names
found_ok : {A : Type 0} (o : Option A) (fault : ClassFault) (rest : List ℕ) (none : A) (y : A) (s : List ℕ)
    → found o fault rest ≡ Ok (y, s) → IsSome o × (unwrap_or o none ≡ y) × (rest ≡ s)
found_ok (Some x) fault rest none y s e = let p = parts_of x y rest s e in (refl, p.0, p.1)
found_ok None fault rest none y s e = absurd cc

found_again : {A : Type 0} (o : Option A) (fault : ClassFault) (rest : List ℕ) (none : A) → IsSome o
    → found o fault rest ≡ Ok (unwrap_or o none, rest)
found_again (Some x) fault rest none there = refl
found_again None fault rest none there = absurd cc

pub named_exact : {A : Type 0} (look : ℕ → Option A) (none : A) (total : ℕ)
    → Exact (named_at look total) u2 (λ i. (i < 2 ^ 16) × IsSome (look i)) (λ i. unwrap_or (look i) none)
named_exact look none total = record {
  takes = λ bytes v rest fits e.
      let b = bind_ok (u2_at total bytes) (λ i r. found (look i) (BadDescriptor (place total bytes)) r) (v, rest) e in
      let t = (u2_exact total).takes bytes b.0.0 b.0.1 fits b.1 in
      let f = found_ok (look b.0.0) (BadDescriptor (place total bytes)) b.0.1 none v rest b.2 in
      record {
        it = b.0.0;
        fits = (subst (λ (n : ℕ). n < 2 ^ 16) t.seen t.fits, f.0);
        parts = t.parts ∙ ap (λ (n : ℕ). u2 n ++ b.0.1) t.seen ∙ ap (λ (r : List ℕ). u2 b.0.0 ++ r) f.2;
        seen = f.1;
        rest_fits = subst IsBytes f.2 t.rest_fits;
      };
  again = λ i rest fits.
      ap (λ r. and_then r (λ j s. found (look j) (BadDescriptor (place total (u2 i ++ rest))) s)) ((u2_exact total).again i rest fits.0)
      ∙ found_again (look i) (BadDescriptor (place total (u2 i ++ rest))) rest none fits.1;
}

-- a content that is as long as its length says
pub sized_exact : {T A : Type 0} {read : List ℕ → Read A} {text : T → List ℕ} {Fits : T → Type 0} {view : T → A} (total : ℕ)
    → Exact read text Fits view
    → Exact (sized_at total read) (λ t. u4 (length (text t)) ++ text t) (λ t. Fits t × (length (text t) < 2 ^ 32)) view
sized_exact {A = A} {read = read} {text = text} {view = view} total first = record {
  takes = λ bytes v rest fits e.
      let check : ℕ → List ℕ → A → List ℕ → Read A = λ size content x r. cond (eqb (length content - length r) size) (Ok (x, r))
      (Err (CodeLength (place total bytes))) in
      let a = bind_ok (u4_at total bytes) (λ size content. and_then (read content) (check size content)) (v, rest) e in
      let s = (u4_exact total).takes bytes a.0.0 a.0.1 fits a.1 in
      let b = bind_ok (read a.0.1) (check a.0.0 a.0.1) (v, rest) a.2 in
      let t = first.takes a.0.1 b.0.0 b.0.1 s.rest_fits b.1 in
      let g = tested_ok (eqb (length a.0.1 - length b.0.1) a.0.0) (CodeLength (place total bytes)) b.0 (v, rest) b.2 in
      let p = pair_parts b.0 v rest g.1 in
      let whole : length a.0.1 ≡ length (text t.it) + length b.0.1 = ap length t.parts ∙ length-append (text t.it) b.0.1 in
      let size : a.0.0 ≡ length (text t.it) = omega (arith, whole, eqb-true _ _ g.0) in
      record {
        it = t.it;
        fits = (t.fits, rw (← size, ← s.seen) s.fits);
        parts =
            s.parts ∙ ap (λ (n : ℕ). u4 n ++ a.0.1) (s.seen ∙ size) ∙ ap (λ (r : List ℕ). u4 (length (text t.it)) ++ r)
            (t.parts ∙ ap (λ (r : List ℕ). text t.it ++ r) p.1)
            ∙ sym (append_assoc (u4 (length (text t.it))) (text t.it) rest);
        seen = t.seen ∙ p.0;
        rest_fits = subst IsBytes p.1 t.rest_fits;
      };
  again = λ t rest fits.
      let whole : length (text t ++ rest) - length rest ≡ length (text t) = omega (arith, length-append (text t) rest) in
      let regroup : (u4 (length (text t)) ++ text t) ++ rest ≡ u4 (length (text t)) ++ (text t ++ rest) = append_assoc
      (u4 (length (text t))) (text t) rest in
      let passes : eqb (length (text t ++ rest) - length rest) (length (text t)) ≡ true = eq-eqb _ _ whole in
      ap (sized_at total read) regroup
      ∙ ap (λ r. and_then r
      (λ size content. and_then (read content)
      (λ x s. cond (eqb (length content - length s) size) (Ok (x, s))
      (Err (CodeLength (place total (u4 (length (text t)) ++ (text t ++ rest))))))))
      ((u4_exact total).again (length (text t)) (text t ++ rest) fits.1)
      ∙ ap (λ r. and_then r (λ x s. cond (eqb (length (text t ++ rest) - length s) (length (text t))) (Ok (x, s))
      (Err (CodeLength (place total (u4 (length (text t)) ++ (text t ++ rest))))))) (first.again t rest fits.0)
      ∙ rw passes refl;
}

-- ---- repetition

-- each of a list keeps the rule that its turn has, and what the list makes
abbrev pub FitAll : {S T : Type 0} → (S → T → Type 0) → (S → T → S) → S → List T → Type 0
FitAll Fits next s [] = Unit {0}
FitAll Fits next s (t ∷ ts) = Fits s t × FitAll Fits next (next s t) ts

abbrev pub next_all : {S T : Type 0} → (S → T → S) → S → List T → S
next_all next s [] = s
next_all next s (t ∷ ts) = next_all next (next s t) ts

repeated_takes : {S T : Type 0} (step : S → List ℕ → Read S) (text : T → List ℕ) (Fits : S → T → Type 0) (next : S → T → S)
    → ((s : S) → Exact (step s) text (Fits s) (next s))
    → (n : ℕ) (s : S) (bytes : List ℕ) (v : S) (rest : List ℕ) → IsBytes bytes → repeated step n s bytes ≡ Ok (v, rest)
    → Taken (flat_map text) (λ ts. (length ts ≡ n) × FitAll Fits next s ts) (next_all next s) bytes v rest
unfolding repeated
repeated_takes step text Fits next each zero s bytes v rest fits e =
    let p = parts_of s v bytes rest e in
    record { it = []; fits = (refl, tt); parts = p.1; seen = p.0; rest_fits = subst IsBytes p.1 fits }
repeated_takes step text Fits next each (suc n) s bytes v rest fits e =
    let b = bind_ok (step s bytes) (repeated step n) (v, rest) e in
    let t = (each s).takes bytes b.0.0 b.0.1 fits b.1 in
    let u = repeated_takes step text Fits next each n b.0.0 b.0.1 v rest t.rest_fits b.2 in
    record {
      it = t.it ∷ u.it;
      fits = (ap suc u.fits.0, (t.fits, subst (λ x. FitAll Fits next x u.it) (sym t.seen) u.fits.1));
      parts = t.parts ∙ ap (λ (r : List ℕ). text t.it ++ r) u.parts ∙ sym (append_assoc (text t.it) (flat_map text u.it) rest)
          ∙ ap (λ (b : List ℕ). b ++ rest) (sym (flat_map-cons text t.it u.it));
      seen = ap (λ x. next_all next x u.it) t.seen ∙ u.seen;
      rest_fits = u.rest_fits;
    }

repeated_again : {S T : Type 0} (step : S → List ℕ → Read S) (text : T → List ℕ) (Fits : S → T → Type 0) (next : S → T → S)
    → ((s : S) → Exact (step s) text (Fits s) (next s))
    → (s : S) (ts : List T) (rest : List ℕ) → FitAll Fits next s ts
    → repeated step (length ts) s (flat_map text ts ++ rest) ≡ Ok (next_all next s ts, rest)
unfolding repeated
repeated_again step text Fits next each s [] rest fits = refl
repeated_again step text Fits next each s (t ∷ ts) rest fits =
    let regroup : flat_map text (t ∷ ts) ++ rest ≡ text t ++ (flat_map text ts ++ rest) = ap (λ (b : List ℕ). b ++ rest)
    (flat_map-cons text t ts) ∙ append_assoc (text t) (flat_map text ts) rest in
    ap (repeated step (suc (length ts)) s) regroup ∙ ap (λ r. and_then r (repeated step (length ts)))
    ((each s).again t (flat_map text ts ++ rest) fits.0) ∙ repeated_again step text Fits next each (next s t) ts rest fits.1

pub repeated_exact : {S T : Type 0} {step : S → List ℕ → Read S} {text : T → List ℕ} {Fits : S → T → Type 0} {next : S → T → S}
    → ((s : S) → Exact (step s) text (Fits s) (next s))
    → (n : ℕ) (s : S) → Exact (repeated step n s) (flat_map text) (λ ts. (length ts ≡ n) × FitAll Fits next s ts) (next_all next s)
repeated_exact {step = step} {text = text} {Fits = Fits} {next = next} each n s = record {
  takes = repeated_takes step text Fits next each n s;
  again = λ ts rest fits. ap (λ (k : ℕ). repeated step k s (flat_map text ts ++ rest)) (sym fits.0)
      ∙ repeated_again step text Fits next each s ts rest fits.1;
}

-- a count, and so many steps
pub counted_exact : {S T : Type 0} {step : S → List ℕ → Read S} {text : T → List ℕ} {Fits : S → T → Type 0} {next : S → T → S}
    (total : ℕ) → ((s : S) → Exact (step s) text (Fits s) (next s))
    → (s : S) → Exact (u2_at total >>= λ count. repeated step count s) (counted text)
    (λ ts. (length ts < 2 ^ 16) × FitAll Fits next s ts) (next_all next s)
counted_exact {T = T} {Fits = Fits} {next = next} total each s =
    told_exact (then_exact (u2_exact total) (λ count. repeated_exact each count s))
    (λ (ts : List T). (length ts, ts)) (λ (p : ℕ × List T). p.1)
    (λ p h. ap (λ (n : ℕ). (n, p.1)) h.1.0) (λ p h. (omega (arith, h.0, h.1.0), h.1.1)) (λ ts h. (h.0, (refl, h.1))) (λ ts h. refl)
    (λ ts h. refl)

-- ---- lists of independent items

abbrev pub adds : {T A : Type 0} → (T → A) → List A → T → List A
adds view made t = made ++ view t ∷ []

pub collected_exact : {T A : Type 0} {read : List ℕ → Read A} {text : T → List ℕ} {Fits : T → Type 0} {view : T → A}
    → Exact read text Fits view → (made : List A) → Exact (collected read made) text Fits (adds view made)
unfolding collected
collected_exact first made = made_exact (λ x. made ++ x ∷ []) first

pub all_to : {S T : Type 0} (Fits : T → Type 0) (next : S → T → S) (s : S) (ts : List T) → FitAll (λ _ t. Fits t) next s ts
    → AllByRecursion Fits ts
all_to Fits next s [] h = tt
all_to Fits next s (t ∷ ts) h = (h.0, all_to Fits next (next s t) ts h.1)

pub all_from : {S T : Type 0} (Fits : T → Type 0) (next : S → T → S) (s : S) (ts : List T) → AllByRecursion Fits ts
    → FitAll (λ _ t. Fits t) next s ts
all_from Fits next s [] h = tt
all_from Fits next s (t ∷ ts) h = (h.0, all_from Fits next (next s t) ts h.1)

pub added_all : {T A : Type 0} (view : T → A) (made : List A) (ts : List T) → next_all (adds view) made ts ≡ made ++ map view ts
added_all view made [] = sym (append-nil made)
added_all view made (t ∷ ts) = added_all view (made ++ view t ∷ []) ts ∙ append_assoc made (view t ∷ []) (map view ts)

-- a count, and so many items
pub listed_exact : {T A : Type 0} {read : List ℕ → Read A} {text : T → List ℕ} {Fits : T → Type 0} {view : T → A} (total : ℕ)
    → Exact read text Fits view → Exact (u2_at total >>= λ count. repeated (collected read) count []) (counted text)
    (λ ts. (length ts < 2 ^ 16) × AllByRecursion Fits ts) (map view)
listed_exact {Fits = Fits} {view = view} total first =
    told_exact (counted_exact total (collected_exact first) [])
    (λ ts. ts) (λ ts. ts) (λ ts h. refl) (λ ts h. (h.0, all_to Fits (adds view) [] ts h.1))
    (λ ts h. (h.0, all_from Fits (adds view) [] ts h.1)) (λ ts h. refl) (λ ts h. added_all view [] ts)
