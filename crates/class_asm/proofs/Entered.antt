-- The entries of a map, seen by what they say.
use Rattle.std.proofs.Common.{◌≡◌, ℕ, suc, ◌+◌, Bool, not, cond, ltb, zero, take, add-one, slice_get, List, [], ◌∷◌, ◌++◌, length}
use Rattle.std.proofs.Common.{map, Some, None, refl, ap, ◌∙◌, arith}
use Rattle.std.specs.Prelude.{position}
use Rattle.std.specs.List.{prefix_len}
use Rattle.class_asm.specs.declared.asm_pool.entry.Entry.{Entry as Kept}
use Rattle.class_asm.specs.declared.asm_pool.entry.Entry.TheVariants as kept
use Rattle.class_asm.specs.contracts.asm_pool.entry.EntryPartialEq.TheImpl.{eq-value}
use Rattle.class_asm.specs.asm_pool.Entries.{Entry, same, seen}

abbrev pub equal : Kept → Kept → Bool
equal a b = eq-value.it a b

pub equal_is : (a b : Kept) → equal a b ≡ same (seen a) (seen b)
equal_is (kept.Utf8 x) (kept.Utf8 y) = refl
equal_is (kept.Integer x) (kept.Integer y) = refl
equal_is (kept.Float x) (kept.Float y) = refl
equal_is (kept.Long x) (kept.Long y) = refl
equal_is (kept.Double x) (kept.Double y) = refl
equal_is (kept.Class x) (kept.Class y) = refl
equal_is (kept.Str x) (kept.Str y) = refl
equal_is (kept.Member x c n d) (kept.Member y e m f) = refl
equal_is (kept.NameAndType x d) (kept.NameAndType y e) = refl
equal_is _ _ = refl

abbrev pub seen_need : Kept × ℕ → Entry × ℕ
seen_need e = (seen e.0, e.1)

-- where an entry stands among what is seen of the entries of a map
before_is : (k : Kept) (es : List (Kept × ℕ))
    → prefix_len (λ n. not (same (seen k) n.0)) (map seen_need es) ≡ prefix_len (λ x. not (equal k x)) (map (λ e. e.0) es)
before_is k [] = refl
before_is k (e ∷ es) = rw (equal_is k e.0) (ap (λ n. cond (not (same (seen k) (seen e.0))) (1 + n) 0) (before_is k es))

seen_length : {A B C : Type 0} (f : A → B) (g : A → C) (xs : List A) → length (map f xs) ≡ length (map g xs)
seen_length f g [] = refl
seen_length f g (x ∷ xs) = ap (λ n. suc n) (seen_length f g xs)

pub position_is : (k : Kept) (es : List (Kept × ℕ))
    → position (λ n. same (seen k) n.0) (map seen_need es) ≡ position (equal k) (map (λ e. e.0) es)
position_is k es =
    ap (λ n. cond (ltb n (length (map seen_need es))) (Some n) None) (before_is k es)
    ∙ ap (λ m. cond (ltb (prefix_len (λ x. not (equal k x)) (map (λ e. e.0) es)) m)
    (Some (prefix_len (λ x. not (equal k x)) (map (λ e. e.0) es))) None) (seen_length seen_need (λ e. e.0) es)

-- the same where the lines are left out
entry_before : (k : Kept) (es : List (Kept × ℕ))
    → prefix_len (λ n. not (same (seen k) n)) (map (λ e. seen e.0) es) ≡ prefix_len (λ x. not (equal k x)) (map (λ e. e.0) es)
entry_before k [] = refl
entry_before k (e ∷ es) = rw (equal_is k e.0) (ap (λ n. cond (not (same (seen k) (seen e.0))) (1 + n) 0) (entry_before k es))

pub entry_position : (k : Kept) (es : List (Kept × ℕ))
    → position (same (seen k)) (map (λ e. seen e.0) es) ≡ position (equal k) (map (λ e. e.0) es)
entry_position k es =
    ap (λ n. cond (ltb n (length (map (λ e. seen e.0) es))) (Some n) None) (entry_before k es)
    ∙ ap (λ m. cond (ltb (prefix_len (λ x. not (equal k x)) (map (λ e. e.0) es)) m)
    (Some (prefix_len (λ x. not (equal k x)) (map (λ e. e.0) es))) None) (seen_length (λ e. seen e.0) (λ e. e.0) es)

abbrev the_pair : List Entry → List ℕ → List Entry × List ℕ
the_pair entries numbers = (entries, numbers)

pub entries_seen : (es : List (Kept × ℕ)) (numbers : List ℕ)
    → the_pair (map (λ e. seen e.0) es) numbers ≡ the_pair (map (λ n. n.0) (map seen_need es)) numbers
entries_seen es numbers = ap (λ xs. the_pair xs numbers) (both es)
  where
    both : (es : List (Kept × ℕ)) → map (λ e. seen e.0) es ≡ map (λ n. n.0) (map seen_need es)
    both [] = refl
    both (e ∷ es) = ap (λ xs. seen e.0 ∷ xs) (both es)
