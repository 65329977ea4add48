-- True lines, and texts of them.
use Rattle.std.proofs.Common.{◌≡◌, ◌∙◌, ℕ, ◌==◌, ◌||◌, ◌&&◌, not, nat_lt, Bool, true, false, List, [], ◌∷◌, ◌++◌, map, refl, sym, ap, subst, arith}
use Rattle.std.proofs.Common.{append_assoc, append-nil, codes, cond}
use Rattle.std.specs.List.{AllByRecursion, list_all}
use Rattle.std.proofs.lemmas.Grind.{flat_map-append}
use Rattle.std.proofs.lemmas.List.Folds.{list_all-append}
use Rattle.survey.specs.declared.survey_notes.touching.Touched.{Touched}
use Rattle.survey.specs.Claims.{Surveyed, IsProved, IsTrueLine, AreTrue}
use Rattle.list_views.specs.FaultWords.{joined}
use Rattle.survey.specs.Lines.{yes_line, words_text, given_text, errors_text, exceptions_text, constants_text, is_name_byte, is_plain, printed, ended, text_of}
use Rattle.survey.specs.inner.Wording.{head_text, other_line, GrowsTrue}
use Rattle.survey.specs.declared.lines.Head.{Head}
use Rattle.survey.specs.declared.lines.Head.TheVariants.{Maybe, Refused, LeftOut, Count, Why}

-- ---- texts

all_both : {X : Type 0} (P : X → Type 0) (xs ys : List X) → AllByRecursion P xs → AllByRecursion P ys → AllByRecursion P (xs ++ ys)
all_both P [] ys a b = b
all_both P (x ∷ xs) ys a b = (a.0, all_both P xs ys a.1 b)

pub nothing_true : (s : Surveyed) → AreTrue s []
nothing_true s = record { lines = []; are = refl; each = tt }

pub both_true : (s : Surveyed) (a b : List ℕ) → AreTrue s a → AreTrue s b → AreTrue s (a ++ b)
both_true s a b x y = record {
  lines = x.lines ++ y.lines;
  are = ap (λ t. t ++ b) x.are ∙ (ap (λ t. text_of x.lines ++ t) y.are ∙ sym (flat_map-append ended x.lines y.lines));
  each = all_both (IsTrueLine s) x.lines y.lines x.each y.each;
}

one_true : (s : Surveyed) (line : List ℕ) → IsTrueLine s line → AreTrue s (line ++ 10 ∷ [])
one_true s line h = record { lines = line ∷ []; are = sym (append-nil (line ++ 10 ∷ [])); each = (h, tt) }

-- a line more, and a newline
pub one_more : (s : Surveyed) (old between new line : List ℕ) → between ≡ old ++ line → new ≡ between ++ 10 ∷ [] → IsTrueLine s line
    → AreTrue s old → AreTrue s new
one_more s old between new line e f h so_far =
    let whole : new ≡ old ++ (line ++ 10 ∷ []) = f ∙ (ap (λ t. t ++ 10 ∷ []) e ∙ append_assoc old line (10 ∷ [])) in
    subst (AreTrue s) (sym whole) (both_true s old (line ++ 10 ∷ []) so_far (one_true s line h))

-- ---- bytes that end no line

abbrev stays : ℕ → Bool
stays b = not (b == 10)

both_stay : (xs ys : List ℕ) → list_all stays xs ≡ true → list_all stays ys ≡ true → list_all stays (xs ++ ys) ≡ true
both_stay xs ys a b = list_all-append stays xs ys ∙ (ap (λ t. t && list_all stays ys) a ∙ b)

all_stay : (pieces : List (List ℕ)) → AllByRecursion (λ piece. list_all stays piece ≡ true) pieces → list_all stays (joined pieces) ≡ true
all_stay [] h = refl
all_stay (piece ∷ pieces) h = both_stay piece (joined pieces) h.0 (all_stay pieces h.1)

both_true_bits : (a b : Bool) → (a && b) ≡ true → (a ≡ true) × (b ≡ true)
both_true_bits true b e = (refl, e)
both_true_bits false b e = absurd cc

-- ---- lines that claim nothing

printed_stays : (b : ℕ) → stays (printed b) ≡ true
printed_stays b = go (nat_lt b 32) (b == 127) refl
  where
    go : (low del : Bool) → nat_lt b 32 ≡ low → stays (cond (low || del) 63 b) ≡ true
    go true del e = refl
    go false true e = refl
    go false false e = above (b == 10) refl
      where
        above : (ten : Bool) → (b == 10) ≡ ten → not ten ≡ true
        above false f = refl
        above true f = grind arith

rest_stays : (rest : List ℕ) → list_all stays (map printed rest) ≡ true
rest_stays [] = refl
rest_stays (b ∷ rest) = ap (λ t. t && list_all stays (map printed rest)) (printed_stays b) ∙ rest_stays rest

head_stays : (head : Head) → list_all stays (head_text head) ≡ true
head_stays Maybe = refl
head_stays Refused = refl
head_stays LeftOut = refl
head_stays Count = refl
head_stays Why = refl

abbrev first_byte : List ℕ → ℕ
first_byte [] = 0
first_byte (b ∷ bytes) = b

begins_not : (head : Head) (rest more : List ℕ) → other_line head rest ≡ codes "YES" ++ more → ⊥
begins_not Maybe rest more e = let f : 77 ≡ 89 = ap first_byte e in absurd (omega (arith, f))
begins_not Refused rest more e = let f : 82 ≡ 89 = ap first_byte e in absurd (omega (arith, f))
begins_not LeftOut rest more e = let f : 76 ≡ 89 = ap first_byte e in absurd (omega (arith, f))
begins_not Count rest more e = let f : 67 ≡ 89 = ap first_byte e in absurd (omega (arith, f))
begins_not Why rest more e = let f : 32 ≡ 89 = ap first_byte e in absurd (omega (arith, f))

pub other_true : (s : Surveyed) (head : Head) (rest : List ℕ) → IsTrueLine s (other_line head rest)
other_true s head rest = record {
  one = both_stay (head_text head) (map printed rest) (head_stays head) (rest_stays rest);
  holds = λ begins. absurd (begins_not head rest begins.0 begins.1);
}

-- a line that claims nothing more
pub other_grows : (old new line : List ℕ) (head : Head) (rest : List ℕ) → line ≡ other_line head rest
    → ((s : Surveyed) → IsTrueLine s line → AreTrue s old → AreTrue s new) → GrowsTrue old new
other_grows old new line head rest e grows s so_far = grows s (subst (IsTrueLine s) (sym e) (other_true s head rest)) so_far

-- from no lines on
pub grown_true : (text : List ℕ) → GrowsTrue [] text → (s : Surveyed) → AreTrue s text
grown_true text grows s = grows s (nothing_true s)

-- ---- lines that begin with YES

name_stays : (name : List ℕ) → is_plain name ≡ true → list_all stays name ≡ true
name_stays [] e = refl
name_stays (b ∷ name) e =
    let both = both_true_bits (is_name_byte b) (is_plain name) e in
    ap (λ t. t && list_all stays name) (byte both.0) ∙ name_stays name both.1
  where
    byte : is_name_byte b ≡ true → stays b ≡ true
    byte f = go (b == 10) refl
      where
        go : (ten : Bool) → (b == 10) ≡ ten → not ten ≡ true
        go false g = refl
        go true g = grind arith

given_stays : (given : Bool) → list_all stays (given_text given) ≡ true
given_stays true = refl
given_stays false = refl

errors_stay : (touched : Touched) → list_all stays (errors_text touched) ≡ true
errors_stay touched = go touched.errors
  where
    go : (b : Bool) → list_all stays (cond b (codes " handles-errors") []) ≡ true
    go true = refl
    go false = refl

exceptions_stay : (touched : Touched) → list_all stays (exceptions_text touched) ≡ true
exceptions_stay touched = go touched.exceptions
  where
    go : (b : Bool) → list_all stays (cond b (codes " compares-exceptions") []) ≡ true
    go true = refl
    go false = refl

constants_stay : (touched : Touched) → list_all stays (constants_text touched) ≡ true
constants_stay touched = go touched.constants
  where
    go : (b : Bool) → list_all stays (cond b (codes " constant-value") []) ≡ true
    go true = refl
    go false = refl

module _ (s : Surveyed) (class name desc : List ℕ) (given : Bool) (touched : Touched) where
  yes_stays : is_plain class ≡ true → is_plain name ≡ true → is_plain desc ≡ true
      → list_all stays (yes_line class name desc given touched) ≡ true
  yes_stays c n d = both_stay (joined (codes "YES " ∷ class ∷ codes "." ∷ name ∷ desc ∷ [])) (words_text given touched)
      (all_stay (codes "YES " ∷ class ∷ codes "." ∷ name ∷ desc ∷ [])
      (refl, (name_stays class c, (refl, (name_stays name n, (name_stays desc d, tt))))))
      (both_stay ((given_text given ++ errors_text touched) ++ exceptions_text touched) (constants_text touched)
      (both_stay (given_text given ++ errors_text touched) (exceptions_text touched)
      (both_stay (given_text given) (errors_text touched) (given_stays given) (errors_stay touched)) (exceptions_stay touched))
      (constants_stay touched))

  pub yes_true : is_plain class ≡ true → is_plain name ≡ true → is_plain desc ≡ true → IsProved s given class name desc
      → IsTrueLine s (yes_line class name desc given touched)
  yes_true c n d proved = record {
    one = yes_stays c n d;
    holds = λ begins. record
        { class = class; name = name; desc = desc; given = given; touched = touched; is = refl; plain = (c, (n, d)); proved = proved };
  }

-- the lines of a method whose every run ends
pub yes_lined : (class name desc line text : List ℕ) (given : Bool) (touched : Touched) → is_plain class ≡ true → is_plain name ≡ true
    → is_plain desc ≡ true → line ≡ yes_line class name desc given touched
    → ((s : Surveyed) → IsTrueLine s line → AreTrue s [] → AreTrue s text)
    → (s : Surveyed) → IsProved s given class name desc → AreTrue s text
yes_lined class name desc line text given touched c n d e grows s proved =
    grows s (subst (IsTrueLine s) (sym e) (yes_true s class name desc given touched c n d proved)) (nothing_true s)
