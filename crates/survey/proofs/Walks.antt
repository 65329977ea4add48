-- Items of a list, one after another.
use Rattle.std.proofs.Common.{◌≡◌, ◌∙◌, ℕ, ◌+◌, ◌<◌, ◌≤◌, List, [], ◌∷◌, ◌++◌, length, map, drop, get_or, sym, ap, subst}
use Rattle.std.proofs.Common.{append_assoc, append-nil}
use Rattle.std.specs.List.{AllByRecursion}
use Rattle.std.proofs.lemmas.List.{drop_more, at_drop_all, map-append}
use Rattle.survey.specs.Lines.{printed}
use Rattle.survey.specs.Words.{descs_in}

-- ---- what holds of each

module _ {A B : Type 0} (P : B → Type 0) (f : A → B) where
  abbrev Each : List A → Type 0
  Each xs = AllByRecursion P (map f xs)

  -- of one more
  pub each_more : (xs : List A) (i : ℕ) (x : A) → i < length xs → x ≡ get_or xs i x → P (f x)
      → (AllByRecursion P (map f (drop i xs)) → AllByRecursion P (map f xs))
      → AllByRecursion P (map f (drop (i + 1) xs)) → AllByRecursion P (map f xs)
  each_more xs i x l e p so_far rest =
      let here : drop i xs ≡ x ∷ drop (i + 1) xs = drop_more xs i x l ∙ ap (λ (y : A). y ∷ drop (i + 1) xs) (sym e) in
      so_far (subst Each (sym here) (p, rest))

  -- of all
  pub each_end : (xs : List A) (i : ℕ) → length xs ≤ i → (AllByRecursion P (map f (drop i xs)) → AllByRecursion P (map f xs))
      → AllByRecursion P (map f xs)
  each_end xs i l so_far = so_far (subst Each (sym (at_drop_all (λ (ys : List A). ys) xs i l)) tt)

module _ {A : Type 0} (P : A → Type 0) where
  pub item_more : (xs : List A) (i : ℕ) (x : A) → i < length xs → x ≡ get_or xs i x → P x
      → (AllByRecursion P (drop i xs) → AllByRecursion P xs) → AllByRecursion P (drop (i + 1) xs) → AllByRecursion P xs
  item_more xs i x l e p so_far rest =
      let here : drop i xs ≡ x ∷ drop (i + 1) xs = drop_more xs i x l ∙ ap (λ (y : A). y ∷ drop (i + 1) xs) (sym e) in
      so_far (subst (AllByRecursion P) (sym here) (p, rest))

  pub item_end : (xs : List A) (i : ℕ) → length xs ≤ i → (AllByRecursion P (drop i xs) → AllByRecursion P xs) → AllByRecursion P xs
  item_end xs i l so_far = so_far (subst (AllByRecursion P) (sym (at_drop_all (λ (ys : List A). ys) xs i l)) tt)

-- ---- bytes as they stand in a line

pub printed_more : (line new whole bytes : List ℕ) (i b : ℕ) → i < length bytes → b ≡ get_or bytes i b → new ≡ line ++ printed b ∷ []
    → line ++ map printed (drop i bytes) ≡ whole → new ++ map printed (drop (i + 1) bytes) ≡ whole
printed_more line new whole bytes i b l e push so_far =
    let here : drop i bytes ≡ b ∷ drop (i + 1) bytes = drop_more bytes i b l ∙ ap (λ y. y ∷ drop (i + 1) bytes) (sym e) in
    let rest = map printed (drop (i + 1) bytes) in
    ap (λ t. t ++ rest) push ∙ (append_assoc line (printed b ∷ []) rest ∙ (ap (λ bs. line ++ map printed bs) (sym here) ∙ so_far))

pub printed_end : (line whole bytes : List ℕ) (i : ℕ) → length bytes ≤ i → line ++ map printed (drop i bytes) ≡ whole → line ≡ whole
printed_end line whole bytes i l so_far =
    sym (append-nil line) ∙ (ap (λ bs. line ++ map printed bs) (sym (at_drop_all (λ (bs : List ℕ). bs) bytes i l)) ∙ so_far)

-- ---- names of descriptions

pub descs_more : {A : Type 0} (f : A → List ℕ) (items new : List A) (x : A) (rest behind whole : List (List ℕ)) → new ≡ items ++ x ∷ []
    → descs_in rest ≡ f x ∷ descs_in behind → map f items ++ descs_in rest ≡ whole → map f new ++ descs_in behind ≡ whole
descs_more f items new x rest behind whole push first so_far =
    ap (λ xs. map f xs ++ descs_in behind) push
    ∙ (ap (λ ys. ys ++ descs_in behind) (map-append f items (x ∷ []))
    ∙ (append_assoc (map f items) (f x ∷ []) (descs_in behind) ∙ (ap (λ ys. map f items ++ ys) (sym first) ∙ so_far)))

pub descs_end : (front rest whole : List (List ℕ)) → descs_in rest ≡ [] → front ++ descs_in rest ≡ whole → front ≡ whole
descs_end front rest whole none so_far = sym (append-nil front) ∙ (ap (λ ys. front ++ ys) (sym none) ∙ so_far)
