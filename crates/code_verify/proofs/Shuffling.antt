-- Stacks of narrower entries, reordered alike.
use Rattle.std.proofs.Common.{◌≡◌, List, [], ◌∷◌, Option, Some, None, refl, sym, subst}
use Rattle.std.specs.Prelude.{All}
use Rattle.std.specs.List.{AllZip}
use Rattle.std.proofs.lemmas.List.Elements.{All-nil, All-head, All-tail, All-cons}
use Rattle.std.proofs.lemmas.Option.{none-some}
use Rattle.jvm_values.proofs.Options.{some_is}
use Rattle.op_forms.specs.declared.form.Shuffle.{Shuffle}
use Rattle.op_forms.specs.declared.form.Shuffle.TheVariants.{Pop, Pop2, Dup, DupX1, DupX2, Dup2, Dup2X1, Dup2X2, Swap}
use Rattle.op_forms.specs.Forms.{shuffled}

zip_Pop : {A : Type 0} (R : A → A → Type 0) (xs ys zs : List A) → AllZip R xs ys → shuffled Pop ys ≡ Some zs
    → (rest : List A) × ((shuffled Pop xs ≡ Some rest) × AllZip R rest zs)
zip_Pop R [] [] zs h e = absurd (none-some zs e)
zip_Pop R [] (y0 ∷ ys) zs h e = absurd h
zip_Pop R (x0 ∷ xs) [] zs h e = absurd h
zip_Pop R (x0 ∷ xs) (y0 ∷ ys) zs h e = (xs, (refl, subst (AllZip R xs) (some_is e) h.1))

zip_Pop2 : {A : Type 0} (R : A → A → Type 0) (xs ys zs : List A) → AllZip R xs ys → shuffled Pop2 ys ≡ Some zs
    → (rest : List A) × ((shuffled Pop2 xs ≡ Some rest) × AllZip R rest zs)
zip_Pop2 R [] [] zs h e = absurd (none-some zs e)
zip_Pop2 R [] (y0 ∷ ys) zs h e = absurd h
zip_Pop2 R (x0 ∷ xs) [] zs h e = absurd h
zip_Pop2 R (x0 ∷ []) (y0 ∷ []) zs h e = absurd (none-some zs e)
zip_Pop2 R (x0 ∷ []) (y0 ∷ (y1 ∷ ys)) zs h e = absurd h.1
zip_Pop2 R (x0 ∷ (x1 ∷ xs)) (y0 ∷ []) zs h e = absurd h.1
zip_Pop2 R (x0 ∷ x1 ∷ xs) (y0 ∷ y1 ∷ ys) zs h e = (xs, (refl, subst (AllZip R xs) (some_is e) h.1.1))

zip_Dup : {A : Type 0} (R : A → A → Type 0) (xs ys zs : List A) → AllZip R xs ys → shuffled Dup ys ≡ Some zs
    → (rest : List A) × ((shuffled Dup xs ≡ Some rest) × AllZip R rest zs)
zip_Dup R [] [] zs h e = absurd (none-some zs e)
zip_Dup R [] (y0 ∷ ys) zs h e = absurd h
zip_Dup R (x0 ∷ xs) [] zs h e = absurd h
zip_Dup R (x0 ∷ xs) (y0 ∷ ys) zs h e = ((x0 ∷ x0 ∷ xs), (refl, subst (AllZip R (x0 ∷ x0 ∷ xs)) (some_is e) (h.0, (h.0, h.1))))

zip_DupX1 : {A : Type 0} (R : A → A → Type 0) (xs ys zs : List A) → AllZip R xs ys → shuffled DupX1 ys ≡ Some zs
    → (rest : List A) × ((shuffled DupX1 xs ≡ Some rest) × AllZip R rest zs)
zip_DupX1 R [] [] zs h e = absurd (none-some zs e)
zip_DupX1 R [] (y0 ∷ ys) zs h e = absurd h
zip_DupX1 R (x0 ∷ xs) [] zs h e = absurd h
zip_DupX1 R (x0 ∷ []) (y0 ∷ []) zs h e = absurd (none-some zs e)
zip_DupX1 R (x0 ∷ []) (y0 ∷ (y1 ∷ ys)) zs h e = absurd h.1
zip_DupX1 R (x0 ∷ (x1 ∷ xs)) (y0 ∷ []) zs h e = absurd h.1
zip_DupX1 R (x0 ∷ x1 ∷ xs) (y0 ∷ y1 ∷ ys) zs h e =
    ((x0 ∷ x1 ∷ x0 ∷ xs), (refl, subst (AllZip R (x0 ∷ x1 ∷ x0 ∷ xs)) (some_is e) (h.0, (h.1.0, (h.0, h.1.1)))))

zip_DupX2 : {A : Type 0} (R : A → A → Type 0) (xs ys zs : List A) → AllZip R xs ys → shuffled DupX2 ys ≡ Some zs
    → (rest : List A) × ((shuffled DupX2 xs ≡ Some rest) × AllZip R rest zs)
zip_DupX2 R [] [] zs h e = absurd (none-some zs e)
zip_DupX2 R [] (y0 ∷ ys) zs h e = absurd h
zip_DupX2 R (x0 ∷ xs) [] zs h e = absurd h
zip_DupX2 R (x0 ∷ []) (y0 ∷ []) zs h e = absurd (none-some zs e)
zip_DupX2 R (x0 ∷ []) (y0 ∷ (y1 ∷ ys)) zs h e = absurd h.1
zip_DupX2 R (x0 ∷ (x1 ∷ xs)) (y0 ∷ []) zs h e = absurd h.1
zip_DupX2 R (x0 ∷ x1 ∷ []) (y0 ∷ y1 ∷ []) zs h e = absurd (none-some zs e)
zip_DupX2 R (x0 ∷ x1 ∷ []) (y0 ∷ y1 ∷ (y2 ∷ ys)) zs h e = absurd h.1.1
zip_DupX2 R (x0 ∷ x1 ∷ (x2 ∷ xs)) (y0 ∷ y1 ∷ []) zs h e = absurd h.1.1
zip_DupX2 R (x0 ∷ x1 ∷ x2 ∷ xs) (y0 ∷ y1 ∷ y2 ∷ ys) zs h e =
    ((x0 ∷ x1 ∷ x2 ∷ x0 ∷ xs), (refl, subst (AllZip R (x0 ∷ x1 ∷ x2 ∷ x0 ∷ xs)) (some_is e) (h.0, (h.1.0, (h.1.1.0, (h.0, h.1.1.1))))))

zip_Dup2 : {A : Type 0} (R : A → A → Type 0) (xs ys zs : List A) → AllZip R xs ys → shuffled Dup2 ys ≡ Some zs
    → (rest : List A) × ((shuffled Dup2 xs ≡ Some rest) × AllZip R rest zs)
zip_Dup2 R [] [] zs h e = absurd (none-some zs e)
zip_Dup2 R [] (y0 ∷ ys) zs h e = absurd h
zip_Dup2 R (x0 ∷ xs) [] zs h e = absurd h
zip_Dup2 R (x0 ∷ []) (y0 ∷ []) zs h e = absurd (none-some zs e)
zip_Dup2 R (x0 ∷ []) (y0 ∷ (y1 ∷ ys)) zs h e = absurd h.1
zip_Dup2 R (x0 ∷ (x1 ∷ xs)) (y0 ∷ []) zs h e = absurd h.1
zip_Dup2 R (x0 ∷ x1 ∷ xs) (y0 ∷ y1 ∷ ys) zs h e =
    ((x0 ∷ x1 ∷ x0 ∷ x1 ∷ xs), (refl, subst (AllZip R (x0 ∷ x1 ∷ x0 ∷ x1 ∷ xs)) (some_is e) (h.0, (h.1.0, (h.0, (h.1.0, h.1.1))))))

zip_Dup2X1 : {A : Type 0} (R : A → A → Type 0) (xs ys zs : List A) → AllZip R xs ys → shuffled Dup2X1 ys ≡ Some zs
    → (rest : List A) × ((shuffled Dup2X1 xs ≡ Some rest) × AllZip R rest zs)
zip_Dup2X1 R [] [] zs h e = absurd (none-some zs e)
zip_Dup2X1 R [] (y0 ∷ ys) zs h e = absurd h
zip_Dup2X1 R (x0 ∷ xs) [] zs h e = absurd h
zip_Dup2X1 R (x0 ∷ []) (y0 ∷ []) zs h e = absurd (none-some zs e)
zip_Dup2X1 R (x0 ∷ []) (y0 ∷ (y1 ∷ ys)) zs h e = absurd h.1
zip_Dup2X1 R (x0 ∷ (x1 ∷ xs)) (y0 ∷ []) zs h e = absurd h.1
zip_Dup2X1 R (x0 ∷ x1 ∷ []) (y0 ∷ y1 ∷ []) zs h e = absurd (none-some zs e)
zip_Dup2X1 R (x0 ∷ x1 ∷ []) (y0 ∷ y1 ∷ (y2 ∷ ys)) zs h e = absurd h.1.1
zip_Dup2X1 R (x0 ∷ x1 ∷ (x2 ∷ xs)) (y0 ∷ y1 ∷ []) zs h e = absurd h.1.1
zip_Dup2X1 R (x0 ∷ x1 ∷ x2 ∷ xs) (y0 ∷ y1 ∷ y2 ∷ ys) zs h e = (
  (x0 ∷ x1 ∷ x2 ∷ x0 ∷ x1 ∷ xs),
  (refl, subst (AllZip R (x0 ∷ x1 ∷ x2 ∷ x0 ∷ x1 ∷ xs)) (some_is e) (h.0, (h.1.0, (h.1.1.0, (h.0, (h.1.0, h.1.1.1)))))),
)

zip_Dup2X2 : {A : Type 0} (R : A → A → Type 0) (xs ys zs : List A) → AllZip R xs ys → shuffled Dup2X2 ys ≡ Some zs
    → (rest : List A) × ((shuffled Dup2X2 xs ≡ Some rest) × AllZip R rest zs)
zip_Dup2X2 R [] [] zs h e = absurd (none-some zs e)
zip_Dup2X2 R [] (y0 ∷ ys) zs h e = absurd h
zip_Dup2X2 R (x0 ∷ xs) [] zs h e = absurd h
zip_Dup2X2 R (x0 ∷ []) (y0 ∷ []) zs h e = absurd (none-some zs e)
zip_Dup2X2 R (x0 ∷ []) (y0 ∷ (y1 ∷ ys)) zs h e = absurd h.1
zip_Dup2X2 R (x0 ∷ (x1 ∷ xs)) (y0 ∷ []) zs h e = absurd h.1
zip_Dup2X2 R (x0 ∷ x1 ∷ []) (y0 ∷ y1 ∷ []) zs h e = absurd (none-some zs e)
zip_Dup2X2 R (x0 ∷ x1 ∷ []) (y0 ∷ y1 ∷ (y2 ∷ ys)) zs h e = absurd h.1.1
zip_Dup2X2 R (x0 ∷ x1 ∷ (x2 ∷ xs)) (y0 ∷ y1 ∷ []) zs h e = absurd h.1.1
zip_Dup2X2 R (x0 ∷ x1 ∷ x2 ∷ []) (y0 ∷ y1 ∷ y2 ∷ []) zs h e = absurd (none-some zs e)
zip_Dup2X2 R (x0 ∷ x1 ∷ x2 ∷ []) (y0 ∷ y1 ∷ y2 ∷ (y3 ∷ ys)) zs h e = absurd h.1.1.1
zip_Dup2X2 R (x0 ∷ x1 ∷ x2 ∷ (x3 ∷ xs)) (y0 ∷ y1 ∷ y2 ∷ []) zs h e = absurd h.1.1.1
zip_Dup2X2 R (x0 ∷ x1 ∷ x2 ∷ x3 ∷ xs) (y0 ∷ y1 ∷ y2 ∷ y3 ∷ ys) zs h e = (
  (x0 ∷ x1 ∷ x2 ∷ x3 ∷ x0 ∷ x1 ∷ xs),
  (
    refl,
    subst (AllZip R (x0 ∷ x1 ∷ x2 ∷ x3 ∷ x0 ∷ x1 ∷ xs)) (some_is e)
        (h.0, (h.1.0, (h.1.1.0, (h.1.1.1.0, (h.0, (h.1.0, h.1.1.1.1)))))),
  ),
)

zip_Swap : {A : Type 0} (R : A → A → Type 0) (xs ys zs : List A) → AllZip R xs ys → shuffled Swap ys ≡ Some zs
    → (rest : List A) × ((shuffled Swap xs ≡ Some rest) × AllZip R rest zs)
zip_Swap R [] [] zs h e = absurd (none-some zs e)
zip_Swap R [] (y0 ∷ ys) zs h e = absurd h
zip_Swap R (x0 ∷ xs) [] zs h e = absurd h
zip_Swap R (x0 ∷ []) (y0 ∷ []) zs h e = absurd (none-some zs e)
zip_Swap R (x0 ∷ []) (y0 ∷ (y1 ∷ ys)) zs h e = absurd h.1
zip_Swap R (x0 ∷ (x1 ∷ xs)) (y0 ∷ []) zs h e = absurd h.1
zip_Swap R (x0 ∷ x1 ∷ xs) (y0 ∷ y1 ∷ ys) zs h e =
    ((x1 ∷ x0 ∷ xs), (refl, subst (AllZip R (x1 ∷ x0 ∷ xs)) (some_is e) (h.1.0, (h.0, h.1.1))))

pub shuffled_zip : {A : Type 0} (R : A → A → Type 0) (shuffle : Shuffle) (xs ys zs : List A) → AllZip R xs ys
    → shuffled shuffle ys ≡ Some zs → (rest : List A) × ((shuffled shuffle xs ≡ Some rest) × AllZip R rest zs)
shuffled_zip R Pop xs ys zs h e = zip_Pop R xs ys zs h e
shuffled_zip R Pop2 xs ys zs h e = zip_Pop2 R xs ys zs h e
shuffled_zip R Dup xs ys zs h e = zip_Dup R xs ys zs h e
shuffled_zip R DupX1 xs ys zs h e = zip_DupX1 R xs ys zs h e
shuffled_zip R DupX2 xs ys zs h e = zip_DupX2 R xs ys zs h e
shuffled_zip R Dup2 xs ys zs h e = zip_Dup2 R xs ys zs h e
shuffled_zip R Dup2X1 xs ys zs h e = zip_Dup2X1 R xs ys zs h e
shuffled_zip R Dup2X2 xs ys zs h e = zip_Dup2X2 R xs ys zs h e
shuffled_zip R Swap xs ys zs h e = zip_Swap R xs ys zs h e

-- what holds of each entry of a stack, as what holds of two stacks place by place, of which only the second one counts
each_beside : {A : Type 0} (P : A → Type 0) (xs : List A) → All P xs → AllZip (λ _ y. P y) xs xs
each_beside P [] h = tt
each_beside P (x ∷ xs) h = (All-head P x xs h, each_beside P xs (All-tail P x xs h))

each_second : {A : Type 0} (P : A → Type 0) (xs ys : List A) → AllZip (λ _ y. P y) xs ys → All P ys
each_second P [] [] h = All-nil P
each_second P [] (y ∷ ys) h = absurd h
each_second P (x ∷ xs) [] h = absurd h
each_second P (x ∷ xs) (y ∷ ys) h = All-cons P y ys h.0 (each_second P xs ys h.1)

pub shuffled_all : {A : Type 0} (P : A → Type 0) (shuffle : Shuffle) (xs zs : List A) → All P xs → shuffled shuffle xs ≡ Some zs → All P zs
shuffled_all P shuffle xs zs h e =
    let zip = shuffled_zip (λ _ y. P y) shuffle xs xs zs (each_beside P xs h) e in
    each_second P zip.0 zs zip.1.1
