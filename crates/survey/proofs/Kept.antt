-- Contents that are told under some names.
use Rattle.std.proofs.Common.{◌≡◌, ◌∙◌, inl, inr, ℕ, zero, suc, ◌<◌, List, [], ◌∷◌, ◌++◌, length, map, take, drop, get_or, ◌+◌, ◌≤◌, add-one, length-append, refl, sym, ap, subst, arith}
use Rattle.std.specs.Global.{Vec}
use Rattle.std.specs.List.{remove}
use Rattle.std.proofs.lemmas.List.{map-append, take-map, drop-map, take_all, length-map}
use Rattle.input_steps.proofs.Files.{take_files_more}
use Rattle.io_ports.specs.Told.{Told, IsContent}
use Rattle.survey.specs.Outside.{AreSome}
use Rattle.survey.specs.inner.Wording.{StayRead, GrowsRead}

module _ (held : List ℕ → Told) where
  -- one name more in front
  some_weaker : (name : List ℕ) (names contents : List (List ℕ)) → AreSome held names contents → AreSome held (name ∷ names) contents
  some_weaker name names [] some = tt
  some_weaker name names (content ∷ contents) some = inr some

  -- without the first content
  some_behind : (names : List (List ℕ)) (content : List ℕ) (contents : List (List ℕ)) → AreSome held names (content ∷ contents)
      → AreSome held names contents
  some_behind [] content contents some = absurd some
  some_behind (name ∷ names) content contents (inl some) = some_weaker name names contents some.1
  some_behind (name ∷ names) content contents (inr some) = some_weaker name names contents (some_behind names content contents some)

  -- without the content at a place
  some_without : (names contents : List (List ℕ)) (i : ℕ) → AreSome held names contents
      → AreSome held names (take i contents ++ drop (suc i) contents)
  some_without names [] zero some = tt
  some_without names [] (suc i) some = tt
  some_without names (content ∷ contents) zero some = some_behind names content contents some
  some_without [] (content ∷ contents) (suc i) some = absurd some
  some_without (name ∷ names) (content ∷ contents) (suc i) (inl some) = inl (some.0, some_without names contents i some.1)
  some_without (name ∷ names) (content ∷ contents) (suc i) (inr some) = inr (some_without names (content ∷ contents) (suc i) some)

  -- one name more at the end
  pub some_skip : (names contents : List (List ℕ)) (name : List ℕ) → AreSome held names contents → AreSome held (names ++ name ∷ []) contents
  some_skip names [] name some = tt
  some_skip [] (content ∷ contents) name some = absurd some
  some_skip (first ∷ names) (content ∷ contents) name (inl some) = inl (some.0, some_skip names contents name some.1)
  some_skip (first ∷ names) (content ∷ contents) name (inr some) = inr (some_skip names (content ∷ contents) name some)

  -- and its content
  pub some_more : (names contents : List (List ℕ)) (name content : List ℕ) → AreSome held names contents → IsContent (held name) content
      → AreSome held (names ++ name ∷ []) (contents ++ content ∷ [])
  some_more [] [] name content some is = inl (is, tt)
  some_more (first ∷ names) [] name content some is = inr (some_more names [] name content tt is)
  some_more [] (c ∷ contents) name content some is = absurd some
  some_more (first ∷ names) (c ∷ contents) name content (inl some) is = inl (some.0, some_more names contents name content some.1 is)
  some_more (first ∷ names) (c ∷ contents) name content (inr some) is = inr (some_more names (c ∷ contents) name content some is)

-- without a file
pub stay_without : (files rest : List (Vec ℕ)) (i : ℕ) → rest ≡ remove files i
    → StayRead (map (λ (file : Vec ℕ). file.items) files) (map (λ (file : Vec ℕ). file.items) rest)
stay_without files rest i e held names some =
    let f = λ (file : Vec ℕ). file.items in
    let parts : map f rest ≡ take i (map f files) ++ drop (suc i) (map f files) =
    ap (map f) e
    ∙ (map-append f (take i files) (drop (suc i) files)
    ∙ (ap (λ l. l ++ map f (drop (suc i) files)) (sym (take-map f i files)) ∙ ap (λ l. take i (map f files) ++ l) (sym (drop-map f (suc i) files)))) in
    subst (AreSome held names) (sym parts) (some_without held names (map f files) i some)

pub stay : (contents : List (List ℕ)) → StayRead contents contents
stay contents held names some = some

pub stay_on : (a b c : List (List ℕ)) → StayRead a b → StayRead b c → StayRead a c
stay_on a b c x y held names some = y held names (x held names some)

-- ---- one word more

pub grows_not : (told : Told) (files : List (Vec ℕ)) → GrowsRead told files files
grows_not told files = inl refl

pub grows_by : (told : Told) (old new : List (Vec ℕ)) (content : Vec ℕ) → IsContent told content.items → new ≡ old ++ content ∷ []
    → GrowsRead told old new
grows_by told old new content is e = inr (content, (is, e))

pub some_grown : {A : Type 0} (f : A → List ℕ) (held between : List ℕ → Told) (words : List A) (k : ℕ) (word : A) (name : List ℕ)
    (old new : List (Vec ℕ)) → k < length words → word ≡ get_or words k word → name ≡ f word → between ≡ held
    → GrowsRead (between name) old new → AreSome held (take k (map f words)) (map (λ (file : Vec ℕ). file.items) old)
    → AreSome held (take (k + 1) (map f words)) (map (λ (file : Vec ℕ). file.items) new)
some_grown f held between words k word name old new l e named same grows some =
    let g = λ (file : Vec ℕ). file.items in
    let more : take (k + 1) (map f words) ≡ take k (map f words) ++ name ∷ [] =
    ap (λ n. take n (map f words)) (add-one k) ∙ take_files_more f words k word name l e named in
    subst (λ names. AreSome held names (map g new)) (sym more) (go grows)
  where
    go : GrowsRead (between name) old new
        → AreSome held (take k (map f words) ++ name ∷ []) (map (λ (file : Vec ℕ). file.items) new)
    go (inl stays) = subst (λ files. AreSome held (take k (map f words) ++ name ∷ []) (map (λ (file : Vec ℕ). file.items) files)) (sym stays)
        (some_skip held (take k (map f words)) (map (λ (file : Vec ℕ). file.items) old) name some)
    go (inr more) =
        let g = λ (file : Vec ℕ). file.items in
        let all : map g new ≡ map g old ++ more.0.items ∷ [] = ap (map g) more.1.1 ∙ map-append g old (more.0 ∷ []) in
        subst (AreSome held (take k (map f words) ++ name ∷ [])) (sym all)
        (some_more held (take k (map f words)) (map g old) name more.0.items some (subst (λ h. IsContent (h name) more.0.items) same more.1.0))

pub grown_few : (told : Told) (old new : List (Vec ℕ)) (k : ℕ) → GrowsRead told old new → length old ≤ k → length new ≤ k + 1
grown_few told old new k (inl stays) few = let same = ap (λ (files : List (Vec ℕ)). length files) stays in omega (arith, same, few)
grown_few told old new k (inr more) few =
    let same = ap (λ (files : List (Vec ℕ)). length files) more.1.1 in
    let long = length-append old (more.0 ∷ []) in
    omega (arith, same, long, few)

pub some_all : {A : Type 0} (f : A → List ℕ) (held : List ℕ → Told) (words : List A) (k : ℕ) (contents : List (List ℕ)) → length words ≤ k
    → AreSome held (take k (map f words)) contents → AreSome held (map f words) contents
some_all f held words k contents l some =
    let long = length-map words f in
    subst (λ names. AreSome held names contents) (take_all k (map f words) (omega (arith, long, l))) some
