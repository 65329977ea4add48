-- What a listing's lines say together: plain texts, methods that are ended, and entries of a pool that fit.
use Rattle.std.proofs.Common.{◌≡◌, ℕ, ◌+◌, Bool, true, false, cond, not, ◌&&◌, ◌||◌, List, [], ◌∷◌, ◌++◌, length, drop, Option}
use Rattle.std.proofs.Common.{Some, None, is_some, Ok, Err, refl, ap}
use Rattle.std.specs.Prelude.{codes}
use Rattle.std.specs.List.{list_any, AllByRecursion}
use Rattle.std.specs.Option.{option_map_or}
use Rattle.std.specs.Str.{bytes_eq}
use Rattle.asm_lines.specs.declared.fault.AsmFault.{AsmFault}
use Rattle.asm_lines.specs.declared.fault.AsmFault.TheVariants.{Syntax, NoEnd}
use Rattle.asm_lines.specs.declared.item.Item.{Item}
use Rattle.asm_lines.specs.declared.listing.CodeLine.{CodeLine}
use Rattle.asm_lines.specs.declared.listing.MethodLines.{MethodLines}
use Rattle.asm_lines.specs.declared.listing.Outside.{Outside}
use Rattle.asm_lines.specs.declared.listing.Outside.TheVariants as outsides
use Rattle.asm_lines.specs.declared.listing.Listing.{Listing}
use Rattle.asm_lines.specs.declared.statement.ClassLine.{ClassLine}
use Rattle.asm_lines.specs.Firsts.{is_before, with_fault}
use Rattle.asm_lines.specs.Items.{Names, label_of}
use Rattle.asm_lines.specs.Operations.{all_names}
use Rattle.asm_lines.specs.LinesAndWords.{is_plain, lines_of, words_of}
use Rattle.list_views.specs.Results.{◌>>=◌}
use Rattle.asm_lines.specs.Statements.{Said, Words, constant_line, field_line, attribute_line, method_line}
use Rattle.asm_lines.specs.Listings.{is_skipped, outside_of, make_method, with_outside, with_first, outside_line, labelled}
use Rattle.asm_lines.specs.Listings.{read_item, item_in, code_line, with_code, with_said, method_of_line, plain_outside, with_line}
use Rattle.asm_lines.specs.Listings.{with_lines, no_lines, with_unended, ended, class_said, first_line, listing_of}
use Rattle.asm_lines.proofs.PlainWords.{ArePlain, words_plain, Holds, onward, either, PlainField, field_plain, PlainAttribute}
use Rattle.asm_lines.proofs.PlainWords.{attribute_plain, PlainConstant, constant_plain, PlainClass, class_plain, GoodHead}
use Rattle.asm_lines.proofs.PlainWords.{head_plain, PlainItem, item_plain}

-- ---- methods

abbrev pub has_end : List CodeLine → Bool
has_end lines = list_any (λ code. code.ends) lines

-- a method that isn't ended yet
pub record OpenMethod (m : MethodLines) : Type 0 where
  pub head : GoodHead m.head
  pub items : AllByRecursion (λ code. PlainItem code.item) m.lines

pub record GoodMethod (m : MethodLines) : Type 0 where
  pub open_method : OpenMethod m
  pub ended : is_some m.head.sizes ≡ true → has_end m.lines ≡ true

abbrev OpenOption : Option MethodLines → Type 0
OpenOption None = Unit {0}
OpenOption (Some m) = OpenMethod m

pub record GoodListing (l : Listing) : Type 0 where
  pub constants : AllByRecursion (λ c. PlainConstant c.1) l.constants
  pub fields : AllByRecursion (λ f. PlainField f.1) l.fields
  pub methods : AllByRecursion GoodMethod l.methods
  pub attributes : AllByRecursion (λ a. PlainAttribute a.1) l.attributes
  pub unended : OpenOption l.unended

joined : {A : Type 0} (P : A → Type 0) (xs : List A) (x : A) → AllByRecursion P xs → P x → AllByRecursion P (xs ++ x ∷ [])
joined P [] x p q = (q, tt)
joined P (y ∷ xs) x p q = (p.0, joined P xs x p.1 q)

-- ---- outside methods

abbrev GoodOutside : Outside → Type 0
GoodOutside (outsides.Constant x) = PlainConstant x
GoodOutside (outsides.Field x) = PlainField x
GoodOutside (outsides.Attribute x) = PlainAttribute x
GoodOutside (outsides.Method head) = GoodHead head

outside_good : (line : ℕ) (words : Words) → ArePlain words → Holds GoodOutside (outside_of line words)
unfolding outside_of
outside_good line [] h = tt
outside_good line (word ∷ words) h =
    either GoodOutside (bytes_eq word (codes "constant")) (constant_line line words >>= λ x. Ok (outsides.Constant x))
    (cond (bytes_eq word (codes "field")) (field_line line words >>= λ x. Ok (outsides.Field x))
    (cond (bytes_eq word (codes "attribute")) (attribute_line line words >>= λ x. Ok (outsides.Attribute x))
    (cond (bytes_eq word (codes "method")) (method_line line words >>= λ x. Ok (outsides.Method x)) (Err (Syntax line)))))
    (onward PlainConstant GoodOutside (constant_line line words) (λ x. Ok (outsides.Constant x)) (constant_plain line words h.1)
    (λ x p. p))
    (either GoodOutside (bytes_eq word (codes "field")) (field_line line words >>= λ x. Ok (outsides.Field x))
    (cond (bytes_eq word (codes "attribute")) (attribute_line line words >>= λ x. Ok (outsides.Attribute x))
    (cond (bytes_eq word (codes "method")) (method_line line words >>= λ x. Ok (outsides.Method x)) (Err (Syntax line))))
    (onward PlainField GoodOutside (field_line line words) (λ x. Ok (outsides.Field x)) (field_plain line words h.1) (λ x p. p))
    (either GoodOutside (bytes_eq word (codes "attribute")) (attribute_line line words >>= λ x. Ok (outsides.Attribute x))
    (cond (bytes_eq word (codes "method")) (method_line line words >>= λ x. Ok (outsides.Method x)) (Err (Syntax line)))
    (onward PlainAttribute GoodOutside (attribute_line line words) (λ x. Ok (outsides.Attribute x)) (attribute_plain line words h.1)
    (λ x p. p))
    (either GoodOutside (bytes_eq word (codes "method")) (method_line line words >>= λ x. Ok (outsides.Method x)) (Err (Syntax line))
    (onward GoodHead GoodOutside (method_line line words) (λ x. Ok (outsides.Method x)) (head_plain line words h.1) (λ x p. p)) tt)))

method_by : (l : Listing) (m : MethodLines) (b : Bool) → is_some m.head.sizes ≡ b → GoodListing l → OpenMethod m
    → GoodListing (cond b (record l { unended = Some m }) (record l { methods = l.methods ++ m ∷ [] }))
method_by l m true e h o = record {
  constants = h.constants;
  fields = h.fields;
  methods = h.methods;
  attributes = h.attributes;
  unended = o;
}
method_by l m false e h o = record {
  constants = h.constants;
  fields = h.fields;
  methods = joined GoodMethod l.methods m h.methods (record { open_method = o; ended = λ k. absurd cc });
  attributes = h.attributes;
  unended = h.unended;
}

outside_with : (l : Listing) (line : ℕ) (said : Outside) → GoodListing l → GoodOutside said → GoodListing (with_outside l line said)
outside_with l line (outsides.Constant x) h g = record {
  constants = joined (λ c. PlainConstant c.1) l.constants (line, x) h.constants g;
  fields = h.fields;
  methods = h.methods;
  attributes = h.attributes;
  unended = h.unended;
}
outside_with l line (outsides.Field x) h g = record {
  constants = h.constants;
  fields = joined (λ f. PlainField f.1) l.fields (line, x) h.fields g;
  methods = h.methods;
  attributes
      = h.attributes;
  unended = h.unended;
}
outside_with l line (outsides.Attribute x) h g = record {
  constants = h.constants;
  fields = h.fields;
  methods = h.methods;
  attributes = joined (λ a. PlainAttribute a.1) l.attributes
      (line, x) h.attributes g;
  unended = h.unended;
}
outside_with l line (outsides.Method head) h g = method_by l (make_method line head []) (is_some head.sizes) refl h
    (record { head = g; items = tt })

faulty : (l : Listing) (fault : AsmFault) → GoodListing l → GoodListing (with_first l fault)
faulty l fault h = record {
  constants = h.constants;
  fields = h.fields;
  methods = h.methods;
  attributes = h.attributes;
  unended =
      h.unended;
}

outside_said : (l : Listing) (line : ℕ) (said : Said Outside) → GoodListing l → Holds GoodOutside said
    → GoodListing (outside_line l line said)
outside_said l line (Ok x) h g = outside_with l line x h g
outside_said l line (Err fault) h g = faulty l fault h

plain_by : (line : ℕ) (words : Words) (b : Bool) → (b ≡ true → ArePlain words) → Holds GoodOutside (plain_outside line b words)
plain_by line words true h = outside_good line words (h refl)
plain_by line words false h = tt

-- ---- in a method

abbrev behind_label : List ℕ → Words → Option (List ℕ) → Option (List ℕ) × Words
behind_label word words o = option_map_or (λ label. (Some label, words)) o (None, word ∷ words)

labelled_by : (word : List ℕ) (words : Words) (o : Option (List ℕ)) → ArePlain (word ∷ words) → ArePlain (behind_label word words o).1
labelled_by word words None h = h
labelled_by word words (Some label) h = h.1

labelled_plain : (words : Words) → ArePlain words → ArePlain (labelled words).1
labelled_plain [] h = tt
labelled_plain (word ∷ words) h = labelled_by word words (label_of word) h

read_by : (names : Names) (line : ℕ) (b has_label : Bool) (words : Words) → (b ≡ true → ArePlain words)
    → Holds PlainItem (read_item names line b has_label words)
read_by names line true has_label words h = item_plain names line has_label words (h refl)
read_by names line false has_label words h = tt

in_item : (said : Said Item) → Holds PlainItem said → PlainItem (item_in said)
in_item (Ok item) h = h
in_item (Err fault) h = tt

said_good : (l : Listing) (said : Said Item) → GoodListing l → GoodListing (with_said l said)
said_good l (Ok item) h = h
said_good l (Err fault) h = faulty l fault h

ended_by : (lines : List CodeLine) (code : CodeLine) → code.ends ≡ true → has_end (lines ++ code ∷ []) ≡ true
ended_by [] code h = ap (λ b. b || false) h
ended_by (x ∷ lines) code h = or_true x.ends (has_end (lines ++ code ∷ [])) (ended_by lines code h)
  where
    or_true : (a b : Bool) → b ≡ true → (a || b) ≡ true
    or_true true b k = refl
    or_true false b k = k

code_by : (l : Listing) (m : MethodLines) (code : CodeLine) (b : Bool) → code.ends ≡ b → GoodListing l
    → OpenMethod (make_method m.line m.head (m.lines ++ code ∷ []))
    → GoodListing (cond b
    (record l { methods = l.methods ++ make_method m.line m.head (m.lines ++ code ∷ []) ∷ []; unended = None })
    (record l { unended = Some (make_method m.line m.head (m.lines ++ code ∷ [])) }))
code_by l m code true e h o = record {
  constants = h.constants;
  fields = h.fields;
  methods = joined GoodMethod l.methods (make_method m.line m.head (m.lines ++ code ∷ [])) h.methods
      (record { open_method = o; ended = λ k. ended_by m.lines code e });
  attributes = h.attributes;
  unended = tt;
}
code_by l m code false e h o = record {
  constants = h.constants;
  fields = h.fields;
  methods = h.methods;
  attributes = h.attributes;
  unended = o;
}

code_good : (l : Listing) (m : MethodLines) (code : CodeLine) → GoodListing l → OpenMethod m → PlainItem code.item
    → GoodListing (with_code l m code)
code_good l m code h o p = code_by l m code code.ends refl h
    (record { head = o.head; items = joined (λ c. PlainItem c.item) m.lines code o.items p })

in_method : (names : Names) (l : Listing) (m : MethodLines) (line : ℕ) (b : Bool) (words : Option (List ℕ) × Words) → GoodListing l
    → OpenMethod m → (b ≡ true → ArePlain words.1)
    → GoodListing (method_of_line names l m line b words)
in_method names l m line b words h o p =
    let said = read_item names line b (is_some words.0) words.1 in
    code_good (with_said l said) m (code_line line words said) (said_good l said h) o
    (in_item said (read_by names line b (is_some words.0) words.1 p))

-- ---- all lines

line_by : (names : Names) (line : ℕ) (text : List ℕ) (l : Listing) (o : Option MethodLines) → GoodListing l → OpenOption o
    → GoodListing (option_map_or
    (λ m. method_of_line names (record l { unended = None }) m line (is_plain text) (labelled (words_of text))) o
    (outside_line l line (plain_outside line (is_plain text) (words_of text))))
line_by names line text l None h o = outside_said l line (plain_outside line (is_plain text) (words_of text)) h
    (plain_by line (words_of text) (is_plain text) (λ p. words_plain text p))
line_by names line text l (Some m) h o =
    in_method names (record l { unended = None }) m line (is_plain text) (labelled (words_of text))
    (record { constants = h.constants; fields = h.fields; methods = h.methods; attributes = h.attributes; unended = tt }) o
    (λ p. labelled_plain (words_of text) (words_plain text p))

skipped_by : (l k : Listing) (b : Bool) → GoodListing l → GoodListing k → GoodListing (cond b l k)
skipped_by l k true h g = h
skipped_by l k false h g = g

lines_good : (names : Names) (line : ℕ) (texts : List (List ℕ)) (l : Listing) → GoodListing l → GoodListing (with_lines names line texts l)
lines_good names line [] l h = h
lines_good names line (text ∷ texts) l h =
    lines_good names (line + 1) texts (with_line names line text l)
    (skipped_by l (option_map_or
    (λ m. method_of_line names (record l { unended = None }) m line (is_plain text) (labelled (words_of text))) l.unended
    (outside_line l line (plain_outside line (is_plain text) (words_of text))))
    (is_plain text && is_skipped (words_of text)) h (line_by names line text l l.unended h h.unended))

-- ---- the listing

-- A method that isn't ended is a fault.
abbrev Faultless : Listing → Type 0
Faultless l = l.first.fault ≡ None → GoodListing l

still_faulty : (o : Option AsmFault) (fault : AsmFault) → with_fault o fault ≡ None → ⊥
still_faulty None fault h = cc
still_faulty (Some first) fault h = faulty_by (is_before fault first) h
  where
    faulty_by : (b : Bool) → cond b (Some fault) (Some first) ≡ None → ⊥
    faulty_by true k = cc
    faulty_by false k = cc

ended_good : (l : Listing) (last : ℕ) (o : Option MethodLines) → GoodListing l → Faultless (option_map_or (λ m. with_unended l m last) o l)
ended_good l last None h = λ _. h
ended_good l last (Some m) h = λ k. absurd (still_faulty l.first.fault (NoEnd last) k)

class_good : (line : ℕ) (words : Words) → ArePlain words → Holds PlainClass (class_said line words)
unfolding class_said
class_good line [] h = tt
class_good line (word ∷ words) h = either PlainClass (bytes_eq word (codes "class")) _ _ (class_plain line words h.1) tt

abbrev GoodFirst : ℕ × ClassLine → Type 0
GoodFirst x = PlainClass x.1

first_by : (line : ℕ) (text : List ℕ) (rest : Said (ℕ × ClassLine)) (a b : Bool) → is_plain text ≡ a → Holds GoodFirst rest
    → Holds GoodFirst (cond (not a) (Err (Syntax line)) (cond b rest (class_said line (words_of text) >>= λ class. Ok (line, class))))
first_by line text rest false b e h = tt
first_by line text rest true true e h = h
first_by line text rest true false e h = onward PlainClass GoodFirst (class_said line (words_of text)) (λ class. Ok (line, class))
    (class_good line (words_of text) (words_plain text e)) (λ class c. c)

first_good : (line : ℕ) (texts : List (List ℕ)) → Holds GoodFirst (first_line line texts)
first_good line [] = tt
first_good line (text ∷ texts) = first_by line text (first_line (line + 1) texts) (is_plain text) (is_skipped (words_of text)) refl
    (first_good (line + 1) texts)

abbrev pub GoodLines : ℕ × ClassLine × Listing → Type 0
GoodLines x = PlainClass x.1 × (x.2.first.fault ≡ None → GoodListing x.2)

pub listing_good : (text : List ℕ) → Holds GoodLines (listing_of text)
unfolding listing_of
listing_good text =
    let lines = lines_of text in
    onward GoodFirst GoodLines (first_line 1 lines)
    (λ begin. Ok (begin.0, begin.1, ended (with_lines all_names (begin.0 + 1) (drop begin.0 lines) no_lines) (length lines)))
    (first_good 1 lines) (λ begin b.
    let l = with_lines all_names (begin.0 + 1) (drop begin.0 lines) no_lines in (
      b,
      ended_good l (length lines) l.unended
          (lines_good all_names (begin.0 + 1) (drop begin.0 lines) no_lines
          (record { constants = tt; fields = tt; methods = tt; attributes = tt; unended = tt })),
    ))
