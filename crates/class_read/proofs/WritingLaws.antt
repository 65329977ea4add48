-- A class that keeps the rules has a text.
use Rattle.std.proofs.Common.{◌≡◌, ℕ, List, [], ◌∷◌, ◌++◌, Result, ap, subst, ◌∙◌, arith}
use Rattle.std.specs.Prelude.{OnOk}
use Rattle.class_read.specs.Content.{Handler}
use Rattle.class_read.specs.Text.{code_text}
use Rattle.std.specs.List.{AllByRecursion}
use Rattle.class_pool.specs.declared.entry.PoolEntry.{PoolEntry}
use Rattle.class_pool.proofs.PoolLaws.{texts_from_pool}
use Rattle.class_read.specs.declared.text.AttrText.{AttrText}
use Rattle.class_read.specs.declared.text.AttrText.TheVariants.{Skipped, Code}
use Rattle.class_read.specs.declared.text.MemberText.{MemberText}
use Rattle.class_read.specs.declared.text.ClassText.{ClassText}
use Rattle.class_read.specs.Rules.{IsAttribute, IsMethodAttribute, IsOtherAttribute, IsField, IsMethod, WellFormed}
use Rattle.class_read.specs.Writing.{HasAttributeText, HasAttrText, HasMemberText, HasClassText}

sizes : (pool : List PoolEntry) (xs : List (ℕ × List ℕ)) → AllByRecursion (IsAttribute pool) xs → AllByRecursion HasAttributeText xs
sizes pool [] h = tt
sizes pool (x ∷ xs) h = (h.0.fits, sizes pool xs h.1)

method_texts : (pool : List PoolEntry) (xs : List AttrText) → AllByRecursion (IsMethodAttribute pool) xs → AllByRecursion HasAttrText xs
method_texts pool [] h = tt
method_texts pool (Skipped name content ∷ xs) h = (h.0.0.fits, method_texts pool xs h.1)
method_texts pool (Code name max_stack max_locals code table attributes ∷ xs) h = (
  (omega (arith, h.0.most), h.0.table_fits, h.0.attributes_fit, sizes pool attributes h.0.skipped, h.0.content_fits),
  method_texts pool xs h.1,
)

other_texts : (pool : List PoolEntry) (xs : List AttrText) → AllByRecursion (IsOtherAttribute pool) xs → AllByRecursion HasAttrText xs
other_texts pool [] h = tt
other_texts pool (Skipped name content ∷ xs) h = (h.0.fits, other_texts pool xs h.1)
other_texts pool (Code name max_stack max_locals code table attributes ∷ xs) h = absurd h.0

field_texts : (pool : List PoolEntry) (ms : List MemberText) → AllByRecursion (IsField pool) ms → AllByRecursion HasMemberText ms
field_texts pool [] h = tt
field_texts pool (m ∷ ms) h = (
  record { count = h.0.member.attributes_fit; each = other_texts pool m.attributes h.0.attributes },
  field_texts pool ms h.1,
)

all_method_texts : (pool : List PoolEntry) (ms : List MemberText) → AllByRecursion (IsMethod pool) ms → AllByRecursion HasMemberText ms
all_method_texts pool [] h = tt
all_method_texts pool (m ∷ ms) h =
    (record { count = h.0.member.attributes_fit; each = method_texts pool m.attributes h.0.attributes }, all_method_texts pool ms h.1)

pub has_text : (c : ClassText) → WellFormed c → HasClassText c
has_text c w = record {
  pool = record { each = texts_from_pool c.pool w.pool.fit; count = w.pool.count };
  interfaces = w.interfaces_fit;
  fields = w.fields_fit;
  each_field = field_texts c.pool c.fields w.fields;
  methods = w.methods_fit;
  each_method = all_method_texts c.pool c.methods w.methods;
  attributes = w.attributes_fit;
  each_attribute = other_texts c.pool c.attributes w.attributes;
}

pub written_as : {E : Type 0} (r : Result (Unit {0}) E) (new old a b : List ℕ) → a ≡ b → OnOk r (new ≡ old ++ a) → OnOk r (new ≡ old ++ b)
written_as r new old a b same h = subst (λ (x : List ℕ). OnOk r (new ≡ old ++ x)) same h

pub code_texts : (max_stack max_locals : ℕ) {code code2 : List ℕ} {table table2 : List Handler}
    {attributes attributes2 : List (ℕ × List ℕ)} → code ≡ code2 → table ≡ table2 → attributes ≡ attributes2
    → code_text max_stack max_locals code table attributes ≡ code_text max_stack max_locals code2 table2 attributes2
code_texts max_stack max_locals {code2 = code2} {table = table} {table2 = table2} {attributes = attributes} c t a =
    ap (λ (x : List ℕ). code_text max_stack max_locals x table attributes) c
    ∙ ap (λ (x : List Handler). code_text max_stack max_locals code2 x attributes) t
    ∙ ap (λ (x : List (ℕ × List ℕ)). code_text max_stack max_locals code2 table2 x) a
