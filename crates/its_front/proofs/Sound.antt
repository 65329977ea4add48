-- What is read is a system of rules, line by line.
use Rattle.std.proofs.Common.{◌≡◌, ◌∙◌, ◌⊎◌, inl, inr, ◌+◌, ◌≤◌, ◌<◌, ◌==◌, ◌&&◌, ◌||◌, not, ◌++◌, ℕ, zero, suc, Bool, true, false}
use Rattle.std.proofs.Common.{cond, List, [], ◌∷◌, length, length-append, drop, get_or, Option, Some, None, is_some, Result, Ok}
use Rattle.std.proofs.Common.{Err, refl, sym, ap, subst, arith}
use Rattle.std.specs.Prelude.{nat_le, nat_lt, codes, IsErrAnd}
use Rattle.std.specs.List.{All, list_any, list_all, position_or_len}
use Rattle.std.specs.Str.{bytes_eq}
use Rattle.std.proofs.lemmas.Bool.{false≢true, and_parts, leb-true, ltb-true, ltb-false}
use Rattle.std.proofs.lemmas.List.Elements.{All-nil, All-push}
use Rattle.std.proofs.lemmas.List.{at_drop_more}
use Rattle.lin_core.specs.declared.rows.RowKind.{RowKind}
use Rattle.lin_core.specs.declared.rows.WRow.{WRow}
use Rattle.lin_core.specs.Weights.{AreRows, IsRow}
use Rattle.descent.specs.declared.rules.PathRule.{PathRule}
use Rattle.list_views.specs.Results.{◌>>=◌, wanted, required}
use Rattle.list_views.specs.Results.{IsDue}
use Rattle.list_views.proofs.Steps.{bind_ok, ok_is, handed_on}
use Rattle.its_front.specs.text_lines.LinesAndWords.{lines_of, words_of}
use Rattle.its_front.specs.declared.fault.ItsFault.{ItsFault}
use Rattle.its_front.specs.declared.reading.Its.{Its}
use Rattle.its_front.specs.declared.reading.OpenRule.{OpenRule}
use Rattle.its_front.specs.declared.reading.Reading.{Reading}
use Rattle.its_front.specs.Faults.{Said, is_memory, Gives}
use Rattle.its_front.specs.Names.{Names, added, with_name, number_of}
use Rattle.its_front.specs.Words.{Words, are_names, row_words, two_names}
use Rattle.its_front.specs.Rows.{row_of}
use Rattle.its_front.specs.Reading.{most_variables, most_rules, most_rows, rule_of, unread, is_begun, is_whole, vars_line}
use Rattle.its_front.specs.Reading.{open_rule, opened, rule_line, with_row, longer, said_row, row_in, row_line, closed, end_line}
use Rattle.its_front.specs.Reading.{skipped_line, is_skipped, said_line, with_line, with_lines, system_of, lines_said, rules_of}
use Rattle.its_front.specs.Systems.{IsWeightless, IsSystemRule, IsBetween, IsSystem}
use Rattle.its_front.proofs.Placing.{never_past}
use Rattle.its_front.proofs.SaidRows.{wanted_is, required_is, IsSaidRow, said_row_is}

-- ---- names

any_within : (test : List ℕ → Bool) (names : Names) → list_any test names ≡ true → position_or_len test names < length names
any_within test [] e = absurd (false≢true e)
any_within test (name ∷ rest) e = by (test name) e (any_within test rest)
  where
    by : (b : Bool) → (b || list_any test rest) ≡ true → (list_any test rest ≡ true → position_or_len test rest < length rest)
        → cond (not b) (1 + position_or_len test rest) 0 < suc (length rest)
    by true f later = omega arith
    by false f later = let l = later f in omega (arith, l)

number_within : (names : Names) (name : List ℕ) → number_of names name < length (with_name names name)
number_within names name = by (list_any (bytes_eq name) names) refl
  where
    by : (b : Bool) → list_any (bytes_eq name) names ≡ b → number_of names name < length (cond b names (names ++ name ∷ []))
    by true e = any_within (bytes_eq name) names e
    by false e =
        let past = never_past (bytes_eq name) names in
        let long : length (names ++ name ∷ []) ≡ length names + 1 = length-append names (name ∷ []) in
        omega (arith, past, long)

names_grow : (names : Names) (name : List ℕ) → length names ≤ length (with_name names name)
names_grow names name = by (list_any (bytes_eq name) names)
  where
    by : (b : Bool) → length names ≤ length (cond b names (names ++ name ∷ []))
    by true = omega arith
    by false = let long : length (names ++ name ∷ []) ≡ length names + 1 = length-append names (name ∷ []) in omega (arith, long)

-- ---- what is read so far

pub record IsOpen (reading : Reading) (unended : OpenRule) : Type 0 where
  pub from : unended.from < length reading.places
  pub to : unended.to < length reading.places
  pub rows : AreRows (length reading.vars + length reading.vars) unended.rows
  pub weightless : All IsWeightless unended.rows
  pub few : length unended.rows ≤ reading.rows
  pub fewer : length reading.rules < most_rules

pub record IsRead (reading : Reading) : Type 0 where
  pub small : length reading.vars ≤ most_variables
  pub few : length reading.rules ≤ most_rules
  pub rows : reading.rows ≤ most_rows
  pub each : All (IsSystemRule (length reading.vars)) reading.rules
  pub ends : All (IsBetween (length reading.places)) reading.rules
  pub unended : (unended : OpenRule) → reading.unended ≡ Some unended → IsOpen reading unended
  -- before the variables are named there are no rules
  pub bare : length reading.vars ≡ 0 → (reading.rules ≡ []) × (reading.unended ≡ None)

pub unread_is : IsRead unread
unread_is = record {
  small = omega arith;
  few = omega arith;
  rows = omega arith;
  each = All-nil (IsSystemRule 0);
  ends = All-nil (IsBetween 0);
  unended = λ unended e. absurd (none_open unended e);
  bare = λ e. (refl, refl);
}
  where
    none_open : (unended : OpenRule) → ◌≡◌ {A = Option OpenRule} None (Some unended) → ⊥
    none_open unended e = absurd cc

-- ---- `vars`

not_begun : (count : ℕ) (b : Bool) → (not (nat_lt 0 count) && b) ≡ true → count ≡ 0
not_begun count b e = by (nat_lt 0 count) refl (and_parts (not (nat_lt 0 count)) b e).0
  where
    by : (t : Bool) → nat_lt 0 count ≡ t → not t ≡ true → count ≡ 0
    by true f g = absurd (false≢true g)
    by false f g = let most = ltb-false 0 count f in omega (arith, most)

vars_read : (reading : Reading) (line : ℕ) (words : Words) (next : Reading) → IsRead reading
    → vars_line reading line words ≡ Ok next → IsRead next
unfolding vars_line
vars_read reading line words next read e =
    let first = bind_ok (required _ (not (is_begun reading) && are_names words)) _ next e in
    let second = bind_ok (wanted _ (added reading.vars words)) _ next first.2 in
    let third = bind_ok (required _ (nat_le (length second.0) most_variables)) _ next second.2 in
    let none = not_begun (length reading.vars) (are_names words)
    (required_is _ (not (is_begun reading) && are_names words) first.0 first.1) in
    let bare = read.bare none in
    let few : length second.0 ≤ most_variables = leb-true (length second.0) most_variables
    (required_is _ (nat_le (length second.0) most_variables) third.0 third.1) in
    subst IsRead (ok_is (record reading { vars = second.0 }) next third.2) (record {
      small = few;
      few = read.few;
      rows = read.rows;
      each = subst (All (IsSystemRule (length second.0))) (sym bare.0) (All-nil (IsSystemRule (length second.0)));
      ends = read.ends;
      unended = λ unended f. absurd (none_open unended (sym bare.1 ∙ f));
      bare = λ f. bare;
    })
  where
    none_open : (unended : OpenRule) → ◌≡◌ {A = Option OpenRule} None (Some unended) → ⊥
    none_open unended e = absurd cc

-- ---- `rule`

whole_is : (reading : Reading) (b : Bool) → (is_whole reading && b) ≡ true → 0 < length reading.vars
whole_is reading b e =
    let begun = (and_parts (is_begun reading) (not (is_some reading.unended)) (and_parts (is_whole reading) b e).0).0 in
    ltb-true 0 (length reading.vars) begun

wider : (a b : ℕ) → a ≤ b → (rules : List PathRule) → All (IsBetween a) rules → All (IsBetween b) rules
wider a b l rules are = λ i d w. let is = are i d w in record
    { from = let f = is.from in omega (arith, f, l); to = let t = is.to in omega (arith, t, l) }

opened_is : (reading : Reading) (ends : List ℕ × List ℕ) → IsRead reading → 0 < length reading.vars
    → length reading.rules < most_rules → IsRead (opened reading ends)
opened_is reading ends read begun fewer =
    let one = with_name reading.places ends.0 in
    let grown : length reading.places ≤ length one = names_grow reading.places ends.0 in
    let grown_more : length one ≤ length (with_name one ends.1) = names_grow one ends.1 in
    let from_in = number_within reading.places ends.0 in
    let to_in = number_within one ends.1 in
    record {
      small = read.small;
      few = read.few;
      rows = read.rows;
      each = read.each;
      ends = wider (length reading.places) (length (with_name one ends.1)) (omega (arith, grown, grown_more)) reading.rules read.ends;
      unended = λ unended e. subst (IsOpen (opened reading ends)) (same (open_rule reading.places ends.0 ends.1) unended e) (record {
        from = omega (arith, from_in, grown_more);
        to = to_in;
        rows = All-nil (IsRow (length reading.vars + length reading.vars));
        weightless = All-nil IsWeightless;
        few = omega arith;
        fewer = fewer;
      });
      bare = λ e. absurd (omega (arith, e, begun));
    }
  where
    same : (a b : OpenRule) → ◌≡◌ {A = Option OpenRule} (Some a) (Some b) → a ≡ b
    same a b e = cc

rule_read : (reading : Reading) (is_last : Bool) (line : ℕ) (words : Words) (next : Reading) → IsRead reading
    → rule_line reading is_last line words ≡ Ok next → IsRead next
unfolding rule_line
rule_read reading is_last line words next read e =
    let first = bind_ok (required _ (is_whole reading && not is_last)) _ next e in
    let second = bind_ok (wanted _ (two_names words)) _ next first.2 in
    let third = bind_ok (required _ (nat_lt (length reading.rules) most_rules)) _ next second.2 in
    let begun = whole_is reading (not is_last) (required_is _ (is_whole reading && not is_last) first.0 first.1) in
    let fewer = ltb-true (length reading.rules) most_rules (required_is _ (nat_lt (length reading.rules) most_rules) third.0 third.1) in
    subst IsRead (ok_is (opened reading second.0) next third.2) (opened_is reading second.0 read begun fewer)

-- ---- rows

longer_is : (reading : Reading) (unended : OpenRule) (row : WRow) → IsRead reading → reading.unended ≡ Some unended
    → IsSaidRow (length reading.vars + length reading.vars) row → reading.rows < most_rows → IsRead (longer reading unended row)
longer_is reading unended row read at said less_rows =
    let is = read.unended unended at in
    record {
      small = read.small;
      few = read.few;
      rows = omega (arith, less_rows);
      each = read.each;
      ends = read.ends;
      unended = λ other e. subst (IsOpen (longer reading unended row)) (same (with_row unended row) other e) (record {
        from = is.from;
        to = is.to;
        rows = All-push (IsRow (length reading.vars + length reading.vars)) unended.rows row is.rows said.is_row;
        weightless = All-push IsWeightless unended.rows row is.weightless said.weightless;
        few = let few = is.few in let long : length (unended.rows ++ row ∷ []) ≡ length unended.rows + 1 = length-append
            unended.rows (row ∷ []) in omega (arith, few, long);
        fewer = is.fewer;
      });
      bare = λ e. absurd (none_open unended (sym (read.bare e).1 ∙ at));
    }
  where
    same : (a b : OpenRule) → ◌≡◌ {A = Option OpenRule} (Some a) (Some b) → a ≡ b
    same a b e = cc

    none_open : (unended : OpenRule) → ◌≡◌ {A = Option OpenRule} None (Some unended) → ⊥
    none_open unended e = absurd cc

row_read : (reading : Reading) (is_last : Bool) (line : ℕ) (kind : RowKind) (words : Words) (next : Reading) → IsRead reading
    → row_line reading is_last line kind words ≡ Ok next → IsRead next
unfolding row_line row_in said_row
row_read reading is_last line kind words next read e =
    let first = bind_ok (wanted _ reading.unended) _ next e in
    let second = bind_ok (required _ (not is_last)) _ next first.2 in
    let third = bind_ok (said_row reading.vars line kind words) _ next second.2 in
    let fourth = bind_ok (required _ (nat_lt reading.rows most_rows)) _ next third.2 in
    let said = bind_ok (wanted _ (row_words words)) _ third.0 third.1 in
    let fewer = ltb-true reading.rows most_rows (required_is _ (nat_lt reading.rows most_rows) fourth.0 fourth.1) in
    subst IsRead (ok_is (longer reading first.0 third.0) next fourth.2)
    (longer_is reading first.0 third.0 read (wanted_is _ reading.unended first.0 first.1)
    (said_row_is reading.vars line kind said.0 third.0 said.2) fewer)

-- ---- `end`

closed_is : (reading : Reading) (unended : OpenRule) → IsRead reading → reading.unended ≡ Some unended → IsRead (closed reading unended)
closed_is reading unended read at =
    let is = read.unended unended at in
    let rule = rule_of (length reading.vars) unended in
    record {
      small = read.small;
      few = let fewer = is.fewer in let long : length (reading.rules ++ rule ∷ []) ≡ length reading.rules + 1 = length-append
          reading.rules (rule ∷ []) in omega (arith, fewer, long);
      rows = read.rows;
      each = All-push (IsSystemRule (length reading.vars)) reading.rules rule read.each (record {
        vars = refl;
        rows = is.rows;
        few = let few = is.few in let all = read.rows in omega (arith, few, all);
        weightless = is.weightless;
        first = refl;
        last = refl;
      });
      ends = All-push (IsBetween (length reading.places)) reading.rules rule read.ends (record { from = is.from; to = is.to });
      unended = λ other e. absurd (none_open other e);
      bare = λ e. absurd (none_open unended (sym (read.bare e).1 ∙ at));
    }
  where
    none_open : (unended : OpenRule) → ◌≡◌ {A = Option OpenRule} None (Some unended) → ⊥
    none_open unended e = absurd cc

end_read : (reading : Reading) (line : ℕ) (words : Words) (next : Reading) → IsRead reading → end_line reading line words ≡ Ok next
    → IsRead next
unfolding end_line
end_read reading line words next read e =
    let first = bind_ok (wanted _ reading.unended) _ next e in
    let second = bind_ok (required _ (length words == 0)) _ next first.2 in
    subst IsRead (ok_is (closed reading first.0) next second.2)
    (closed_is reading first.0 read (wanted_is _ reading.unended first.0 first.1))

-- ---- lines

skipped_read : (reading : Reading) (is_last : Bool) (line : ℕ) (next : Reading) → IsRead reading
    → skipped_line reading is_last line ≡ Ok next → IsRead next
skipped_read reading is_last line next read e =
    let first = bind_ok (required _ (not is_last || is_whole reading)) _ next e in
    subst IsRead (ok_is reading next first.2) read

said_read : (reading : Reading) (is_last : Bool) (line : ℕ) (words : Words) (next : Reading) → IsRead reading
    → said_line reading is_last line words ≡ Ok next → IsRead next
unfolding said_line
said_read reading is_last line [] next read e = absurd cc
said_read reading is_last line (word ∷ words) next read e =
    by (bytes_eq word (codes "vars")) (bytes_eq word (codes "rule")) (bytes_eq word (codes "geq")) (bytes_eq word (codes "eq"))
    (bytes_eq word (codes "end")) e
  where
    none : Said Reading
    none = Err (ItsFault.Syntax line)

    by : (a b c d f : Bool)
        → cond a (vars_line reading line words)
        (cond b (rule_line reading is_last line words)
        (cond c (row_line reading is_last line RowKind.AtLeastZero words)
        (cond d (row_line reading is_last line RowKind.IsZero words)
        (cond f (end_line reading line words) (Err (ItsFault.Syntax line)))))) ≡ Ok next → IsRead next
    by true b c d f g = vars_read reading line words next read g
    by false true c d f g = rule_read reading is_last line words next read g
    by false false true d f g = row_read reading is_last line RowKind.AtLeastZero words next read g
    by false false false true f g = row_read reading is_last line RowKind.IsZero words next read g
    by false false false false true g = end_read reading line words next read g
    by false false false false false g = absurd cc

pub line_read : (reading : Reading) (is_last : Bool) (line : ℕ) (text : List ℕ) (next : Reading) → IsRead reading
    → with_line reading is_last line text ≡ Ok next → IsRead next
line_read reading is_last line text next read e = by (is_skipped text (words_of text)) e
  where
    by : (b : Bool) → cond b (skipped_line reading is_last line) (said_line reading is_last line (words_of text)) ≡ Ok next → IsRead next
    by true f = skipped_read reading is_last line next read f
    by false f = said_read reading is_last line (words_of text) next read f

lines_read : (count line : ℕ) (reading : Reading) (texts : List (List ℕ)) (next : Reading) → IsRead reading
    → with_lines count line reading texts ≡ Ok next → IsRead next
lines_read count line reading [] next read e = subst IsRead (ok_is reading next e) read
lines_read count line reading (text ∷ rest) next read e =
    let first = bind_ok (with_line reading (line == count) line text) (λ (after : Reading). with_lines count (line + 1) after rest)
    next e in
    lines_read count (line + 1) first.0 rest next (line_read reading (line == count) line text first.0 read first.1) first.2

-- one line of a loop over them
pub goes_on : (count line i : ℕ) (reading next : Reading) (texts : List (List ℕ)) (text : List ℕ) → i < length texts
    → text ≡ get_or texts i text → with_line reading (line == count) line text ≡ Ok next
    → with_lines count line reading (drop i texts) ≡ with_lines count (line + 1) next (drop (i + 1) texts)
goes_on count line i reading next texts text l is e =
    at_drop_more (with_lines count line reading) texts i text l
    ∙ ap (λ (t : List ℕ). with_line reading (line == count) line t >>= λ after. with_lines count (line + 1) after
    (drop (i + 1) texts)) (sym is)
    ∙ ap (λ (r : Said Reading). r >>= λ after. with_lines count (line + 1) after (drop (i + 1) texts)) e

pub stops : (count line i : ℕ) (reading : Reading) (texts : List (List ℕ)) (text : List ℕ) (fault : ItsFault) → i < length texts
    → text ≡ get_or texts i text → with_line reading (line == count) line text ≡ Err fault
    → with_lines count line reading (drop i texts) ≡ Err fault
stops count line i reading texts text fault l is e =
    at_drop_more (with_lines count line reading) texts i text l
    ∙ ap (λ (t : List ℕ). with_line reading (line == count) line t >>= λ after. with_lines count (line + 1) after
    (drop (i + 1) texts)) (sym is)
    ∙ ap (λ (r : Said Reading). r >>= λ after. with_lines count (line + 1) after (drop (i + 1) texts)) e

pub stops_so : (count line i : ℕ) (reading : Reading) (texts : List (List ℕ)) (text : List ℕ) (fault : ItsFault)
    (whole : Said Reading) → i < length texts → text ≡ get_or texts i text → with_lines count line reading (drop i texts) ≡ whole
    → IsDue is_memory fault (with_line reading (line == count) line text) → IsDue is_memory fault whole
stops_so count line i reading texts text fault whole l is e due = handed_on is_memory fault
    (with_line reading (line == count) line text) whole (λ f. sym e ∙ stops count line i reading texts text fault l is f) due

pub given_on : (result : Result Reading ItsFault) (fault : ItsFault) (whole : Said Reading) → IsErrAnd result (λ e. e ≡ fault)
    → IsDue is_memory fault whole → Gives (λ x. x) result whole
given_on (Ok value) fault whole h due = absurd h
given_on (Err e) fault whole h due = subst (λ (f : ItsFault). IsDue is_memory f whole) (sym h) due

-- ---- systems

system_is : (reading : Reading) → IsRead reading → IsSystem (system_of reading)
system_is reading read = record { small = read.small; few = read.few; each = read.each; ends = read.ends }

pub systems : (text : List ℕ) (its : Its) → rules_of text ≡ Ok its → IsSystem its
systems text its e =
    let first = bind_ok (required _ (not (length (lines_of text) == 0))) _ its e in
    let second = bind_ok (with_lines (length (lines_of text)) 1 unread (lines_of text)) _ its first.2 in
    subst IsSystem (ok_is (system_of second.0) its second.2)
    (system_is second.0 (lines_read (length (lines_of text)) 1 unread (lines_of text) second.0 unread_is second.1))
