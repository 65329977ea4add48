-- The listed rules of a rank step that holds: their multipliers are readable, and the step's forms are taken at their ends.
use Rattle.std.proofs.Common.{◌≡◌, ◌≤◌, ℕ, suc, Bool, true, false, ℤ, cond, List, [], ◌∷◌, length, Option, Some, None}
use Rattle.std.proofs.Common.{slice_get, nat_lt, refl, sym, ap, subst, arith, pos, ◌∙◌}
use Rattle.std.specs.Prelude.{◌&&◌, ◌^◌, All, unsigned_abs}
use Rattle.std.specs.List.{AllByRecursion}
use Rattle.std.proofs.lemmas.Bool.{and_parts, ltb-false}
use Rattle.std.proofs.lemmas.Option.{none-some, slice_get_within}
use Rattle.list_views.proofs.Items.{length_mapped}
use Rattle.list_views.proofs.Quantified.{all_at}
use Rattle.lin_core.specs.declared.faults.LinFault.{LinFault}
use Rattle.lin_core.specs.declared.faults.LinFault.TheVariants.{BadIndex, NegativeMultiplier, Limit}
use Rattle.lin_core.specs.Combination.{may_multiply, fault_at_row, fault_of_entry, first_of_two, first_fault_from, first_fault}
use Rattle.lin_core.specs.Rows.{Row}
use Rattle.lin_core.specs.Weights.{row_under, rows_under}
use Rattle.descent.specs.declared.faults.DescentFault.{DescentFault}
use Rattle.descent.specs.declared.faults.DescentFault.TheVariants.{NotWeak, NotStrict, NotBounded, NotCovered, Lin}
use Rattle.descent.specs.declared.proof.RankRule.{RankRule}
use Rattle.descent.specs.declared.proof.RankRule.TheVariants.{Weak, Strict}
use Rattle.descent.specs.declared.rules.PathRule.{PathRule}
use Rattle.descent.specs.Rankings.{Ranking, weigh_of, weak_fault, strict_fault, bounded_fault, need_fault, shows_target, fall_of}
use Rattle.descent.specs.Rankings.{start_of, takes_start, takes_end}
use Rattle.descent.specs.Steps.{rule_of, listed_fault, ranking_fault}
use Rattle.chain_proofs.proofs.Renumbered.{edge_none, one_listed}
use Rattle.cert_form.specs.cert_write.Readable.{IsMultiplier}

-- ---- multipliers that are not refused

two_none : (a b : Option LinFault) → first_of_two a b ≡ None → (a ≡ None) × (b ≡ None)
two_none None b e = (refl, e)
two_none (Some fault) b e = absurd (none-some fault (sym e))

at_row : (rows : List Row) (n id : ℕ) (by : ℤ) (found : Option Row) → slice_get rows id ≡ found → length rows ≤ 65536
    → fault_at_row n by found ≡ None → (id ≤ 4294967295) × (unsigned_abs by ≤ 2147483648)
at_row rows n id by None at few e = absurd (none-some (BadIndex n) (sym e))
at_row rows n id by (Some row) at few e = go (nat_lt (2 ^ 31) (unsigned_abs by)) refl e
  where
    go : (b : Bool) → nat_lt (2 ^ 31) (unsigned_abs by) ≡ b
        → cond b (Some (Limit n)) (cond (may_multiply by row.kind) None (Some (NegativeMultiplier n))) ≡ None
        → (id ≤ 4294967295) × (unsigned_abs by ≤ 2147483648)
    go true f g = absurd (none-some (Limit n) (sym g))
    go false f g =
        let within = slice_get_within rows id row at in
        let small = ltb-false 2147483648 (unsigned_abs by) f in
        (omega (arith, within, few), omega (arith, small))

many_fit : (rows : List Row) (n : ℕ) (entries : List (ℕ × ℤ)) → length rows ≤ 65536 → first_fault_from rows n entries ≡ None
    → AllByRecursion IsMultiplier entries
many_fit rows n [] few e = tt
many_fit rows n (entry ∷ rest) few e =
    let both = two_none (fault_of_entry rows n entry) (first_fault_from rows (suc n) rest) e in
    (at_row rows n entry.0 entry.1 (slice_get rows entry.0) refl few both.0, many_fit rows (suc n) rest few both.1)

need_none : (missing : DescentFault) (shown : Bool) (lin : Option LinFault) → need_fault missing shown lin ≡ None → lin ≡ None
need_none missing shown None e = refl
need_none missing shown (Some fault) e = absurd (none-some (Lin fault) (sym e))

test_none : (test : Bool) (fault : DescentFault) (rest : Option DescentFault) → cond test rest (Some fault) ≡ None
    → (test ≡ true) × (rest ≡ None)
test_none true fault rest e = (refl, e)
test_none false fault rest e = absurd (none-some fault (sym e))

-- ---- one rule

abbrev AreSmall : List (ℕ × ℤ) → Type 0
AreSmall = AllByRecursion IsMultiplier

abbrev pub HasSmall : RankRule → Type 0
HasSmall (Weak rule fall) = AllByRecursion IsMultiplier fall
HasSmall (Strict rule fall bound) = AllByRecursion IsMultiplier fall × AllByRecursion IsMultiplier bound

-- both ends take the form, and the multipliers are readable
pub record IsFitting (ranking : Ranking) (one : RankRule) (rule : PathRule) : Type 0 where
  pub start : takes_start ranking rule ≡ true
  pub end : takes_end ranking rule ≡ true
  pub small : HasSmall one

module _ (ranking : Ranking) where
  small : (rule : PathRule) (multipliers : List (ℕ × ℤ)) → length rule.rows ≤ 65536
      → first_fault (rows_under (weigh_of ranking) rule.rows) multipliers ≡ None → AllByRecursion IsMultiplier multipliers
  small rule multipliers few e = many_fit (rows_under (weigh_of ranking) rule.rows) 0 multipliers
      (subst (λ (n : ℕ). n ≤ 65536) (sym (length_mapped (row_under (weigh_of ranking)) rule.rows)) few) e

  taken : (rule : PathRule) (test : Bool) (multipliers : List (ℕ × ℤ)) (fault : DescentFault) (shown : Bool) → length rule.rows ≤ 65536
      → cond test (need_fault fault shown (first_fault (rows_under (weigh_of ranking) rule.rows) multipliers)) (Some fault) ≡ None
      → (test ≡ true) × AllByRecursion IsMultiplier multipliers
  taken rule test multipliers fault shown few e =
      let lin = first_fault (rows_under (weigh_of ranking) rule.rows) multipliers in
      let both = test_none test fault (need_fault fault shown lin) e in
      (both.0, small rule multipliers few (need_none fault shown lin both.1))

  fits : (one : RankRule) (rule : PathRule) → length rule.rows ≤ 65536
      → listed_fault (weak_fault ranking) (strict_fault ranking) (bounded_fault ranking) one (Some rule) ≡ None → IsFitting ranking one rule
  fits (Weak n fall) rule few e =
      let t = taken rule (takes_start ranking rule && takes_end ranking rule) fall (NotWeak n)
      (shows_target rule.vars (rows_under (weigh_of ranking) rule.rows) (fall_of ranking (pos 0) rule) fall) few e in
      let ends = and_parts (takes_start ranking rule) (takes_end ranking rule) t.0 in
      record { start = ends.0; end = ends.1; small = t.1 }
  fits (Strict n fall bound) rule few e =
      let both = edge_none (strict_fault ranking n rule fall) (bounded_fault ranking n rule bound) e in
      let t = taken rule (takes_start ranking rule && takes_end ranking rule) fall (NotStrict n)
      (shows_target rule.vars (rows_under (weigh_of ranking) rule.rows) (fall_of ranking (pos 1) rule) fall) few both.0 in
      let u = taken rule (takes_start ranking rule) bound (NotBounded n)
      (shows_target rule.vars (rows_under (weigh_of ranking) rule.rows) (start_of ranking rule) bound) few both.1 in
      let ends = and_parts (takes_start ranking rule) (takes_end ranking rule) t.0 in
      record { start = ends.0; end = ends.1; small = (t.1, u.1) }

  -- ---- all of them

  pub record IsFittingIn (rules : List PathRule) (one : RankRule) : Type 0 where
    pub rule : PathRule
    pub is : slice_get rules (rule_of one) ≡ Some rule
    pub fitting : IsFitting ranking one rule

  module _ (rules : List PathRule) (few : All (λ (rule : PathRule). length rule.rows ≤ 65536) rules) where
    found_fits : (n : ℕ) (one : RankRule) (found : Option PathRule) → slice_get rules n ≡ found → rule_of one ≡ n
        → listed_fault (weak_fault ranking) (strict_fault ranking) (bounded_fault ranking) one found ≡ None → IsFittingIn rules one
    found_fits n (Weak k fall) None at same e = absurd (none-some (NotCovered k) (sym e))
    found_fits n (Strict k fall bound) None at same e = absurd (none-some (NotCovered k) (sym e))
    found_fits n one (Some rule) at same e = record {
      rule = rule;
      is = ap (slice_get rules) same ∙ at;
      fitting = fits one rule (all_at (λ (r : PathRule). length r.rows ≤ 65536) rules n rule few at) e;
    }

    pub all_fit : (set : List ℕ) (listed : List RankRule) → ranking_fault ranking rules set listed ≡ None
        → AllByRecursion (IsFittingIn rules) listed
    all_fit [] [] e = tt
    all_fit [] (one ∷ listed) e = absurd (none-some (NotCovered (rule_of one)) (sym e))
    all_fit (n ∷ set) [] e = absurd (none-some (NotCovered n) (sym e))
    all_fit (n ∷ set) (one ∷ listed) e =
        let parts = one_listed (weak_fault ranking) (strict_fault ranking) (bounded_fault ranking) rules n set one listed e in
        (found_fits n one (slice_get rules n) refl parts.0 parts.1, all_fit set listed parts.2)
