-- A number of a switch's operand lies in one of its parts, which leads where the switch does.
use Rattle.std.proofs.Common.{◌≡◌, ◌∙◌, ◌⊎◌, inl, inr, ℕ, zero, suc, ℤ, pos, negsuc, ◌+ℤ◌, ◌-ℤ◌, ◌≤ℤ◌, ◌<ℤ◌, Bool, true, false}
use Rattle.std.proofs.Common.{if◌then◌else◌, ◌||◌, List, [], ◌∷◌, Option, slice_get, refl, sym, ap, subst, arith}
use Rattle.std.specs.Prelude.{unwrap_or, int_le}
use Rattle.std.specs.List.{list_any}
use Rattle.std.specs.Option.{IsSomeAnd}
use Rattle.std.specs.Ordering.{int_eq}
use Rattle.std.proofs.lemmas.Bool.{false≢true}
use Rattle.std.proofs.lemmas.Bool.Decides.{Decides-int_eq}
use Rattle.std.proofs.lemmas.Int.{ints}
use Rattle.list_views.proofs.Orders.{int_eq_true}
use Rattle.lin_core.specs.Intervals.{Bounds, IsIn}
use Rattle.jvm_run.specs.CodeFormsCase.{Case}
use Rattle.abs_ints.specs.IntIntervals.{all_ints, just}
use Rattle.abs_ints.proofs.Covering.{in_interval}
use Rattle.jvm_run.specs.jvm_step.Effects.{target_at, target_of}
use Rattle.abs_expand.specs.Switches.{table_keys, lookup_keys, parts_from, parts_of}
use Rattle.form_steps.proofs.SomeOf.{SomeOf}

-- where a switch of keys leads
abbrev pub key_target : ℕ → List (ℤ × ℕ) → ℤ → ℕ
key_target default [] n = default
key_target default (key ∷ keys) n = if int_eq key.0 n then key.1 else key_target default keys n

abbrev is_key : ℤ → List (ℤ × ℕ) → Bool
is_key n keys = list_any (λ (key : ℤ × ℕ). int_eq key.0 n) keys

-- a part has a number, and leads to a place
pub record Leads (n : ℤ) (to : ℕ) (part : Option Bounds × ℕ) : Type 0 where
  pub inside : IsSomeAnd part.0 (λ b. IsIn n b)
  pub leads : part.1 ≡ to

is_apart : (a b : ℤ) → int_eq a b ≡ false → a ≡ b → ⊥
is_apart a b e f = false≢true (sym e ∙ (Decides-int_eq a b).1 f)

by_key : (default : ℕ) (keys : List (ℤ × ℕ)) (low n : ℤ) → is_key n keys ≡ true
    → SomeOf (Leads n (key_target default keys n)) (parts_from low default keys)
by_key default [] low n e = absurd (false≢true e)
by_key default (key ∷ keys) low n e = at (int_eq key.0 n) refl e (λ g. by_key default keys (key.0 +ℤ pos 1) n g)
  where
    at : (b : Bool) → int_eq key.0 n ≡ b → (b || is_key n keys) ≡ true
        → (is_key n keys ≡ true → SomeOf (Leads n (key_target default keys n)) (parts_from (key.0 +ℤ pos 1) default keys))
        → SomeOf (Leads n (if b then key.1 else key_target default keys n)) (parts_from low default (key ∷ keys))
    at true f g rest = inr
        (inl (record {
          inside = subst (λ (x : ℤ). IsIn x (just key.0)) (int_eq_true key.0 n f)
              (omega (arith, ints), omega (arith, ints));
          leads = refl;
        }))
    at false f g rest = inr (inr (rest g))

order : (a b : ℤ) → (a ≡ b → ⊥) → (a <ℤ b) ⊎ (b <ℤ a)
order a b n = at (int_le b a) refl
  where
    at : (t : Bool) → int_le b a ≡ t → (a <ℤ b) ⊎ (b <ℤ a)
    at true e = inr (omega (arith, ints, e, n))
    at false e = inl (omega (arith, ints, e))

-- a number that is no key leads to the default
none_key : (default : ℕ) (keys : List (ℤ × ℕ)) (n : ℤ) → is_key n keys ≡ false → key_target default keys n ≡ default
none_key default [] n e = refl
none_key default (key ∷ keys) n e = at (int_eq key.0 n) e (λ f. none_key default keys n f)
  where
    at : (b : Bool) → (b || is_key n keys) ≡ false → (is_key n keys ≡ false → key_target default keys n ≡ default)
        → (if b then key.1 else key_target default keys n) ≡ default
    at true f rest = absurd (false≢true (sym f))
    at false f rest = rest f

by_gap : (default : ℕ) (keys : List (ℤ × ℕ)) (low n : ℤ) → is_key n keys ≡ false → low ≤ℤ n → n ≤ℤ all_ints.hi
    → SomeOf (Leads n (key_target default keys n)) (parts_from low default keys)
by_gap default [] low n e l h = inl (record { inside = in_interval n low all_ints.hi l h; leads = refl })
by_gap default (key ∷ keys) low n e l h = at (int_eq key.0 n) refl e (λ g i. by_gap default keys (key.0 +ℤ pos 1) n g i h)
  where
    at : (b : Bool) → int_eq key.0 n ≡ b → (b || is_key n keys) ≡ false
        → (is_key n keys ≡ false → (key.0 +ℤ pos 1) ≤ℤ n
        → SomeOf (Leads n (key_target default keys n)) (parts_from (key.0 +ℤ pos 1) default keys))
        → SomeOf (Leads n (if b then key.1 else key_target default keys n)) (parts_from low default (key ∷ keys))
    at true f g rest = absurd (false≢true (sym g))
    at false f g rest = elim (order n key.0 (λ (i : n ≡ key.0). is_apart key.0 n f (sym i))) [
      | inl i ↦ inl (record {
        inside = in_interval n low (key.0 -ℤ pos 1) l (omega (arith, ints, i));
        leads = sym
            (none_key default keys n g);
      })
      | inr i ↦ inr (inr (rest g (omega (arith, ints, i))))
    ]

pub parts_cover : (default : ℕ) (keys : List (ℤ × ℕ)) (n : ℤ) → IsIn n all_ints
    → SomeOf (Leads n (key_target default keys n)) (parts_of default keys)
parts_cover default keys n i = at (is_key n keys) refl
  where
    at : (b : Bool) → is_key n keys ≡ b → SomeOf (Leads n (key_target default keys n)) (parts_of default keys)
    at true e = by_key default keys all_ints.lo n e
    at false e = by_gap default keys all_ints.lo n e i.0 i.1

-- ---- keys of the two switches

pub lookup_target : (default : ℕ) (cases : List Case) (n : ℤ) → key_target default (lookup_keys cases) n ≡ target_of default cases n
lookup_target default [] n = refl
lookup_target default (c ∷ cases) n = ap (λ (to : ℕ). if int_eq c.key n then c.target else to) (lookup_target default cases n)

next_target : (default to : ℕ) (targets : List ℕ) (z w : ℤ) → w +ℤ pos 1 ≡ z → (z ≡ pos 0 → ⊥)
    → target_at default targets w ≡ target_at default (to ∷ targets) z
next_target default to targets (pos zero) w e n = absurd (n refl)
next_target default to targets (pos (suc i)) (pos j) e n =
    let same : j ≡ i = omega (arith, ints, e) in ap (λ (k : ℕ). unwrap_or (slice_get targets k) default) same
next_target default to targets (pos (suc i)) (negsuc j) e n = absurd (omega (arith, ints, e))
next_target default to targets (negsuc i) (pos j) e n = absurd (omega (arith, ints, e))
next_target default to targets (negsuc i) (negsuc j) e n = refl

pub table_target : (default : ℕ) (low : ℤ) (targets : List ℕ) (n : ℤ) → key_target default (table_keys low targets) n ≡ target_at
    default targets (n -ℤ low)
table_target default low [] n = none (n -ℤ low)
  where
    none : (z : ℤ) → default ≡ target_at default [] z
    none (pos i) = refl
    none (negsuc i) = refl
table_target default low (to ∷ targets) n = at (int_eq low n) refl (table_target default (low +ℤ pos 1) targets n)
  where
    at : (b : Bool) → int_eq low n ≡ b → key_target default (table_keys (low +ℤ pos 1) targets) n ≡ target_at default targets
        (n -ℤ (low +ℤ pos 1)) → (if b then to else key_target default (table_keys (low +ℤ pos 1) targets) n) ≡ target_at default
        (to ∷ targets) (n -ℤ low)
    at true e rest =
        let zero_ : pos 0 ≡ n -ℤ low = omega (arith, ints, int_eq_true low n e) in
        ap (target_at default (to ∷ targets)) zero_
    at false e rest = rest ∙ next_target default to targets (n -ℤ low) (n -ℤ (low +ℤ pos 1)) (omega (arith, ints))
        (λ (z : n -ℤ low ≡ pos 0). is_apart low n e (omega (arith, ints, z)))
