-- Refusals and faults.
use Rattle.std.proofs.Common.{◌≡◌, ◌⊎◌, ℕ, List, [], Some, Result, Ok, Err, refl, ap, sym, ◌∙◌, inl, inr, subst}
use Rattle.std.specs.Prelude.{slice_get}
use Rattle.std.specs.Option.{option_map_or}
use Rattle.class_world.specs.class_pool.declared.entry.PoolEntry.{PoolEntry}
use Rattle.class_world.specs.class_read.Content.{ClassContent}
use Rattle.class_world.specs.declared.fault.LinkFault.{LinkFault}
use Rattle.class_world.specs.declared.fault.MethodName.{MethodName}
use Rattle.class_program.specs.declared.refusal.Refusal.{Refusal}
use Rattle.class_program.specs.declared.refusal.Refusal.TheVariants.{MissingClass, StaticInit, UnsupportedType, Unresolved}
use Rattle.class_program.specs.declared.refusal.Refusal.TheVariants.{PrivateVirtual, Memory}
use Rattle.class_world.specs.code_forms.declared.insn.Insn.{Insn}
use Rattle.class_program.specs.declared.op.Op.{Op}
use Rattle.class_world.specs.World.{World}
use Rattle.class_program.specs.Operands.{operand_of}
use Rattle.class_program.specs.Ops.{alike_with, op_of, pool_of}
use Rattle.list_views.specs.Results.{IsDue}
use Rattle.list_views.proofs.Steps.{is_due}
use Rattle.class_program.specs.Refusals.{Gives, is_memory, fault_at, with_fault, first_refusal, together}
use Rattle.class_program.specs.Said.{is_memory as is_fault_of_memory}

-- a refusal's fault is what is said, unless memory ran out
pub fault_said : {A : Type 0} (name : MethodName) (pc : ℕ) (refusal : Refusal) (said : Result A Refusal) (fault : LinkFault)
    → IsDue is_memory refusal said → fault ≡ fault_at name pc refusal → IsDue is_fault_of_memory fault (with_fault name pc said)
fault_said name pc refusal said fault due e = subst (λ (f : LinkFault). IsDue is_fault_of_memory f (with_fault name pc said))
    (sym e) (by refusal due)
  where
    by : (r : Refusal) → IsDue is_memory r said → IsDue is_fault_of_memory (fault_at name pc r) (with_fault name pc said)
    by Memory f = tt
    by (MissingClass class) f = ap (with_fault name pc) f
    by (StaticInit class) f = ap (with_fault name pc) f
    by UnsupportedType f = ap (with_fault name pc) f
    by Unresolved f = ap (with_fault name pc) f
    by PrivateVirtual f = ap (with_fault name pc) f

-- a refusal that isn't want of memory is what is said
said_so : {A : Type 0} (refusal : Refusal) (said : Result A Refusal) → IsDue is_memory refusal said
    → (refusal ≡ Memory) ⊎ (said ≡ Err refusal)
said_so Memory said f = inl refl
said_so (MissingClass name) said f = inr f
said_so (StaticInit name) said f = inr f
said_so UnsupportedType said f = inr f
said_so Unresolved said f = inr f
said_so PrivateVirtual said f = inr f

-- of two refusals the first is want of memory where one is
memory_left : (b : Refusal) → first_refusal Memory b ≡ Memory
memory_left Memory = refl
memory_left (MissingClass name) = refl
memory_left (StaticInit name) = refl
memory_left UnsupportedType = refl
memory_left Unresolved = refl
memory_left PrivateVirtual = refl

memory_right : (a : Refusal) → first_refusal a Memory ≡ Memory
memory_right Memory = refl
memory_right (MissingClass name) = refl
memory_right (StaticInit name) = refl
memory_right UnsupportedType = refl
memory_right Unresolved = refl
memory_right PrivateVirtual = refl

-- both answers are what is said of both
pub together_gives : {A B : Type 0} (a sa : Result A Refusal) (b sb : Result B Refusal)
    → Gives (λ x. x) a sa → Gives (λ x. x) b sb → Gives (λ x. x) (together a b) (together sa sb)
together_gives (Ok x) sa (Ok y) sb f g = ap (λ s. together s sb) f ∙ ap (together (Ok x)) g
together_gives (Ok x) sa (Err r) sb f g = go (said_so r sb g)
  where
    go : (r ≡ Memory) ⊎ (sb ≡ Err r) → IsDue is_memory r (together sa sb)
    go (inl m) = subst (λ (z : Refusal). IsDue is_memory z (together sa sb)) (sym m) tt
    go (inr e) = is_due is_memory r (together sa sb) (ap (λ s. together s sb) f ∙ ap (together (Ok x)) e)
together_gives (Err r) sa (Ok y) sb f g = go (said_so r sa f)
  where
    go : (r ≡ Memory) ⊎ (sa ≡ Err r) → IsDue is_memory r (together sa sb)
    go (inl m) = subst (λ (z : Refusal). IsDue is_memory z (together sa sb)) (sym m) tt
    go (inr e) = is_due is_memory r (together sa sb) (ap (λ s. together s sb) e ∙ ap (together (Err r)) g)
together_gives (Err r) sa (Err q) sb f g = go (said_so r sa f) (said_so q sb g)
  where
    go : (r ≡ Memory) ⊎ (sa ≡ Err r) → (q ≡ Memory) ⊎ (sb ≡ Err q) → IsDue is_memory (first_refusal r q) (together sa sb)
    go (inl m) _ = subst (λ (z : Refusal). IsDue is_memory z (together sa sb)) (sym (ap (λ z. first_refusal z q) m ∙ memory_left q)) tt
    go (inr e) (inl m) = subst (λ (z : Refusal). IsDue is_memory z (together sa sb)) (sym (ap (first_refusal r) m ∙ memory_right r)) tt
    go (inr e) (inr h) = is_due is_memory (first_refusal r q) (together sa sb) (ap (λ s. together s sb) e ∙ ap (together (Err r)) h)

-- the pool of a class
pub pool_at : (world : World) (class : ℕ) (c : ClassContent) (pool : List PoolEntry) → slice_get world class ≡ Some c
    → pool ≡ c.pool → pool_of world class ≡ pool
pool_at world class c pool e p = ap (λ o. option_map_or (λ x. x.pool) o []) e ∙ sym p

-- the instruction that was resolved with the pool of its class
pub op_said : (world : World) (class : ℕ) (name : MethodName) (pc : ℕ) (insn : Insn) (pool : List PoolEntry) (op : Op)
    → pool_of world class ≡ pool → alike_with world class pool insn (operand_of insn) ≡ Ok op → op_of world class name pc insn ≡ Ok op
unfolding op_of
op_said world class name pc insn pool op p e = ap (λ q. with_fault name pc (alike_with world class q insn (operand_of insn))) p
    ∙ ap (with_fault name pc) e

pub op_refused : (world : World) (class : ℕ) (name : MethodName) (pc : ℕ) (insn : Insn) (pool : List PoolEntry) (refusal : Refusal)
    (fault : LinkFault)
    → pool_of world class ≡ pool → IsDue is_memory refusal (alike_with world class pool insn (operand_of insn))
    → fault ≡ fault_at name pc refusal
    → IsDue is_fault_of_memory fault (op_of world class name pc insn)
unfolding op_of
op_refused world class name pc insn pool refusal fault p f e =
    subst (λ (q : List PoolEntry). IsDue is_fault_of_memory fault
    (with_fault name pc (alike_with world class q insn (operand_of insn)))) (sym p)
    (fault_said name pc refusal (alike_with world class pool insn (operand_of insn)) fault f e)
