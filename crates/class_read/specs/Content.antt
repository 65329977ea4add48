-- What a class file says (JVM specification, section 4.1): the names and descriptors themselves, in place of the indexes
-- by which the file names them.
use Rattle.std.specs.Prelude.{ℕ, List, Option}
pub use Rattle.class_base.specs.declared.handler.Handler.{Handler}
use Rattle.class_pool.specs.declared.entry.PoolEntry.{PoolEntry}

-- what a class file says of a field (JVM specification, section 4.5): its access flags, its name and its descriptor
pub record FieldContent : Type 0 where
  pub flags : ℕ
  pub name : List ℕ
  pub desc : List ℕ

-- what a Code attribute says (JVM specification, section 4.7.3): how many words the operand stack and the locals may take, the
-- bytes of the instructions, and the exception table
pub record CodeContent : Type 0 where
  pub max_stack : ℕ
  pub max_locals : ℕ
  pub code : List ℕ
  pub table : List Handler

-- what a class file says of a method (JVM specification, section 4.6): its access flags, its name, its descriptor, and its
-- code, which abstract and native methods don't have
pub record MethodContent : Type 0 where
  pub flags : ℕ
  pub name : List ℕ
  pub desc : List ℕ
  pub code : Option CodeContent

-- What a class file says (JVM specification, section 4.1): its major version, its access flags, the names of the class, of its
-- super class and of the interfaces that it names, its fields and methods in order, and its constant pool.
pub record ClassContent : Type 0 where
  pub major : ℕ
  pub flags : ℕ
  pub name : List ℕ
  pub super_name : List ℕ
  pub interfaces : List (List ℕ)
  pub fields : List FieldContent
  pub methods : List MethodContent
  pub pool : List PoolEntry
