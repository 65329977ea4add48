-- The words of types: a class by its name, an array type by its descriptor (JVM specification, SE 8, sections 4.2.1 and
-- 4.3.2), over the names of the world's classes in the order of their numbers. And the words of shapes, and kinds.
use Rattle.std.specs.Prelude.{ℕ, ◌==◌, nat_abs, pos, if◌then◌else◌, List, Option, Some, None, option_and_then, option_map, codes}
use Rattle.std.specs.Prelude.{Result, Ok, Err}
use Rattle.std.specs.List.{position_from}
use Rattle.std.specs.Str.{bytes_eq}
use Rattle.json_view.specs.Located.{Located}
use Rattle.json_view.specs.Reading.{text_of}
use Rattle.class_base.specs.ClassNames.{is_class_name}
use Rattle.class_base.specs.Types.{field_type}
use Rattle.class_base.specs.declared.types.FieldType.{FieldType}
use Rattle.class_base.specs.declared.types.Element.{Element}
use Rattle.class_base.specs.declared.types.Element.TheVariants.{Primitive, Object}
use Rattle.jvm_values.specs.Kinds.{kind_of_code, kind_of_letter}
use Rattle.jvm_values.specs.Subtyping.{class_type}
use Rattle.jvm_values.specs.declared.types.Base.{Base}
use Rattle.jvm_values.specs.declared.types.Base.TheVariants as bases
use Rattle.jvm_values.specs.declared.types.Kind.{Kind}
use Rattle.jvm_values.specs.declared.types.Ty.{Ty}
use Rattle.jvm_values.specs.declared.shape.Shape.{Shape}
use Rattle.jvm_values.specs.declared.shape.Shape.TheVariants.{Tree, Dag, Any}
use Rattle.cert_form.specs.declared.fault.CertFault.{CertFault}
use Rattle.cert_form.specs.Answers.{Reader, json, wrong_kind, out_of_range}
use Rattle.cert_form.specs.Fields.{◌>>=◌, word_or, number_to}

-- the number of the class of this name
abbrev pub class_named : List (List ℕ) → List ℕ → Option ℕ
class_named names name = position_from (bytes_eq name) 0 names

-- the element of an array type: a kind of numbers by its letter, or a class by its name
abbrev pub base_of : List (List ℕ) → Element → Option Base
base_of names (Primitive letter) = option_map (λ kind. bases.Num kind) (kind_of_letter letter)
base_of names (Object name) = option_map (λ class. bases.Class class) (class_named names name)

-- an array type of the world; a type without dimensions is none
unfoldable pub array_type : List (List ℕ) → FieldType → Option Ty
array_type names t = if t.dims == 0 then None else option_map (λ base. record { dims = t.dims; base = base }) (base_of names t.element)

-- the reference type that a word stands for: a class by its name, or an array type by its descriptor
unfoldable pub type_of_word : List (List ℕ) → List ℕ → Option Ty
type_of_word names word =
    if is_class_name word then option_map class_type (class_named names word)
    else option_and_then (array_type names) (field_type word)

-- a reference type over the names of the world's classes; a word that names none is of the wrong kind
unfoldable pub type_in : List (List ℕ) → Reader Ty
type_in names here = json (text_of here) >>= λ word. word_or here (type_of_word names word)

-- the shape of a word: `tree`, `dag` or `any`; another word is of the wrong kind
abbrev pub shape_named : Located → List ℕ → Result Shape CertFault
shape_named here word =
    if bytes_eq word (codes "tree") then Ok Tree
    else if bytes_eq word (codes "dag") then Ok Dag
    else if bytes_eq word (codes "any") then Ok Any
    else wrong_kind here

-- a shape by its word
unfoldable pub shape_of : Reader Shape
shape_of here = json (text_of here) >>= shape_named here

-- a kind of numbers, out of range where there is none
abbrev pub kind_or : Located → Option Kind → Result Kind CertFault
kind_or here (Some kind) = Ok kind
kind_or here None = out_of_range here

-- a kind of numbers by its number in `newarray` (JVM specification, 6.5.newarray); every other number is out of range
unfoldable pub kind_of : Reader Kind
kind_of here = number_to 255 here >>= λ n. kind_or here (kind_of_code n)
