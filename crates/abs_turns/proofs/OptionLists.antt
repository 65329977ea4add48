-- What holds of the items of lists that are made of options.
use Rattle.std.proofs.Common.{◌≡◌, List, [], ◌∷◌, map, Option, Some, None, refl}
use Rattle.std.specs.List.{AllByRecursion, filter_map, cons_option}
use Rattle.std.specs.Option.{option_to_list}
use Rattle.std.specs.Prelude.{Result, Ok, Err, IfOk}

put_one : {Y : Type 0} (P : Y → Type 0) (o : Option Y) (rest : List Y) → ((y : Y) → o ≡ Some y → P y) → AllByRecursion P rest
    → AllByRecursion P (cons_option o rest)
put_one P None rest h r = r
put_one P (Some y) rest h r = (h y refl, r)

pub filtered : {X Y : Type 0} (Q : X → Type 0) (P : Y → Type 0) (f : X → Option Y) (xs : List X)
    → ((x : X) → Q x → (y : Y) → f x ≡ Some y → P y) → AllByRecursion Q xs → AllByRecursion P (filter_map f xs)
filtered Q P f [] h all = tt
filtered Q P f (x ∷ xs) h all = put_one P (f x) (filter_map f xs) (h x all.0) (filtered Q P f xs h all.1)

pub each_any : {X Y : Type 0} (P : Y → Type 0) (f : X → Y) (xs : List X) → ((x : X) → P (f x)) → AllByRecursion P (map f xs)
each_any P f [] h = tt
each_any P f (x ∷ xs) h = (h x, each_any P f xs h)

pub if_there : {Y : Type 0} (P : Y → Type 0) (o : Option Y) → ((y : Y) → o ≡ Some y → P y) → AllByRecursion P (option_to_list o)
if_there P None h = tt
if_there P (Some y) h = (h y refl, tt)

-- what a call gives is more than it says
pub if_ok : {A E : Type 0} (P Q : A → Type 0) (result : Result A E) → ((a : A) → P a → Q a) → IfOk result P → IfOk result Q
if_ok P Q (Ok a) f p = f a p
if_ok P Q (Err e) f p = tt
