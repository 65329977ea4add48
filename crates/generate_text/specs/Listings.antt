-- The listing of a class whose one method runs through so many loops, one behind the other.
use Rattle.std.specs.Prelude.{ℕ, suc, zero, Bool, true, false, ◌==◌, ◌%◌, List, [], ◌∷◌, ◌++◌, codes, if◌then◌else◌}
use Rattle.std.specs.Fmt.{decimal}
use Rattle.list_views.specs.FaultWords.{joined}

-- a loop that counts local 2 from 0 up to local 1, between the labels h and e with the loop's number behind them
abbrev pub counting : List ℕ → List ℕ
counting k = joined (codes "iconst_0\nistore 2\nh" ∷ k ∷ codes ":\niload 2\niload 1\nif_icmpge e" ∷ k ∷ codes "\niinc 2 1\ngoto h"
    ∷ k ∷ codes "\ne" ∷ k ∷ codes ":\n" ∷ [])

-- a loop that walks with local 3 from the object of local 0 along the field `next`, up to null
abbrev pub walking : List ℕ → List ℕ
walking k = joined (codes "aload 0\nastore 3\nh" ∷ k ∷ codes ":\naload 3\nifnull e" ∷ k ∷ codes
    "\naload 3\ngetfield G next LG;\nastore 3\ngoto h" ∷ k ∷ codes "\ne" ∷ k ∷ codes ":\n" ∷ [])

-- the loop of this number, from 0 on: one that counts where the number is even, one that walks where it is odd
abbrev pub block : ℕ → List ℕ
block k = if k % 2 == 0 then counting (decimal k) else walking (decimal k)

-- the first so many loops, one behind the other
abbrev pub blocks : ℕ → List ℕ
blocks zero = []
blocks (suc k) = blocks k ++ block k

-- the lines before the loops: class `G` with the field `next` of its own type, and the method `g` of an object and an int
abbrev pub head : List ℕ
head = codes "class G\nfield next LG;\nmethod g (LG;I)V static stack 2 locals 4\n"

-- the lines behind the loops
abbrev pub tail : List ℕ
tail = codes "return\nend\n"

-- the listing of the class whose method runs through so many loops
abbrev pub listing_of : ℕ → List ℕ
listing_of n = joined (head ∷ blocks n ∷ tail ∷ [])
