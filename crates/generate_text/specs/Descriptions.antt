-- What is described of the inputs of the method.
use Rattle.std.specs.Prelude.{ℕ, List, ◌++◌, codes}

-- the description of the method's inputs: the object is null or the first of a tree, and the int is any one (docs/DESCRIPTIONS.md)
abbrev pub description : List ℕ
description =
    codes "{\"form\":1,\"class\":\"G\",\"method\":\"g\",\"desc\":\"(LG;I)V\",\"params\":"
    ++ codes "[{\"type\":\"G\",\"null\":true,\"shape\":\"tree\"},{\"lo\":-2147483648,\"hi\":2147483647}],\"same\":[],\"share\":[]}"
