-- How the text of a matrix, and the text before a placed page, begin.
use Rattle.std.specs.Prelude.{ℕ, List, ◌++◌, codes}
use Rattle.rules.specs.Bytes.{line}
use Rattle.rules.specs.Numbers.{scale_text}
use Rattle.rules.specs.Papers.{Paper}
use Rattle.rules.specs.Specification.{Item}
use Rattle.rules.specs.Placement.{Matrix, matrix_of, matrix_text}

-- the opening bracket and the first four numbers
abbrev pub scales_text : Matrix → List ℕ
scales_text m = codes "[" ++ scale_text m.a ++ codes " " ++ scale_text m.b ++ codes " " ++ scale_text m.c
    ++ codes " " ++ scale_text m.d

-- the `save`, the `showpage` that does nothing, and the matrix
abbrev pub placing_text : Paper → Item → List ℕ
placing_text paper item =
    line (codes "userdict /ImposeSave save put") ++ line (codes "userdict /showpage {} put")
    ++ line (matrix_text (matrix_of paper item) ++ codes " concat")
