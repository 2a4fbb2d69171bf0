-- Whether two transformations are the same: the same matrices concatenated, with the same numbers. With operands
-- other than numbers there is no answer.
use Rattle.std.specs.Prelude.{List, [], ◌∷◌, Bool, true, false, ◌&&◌, bytes_eq}
use Rattle.pictures.specs.Objects.{Token, Number, Object, Plain, Array, Call}

abbrev pub are_same_numbers : List Token → List Token → Bool
are_same_numbers [] [] = true
are_same_numbers (Number a ∷ ts) (Number b ∷ us) = bytes_eq a b && are_same_numbers ts us
are_same_numbers ts us = false

abbrev pub are_same_operands : List Object → List Object → Bool
are_same_operands [] [] = true
are_same_operands (Plain (Number a) ∷ os) (Plain (Number b) ∷ ps) = bytes_eq a b && are_same_operands os ps
are_same_operands (Array ts ∷ os) (Array us ∷ ps) = are_same_numbers ts us && are_same_operands os ps
are_same_operands os ps = false

abbrev pub is_same_chain : List Call → List Call → Bool
is_same_chain [] [] = true
is_same_chain (c ∷ cs) (d ∷ ds) =
    bytes_eq c.name d.name && are_same_operands c.operands d.operands && is_same_chain cs ds
is_same_chain cs ds = false
