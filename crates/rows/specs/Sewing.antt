-- How a booklet is sewn, in terms of the code, and what is read from it.
use Rattle.std.specs.Prelude.{⊤, ◌≡◌, ◌*◌, ◌/◌, length, map, flat_map, Some}
use Rattle.std.specs.List.{range_with_len}
use Rattle.rules.specs.Sheets.{blocks}
use Rattle.rules.specs.Signatures.{AreSides, entry_of}
use Rattle.rules.specs.Rows.{Row}
use Rattle.rules.specs.Choice.{Signing, InOne, OfSides, Auto, sides_for, signed_if}
use Rattle.rules.specs.Leaves.{faces, read_signature}
use Rattle.rows.specs.declared.sewing.Signing as code
use Rattle.rows.specs.declared.sewing.Signing.TheVariants as sewn

abbrev pub signing_of : code.Signing → Signing
signing_of sewn.InOne = InOne
signing_of (sewn.OfSides sides) = OfSides sides
signing_of sewn.Auto = Auto

-- a number of sides, if one is named, is one that a signature may have
abbrev pub MayBeSewn : code.Signing → Type 0
MayBeSewn (sewn.OfSides sides) = AreSides sides
MayBeSewn how = ⊤

-- if a signed row is laid on leaves, folded and read signature by signature, it is read in its order. The blanks
-- that fill up the last signature follow it (RULES, 11.3)
abbrev pub SignedIsRead : Type 0
SignedIsRead = (how : Signing) (row : Row) → AreSides (sides_for how (length row)) →
    (let sides = sides_for how (length row) in
    let signatures = blocks sides (length row) in
    flat_map (read_signature (sides / 4) (faces (signed_if (Some how) row))) (range_with_len 0 signatures)
    ≡ map (entry_of row) (range_with_len 0 (signatures * sides)))
