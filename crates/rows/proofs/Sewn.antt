-- A signed row is read in order.
use Rattle.std.proofs.Common.{◌≡◌, ◌*◌, ◌/◌, ℕ, subst, arith, length, map}
use Rattle.std.specs.Prelude.{flat_map}
use Rattle.std.specs.List.{range_with_len}
use Rattle.std.proofs.lemmas.Nat.{div-add-mod'}
use Rattle.rules.specs.Sheets.{blocks}
use Rattle.rules.specs.Signatures.{entry_of}
use Rattle.rules.specs.Rows.{Row, in_signatures}
use Rattle.rules.specs.Choice.{sides_for}
use Rattle.rules.specs.Leaves.{faces, read_signature}
use Rattle.rules.proofs.Folded.{row_is_read}
use Rattle.rows.specs.Sewing.{SignedIsRead}

abbrev IsReadBy : Row → (sides leaves : ℕ) → Type 0
IsReadBy row sides leaves =
    flat_map (read_signature leaves (faces (in_signatures sides row))) (range_with_len 0 (blocks sides (length row)))
    ≡ map (entry_of row) (range_with_len 0 (blocks sides (length row) * sides))

pub signed_is_read : SignedIsRead
signed_is_read how row are =
    let s = sides_for how (length row) in
    let whole : s / 4 * 4 ≡ s = let d = div-add-mod' s 4 in omega (arith, d, are.1) in
    subst (λ n. IsReadBy row n (s / 4)) whole (row_is_read (s / 4) row)
