-- Texts that leave their page number out, and a canonical text that is one byte longer.
use Rattle.std.proofs.Common.{◌≡◌, inl, inr, ◌+◌, [], ◌∷◌, length, refl, Bool, true, false}
use Rattle.std.specs.Prelude.{codes}
use Rattle.std.specs.Fmt.{digits}
use Rattle.std.proofs.lemmas.List.Elements.{All-nil, All-cons}
use Rattle.rules.specs.Specification.{Quarters, Left, WrittenItem, settled, canonical}
use Rattle.rules.proofs.Digits.{IsDigit}
use Rattle.pagespec.specs.Canonical.{LeavesPageOut}
use Rattle.pagespec.proofs.Canonical.{turn_written}

abbrev left : Bool → WrittenItem
left from_end = record { from_end = from_end; page = 0; modifiers = Quarters 1 ∷ [] }

alone_left_out : LeavesPageOut (codes "L")
alone_left_out = (left false, inl (codes "L", refl, refl, λ e. cc (e), turn_written Left))

behind_modulo : LeavesPageOut (codes "1:-L")
behind_modulo = (
  left true,
  inr (codes "1", codes "-L", 1, refl, (All-cons IsDigit 49 [] refl (All-nil IsDigit), λ e. cc (e), refl), (codes "L", refl, refl, λ e. cc (e), turn_written Left)),
)

-- `L` has the canonical text `0L`
one_byte_more : length (canonical (settled (record { modulo = 1; groups = (left false ∷ []) ∷ [] }))) ≡ length (codes "L") + 1
unfolding digits
one_byte_more = refl
