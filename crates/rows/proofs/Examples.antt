-- Worked examples: which entries stay, how leaves are sewn, and what refusals report.
use Rattle.std.proofs.Common.{◌≡◌, ℕ, [], ◌∷◌, refl}
use Rattle.std.specs.Prelude.{Some, Err}
use Rattle.rules.specs.Rows.{all_pages}
use Rattle.rules.specs.Choice.{part_of, sides_for, NotInDocument, NoEntries}
use Rattle.rows.specs.declared.choices.Part.TheVariants as part
use Rattle.rows.specs.declared.sewing.Signing.TheVariants as sewn
use Rattle.rows.specs.declared.error.RowError.TheVariants as error
use Rattle.rows.specs.Choices.{part_named}
use Rattle.rows.specs.Sewing.{signing_of}
use Rattle.rows.specs.Refusals.{RefusesRow}

-- of five pages the first, the third and the fifth
odd_entries : part_of (part_named part.Odd) (all_pages 5) ≡ Some 0 ∷ Some 2 ∷ Some 4 ∷ []
odd_entries = refl

-- 68 pages in automatic signatures, three of six leaves each
by_themselves : sides_for (signing_of sewn.Auto) 68 ≡ 24
by_themselves = refl

-- a range that the document lacks is reported by the byte at which it begins
told_at_its_byte : (at told : ℕ) → RefusesRow (Err (NotInDocument at)) (error.NotInDocument told) → at ≡ told
told_at_its_byte at told is = cc is

-- a row without entries isn't reported as too many entries
none_is_not_too_many : (told : ℕ) → RefusesRow (Err NoEntries) (error.TooManyEntries told) → ⊥
none_is_not_too_many told is = cc is
