-- Worked examples: the paper of the sheets.
use Rattle.std.proofs.Common.{◌≡◌, [], ◌∷◌, refl, map}
use Rattle.std.specs.Prelude.{None}
use Rattle.rules.specs.Papers.{points}
use Rattle.impose_words.specs.SheetPapers.{held_upright, sheet_paper_for}
use Rattle.impose_words.specs.declared.request.Layout.TheVariants as layout

on_its_side : held_upright (points 842 595) ≡ points 595 842
on_its_side = refl

other_sheets_as_the_pages : map (λ l. sheet_paper_for l None (points 842 595)) (layout.Zine ∷ layout.Selection ∷ []) ≡ points 842 595 ∷ points 842 595 ∷ []
other_sheets_as_the_pages = refl
