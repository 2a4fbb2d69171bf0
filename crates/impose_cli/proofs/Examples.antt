-- What requests stand for, worked out.
use Rattle.std.proofs.Common.{◌≡◌, true, [], ◌∷◌, refl, map}
use Rattle.std.specs.Prelude.{codes, Some}
use Rattle.rules.specs.Papers.{points}
use Rattle.impose_words.specs.declared.request.Layout.TheVariants as layout
use Rattle.rules.specs.Choice.{Odd}
use Rattle.impose_cli.specs.Finished.{chosen_by, paper_for_cells, paper_of_first}
use Rattle.impose_cli.specs.RowTasks.{guarded_in}

-- Papers.

-- the guard sets the page size of a selection's first sheet, and of other sheets their own
guarded_first : guarded_in layout.Selection (points 1 2) (points 3 4) ≡ points 1 2
guarded_first = refl

guarded_sheets : guarded_in layout.Zine (points 1 2) (points 3 4) ≡ points 3 4
guarded_sheets = refl

-- What success means.

-- every second page of 3, 1 and 2, backwards: pages are counted from 0
chosen : chosen_by (record { ranges = Some (codes "3,1-2"); part = Odd; backwards = true }) 3 ≡ Some 1 ∷ Some 2 ∷ []
chosen = refl

-- the document's paper, if a page has one that counts as the same, and else the first page's
for_cells : map (λ document. paper_for_cells layout.Zine document (points 300 400 ∷ points 500 600 ∷ [])) (points 505 600 ∷ points 600 700 ∷ []) ≡ points 505 600 ∷ points 300 400 ∷ []
for_cells = refl

-- the guard sets the paper of a selection's first page
of_first : map (λ l. paper_of_first l (points 3 4 ∷ []) (points 1 2) (Some 0 ∷ [])) (layout.Selection ∷ layout.Zine ∷ []) ≡ points 3 4 ∷ points 1 2 ∷ []
of_first = refl
