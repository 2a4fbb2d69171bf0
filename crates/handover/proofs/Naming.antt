-- A row names the pages of which it was made.
use Rattle.std.proofs.Common.{◌≡◌, ℕ, List, [], ◌∷◌, ◌++◌, refl, ap, ◌∙◌}
use Rattle.handover.specs.Naming.{one_more, joined_pages, onto_first, pages_in, RowsNamePages}

first_named : (page ns : List ℕ) → pages_in (one_more page ++ 0 ∷ ns) ≡ page ∷ pages_in ns
first_named [] ns = refl
first_named (b ∷ bs) ns = ap (onto_first b) (first_named bs ns)

pub rows_name_pages : RowsNamePages
rows_name_pages [] = refl
rows_name_pages (page ∷ pages) = first_named page (joined_pages pages) ∙ ap (λ l. page ∷ l) (rows_name_pages pages)
