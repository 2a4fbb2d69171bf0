-- The pages of a document as one row of numbers, by which a shelf's tag names the document of the shelf.
use Rattle.std.specs.Prelude.{◌≡◌, ℕ, zero, suc, List, [], ◌∷◌, ◌++◌}

-- each byte plus one, so that none is 0
abbrev pub one_more : List ℕ → List ℕ
one_more [] = []
one_more (b ∷ bs) = suc b ∷ one_more bs

-- the pages one after the other, with a 0 at the end of each
abbrev pub joined_pages : List (List ℕ) → List ℕ
joined_pages [] = []
joined_pages (page ∷ pages) = one_more page ++ 0 ∷ joined_pages pages

-- a byte put before the first page
abbrev pub onto_first : ℕ → List (List ℕ) → List (List ℕ)
onto_first b [] = (b ∷ []) ∷ []
onto_first b (page ∷ pages) = (b ∷ page) ∷ pages

-- the pages that such a row names
abbrev pub pages_in : List ℕ → List (List ℕ)
pages_in [] = []
pages_in (zero ∷ ns) = [] ∷ pages_in ns
pages_in (suc b ∷ ns) = onto_first b (pages_in ns)

-- a law: a row names the pages of which it was made, so it is no other document's
abbrev pub RowsNamePages : Type 0
RowsNamePages = (pages : List (List ℕ)) → pages_in (joined_pages pages) ≡ pages
