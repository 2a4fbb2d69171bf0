-- Pages that a paper cuts. All here is this project's own rules.
use Rattle.std.specs.Prelude.{ℕ, ◌+◌, Bool, not, ◌&&◌, if◌then◌else◌, List, [], ◌∷◌, length, map, fold, Option, Some, None}
use Rattle.rules.specs.Papers.{Paper}
use Rattle.papers.specs.Own.{smallest_cover, covers, counts_as_one}
use Rattle.papers.specs.declared.cuts.Cut.{Cut}

-- a paper cuts a page of its own paper if it doesn't cover it, and the two don't count as one (RULES, 17)
abbrev pub is_cut : (paper own : Paper) → Bool
is_cut paper own = not (covers paper own) && not (counts_as_one paper own)

-- the pages that it cuts, of those from this number on
abbrev pub cuts_from : Paper → (first : ℕ) → (own : List Paper) → List (ℕ × Paper)
cuts_from paper n [] = []
cuts_from paper n (p ∷ ps) = if is_cut paper p then (n, p) ∷ cuts_from paper (n + 1) ps else cuts_from paper (n + 1) ps

-- one page alone
abbrev pub one_page : (page : ℕ) → Paper → Cut
one_page n p = record { first = n; last = n; pages = 1; paper = p }

-- pages, and after them one more
abbrev pub with_cut_page : Option Cut → (page : ℕ) → Paper → Cut
with_cut_page None n p = one_page n p
with_cut_page (Some c) n p = record { first = c.first; last = n; pages = c.pages + 1; paper = smallest_cover c.paper p }

-- the last of some pages
abbrev pub last_cut : ℕ × Paper → List (ℕ × Paper) → ℕ × Paper
last_cut page [] = page
last_cut page (next ∷ more) = last_cut next more

-- the first and the last of some pages, how many they are, and the least paper that covers all of theirs
abbrev pub cut_summary : List (ℕ × Paper) → Option Cut
cut_summary [] = None
cut_summary (page ∷ more) = Some (record {
  first = page.0;
  last = (last_cut page more).0;
  pages = length more + 1;
  paper = fold smallest_cover page.1 (map (λ p. p.1) more);
})

-- which pages a paper cuts, if pages have these papers of their own
abbrev pub cut_of : Paper → (own : List Paper) → Option Cut
cut_of paper own = cut_summary (cuts_from paper 0 own)
