-- What the laws of pages say.
use Rattle.std.specs.Prelude.{◌≡◌, ℕ, List, map, All, Ok}
use Rattle.rules.specs.Units.{TextUnit, cut}
use Rattle.rules.specs.Parts.{NestedUnit, nested, split_pages, page_run, bytes_of, pages}
use Rattle.rules.specs.Filters.{prepared}
use Rattle.rules.specs.Output.{body_text}
use Rattle.rules.specs.Run.{document_of}

-- cut as a text of their own, these units stay the same, and so do the depths before them
abbrev pub StandAlone : List NestedUnit → Type 0
StandAlone us = (cut (bytes_of us) ≡ Ok (map (λ u. u.unit) us)) × (nested (map (λ u. u.unit) us) ≡ us)

-- each page of a text that is cut has, cut as a text of its own, the same units
abbrev pub PagesStandAlone : Type 0
PagesStandAlone = (text : List ℕ) (us : List TextUnit) → cut text ≡ Ok us
    → All StandAlone (split_pages (page_run (nested us)))

-- no block of the page is faulty, so the page has a prepared body
abbrev pub HasBody : List ℕ → Type 0
HasBody page = prepared page ≡ Ok (body_text (prepared page))

abbrev pub PagesHaveBodies : Type 0
PagesHaveBodies = (text : List ℕ) (us : List NestedUnit) → document_of text ≡ Ok us → All HasBody (pages us)
