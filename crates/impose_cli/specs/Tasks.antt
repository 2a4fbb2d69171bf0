-- What is taken of a document: the paper of its pages, their number, and its text.
use Rattle.std.specs.Prelude.{◌≡◌, ℕ, Bool, if◌then◌else◌, List, length, Option, Some, None, Ok}
use Rattle.rules.specs.Papers.{Paper}
use Rattle.rules.specs.Parts.{NestedUnit, pages}
use Rattle.rules.specs.Run.{document_of}
use Rattle.guard.specs.Guard.{guarded}
use Rattle.papers.specs.Media.{document_paper}
use Rattle.papers.specs.declared.media.Comment.{Comment}
use Rattle.impose_messages.specs.declared.finished.PaperOrigin.{PaperOrigin}
use Rattle.impose_messages.specs.declared.finished.PaperOrigin.TheVariants.{Named, ByComment, ByDefault}

-- the paper of the pages: the one that is named, else the document's own, else the one at home
abbrev pub own_or_home : (home : Paper) → Option (Paper × Comment) → Paper × PaperOrigin
own_or_home home None = (home, ByDefault)
own_or_home home (Some own) = (own.0, ByComment own.1)

-- RULES, 12.2
abbrev pub page_paper_found : (named : Option Paper) → (home : Paper) → (input : List ℕ) → Paper × PaperOrigin
page_paper_found (Some page_paper) home input = (page_paper, Named)
page_paper_found None home input = own_or_home home (document_paper home input)

-- the document, with the guard in it if it is asked for (RULES, 15)
abbrev pub taken_text : (is_guarded : Bool) → (sheet_paper : Paper) → List ℕ → List ℕ
taken_text is_guarded sheet_paper input = if is_guarded then guarded (Some sheet_paper) input else input

-- the document is accepted and has so many pages
abbrev pub HasPageCount : (input : List ℕ) → ℕ → Type 0
HasPageCount input n = (us : List NestedUnit) × (document_of input ≡ Ok us) × (n ≡ length (pages us))
