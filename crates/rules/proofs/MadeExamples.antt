-- Outputs and plans of made sheets, computed from the definitions.
use Rattle.std.proofs.Common.{ℕ, List, [], ◌∷◌, ◌++◌, refl, ◌≡◌, ◌+◌, Some, None, Option, false}
use Rattle.std.specs.Prelude.{codes, decimal, replicate, Result, Ok, Err, ℤ, pos, ◌*ℤ◌}
use Rattle.std.specs.Fmt.{digits}
use Rattle.rules.specs.Papers.{Pt, Paper, points}
use Rattle.rules.specs.Specification.{Item, Upright, Left, Turn}
use Rattle.rules.specs.Units.{◌>>=◌}
use Rattle.rules.specs.Run.{document_of, DocumentFault}
use Rattle.rules.specs.Output.{Border, border_within}
use Rattle.rules.specs.Made.{MadeSlot, Blank, Placed, MadeSheet}
use Rattle.rules.specs.Dress.{Dress, undressed}
use Rattle.rules.specs.MadeOutput.{made_output}
use Rattle.rules.specs.MadePlans.{MadeNoSuchPage, MadeSlotsOutOfRange, made_layout, made_plan_of}

abbrev made_in : Option Border → Dress → List MadeSheet → List ℕ → Result (List ℕ) DocumentFault
made_in border dress all text = document_of text >>= λ us. Ok (made_output border dress all us)

-- moved by this many points to the right
abbrev stands : Turn → (x : ℤ) → Item
stands turn x = record { page = 0; from_end = false; turn = turn; scale = pos 1_000_000_000; x = record { number = x *ℤ pos 1_000_000_000; unit = Pt }; y = record { number = pos 0; unit = Pt } }

abbrev on : Paper → List MadeSlot → MadeSheet
on paper slots = record { paper = paper; slots = slots }

-- two pages, each of its own paper, on one sheet: each is clipped by its own paper
two_papers : made_in None undressed (on (points 842 595) (Placed 0 (stands Upright (pos 0)) (points 420 595) ∷ Blank ∷ Placed 1 (stands Left (pos 842)) (points 595 842) ∷ []) ∷ []) (codes "%!PS\n%%Page: 1 1\na\n%%Page: 2 2\nb\n") ≡ Ok (codes "%!PS\n%%Pages: 1\n%%Page: 1 1\nuserdict /ImposeSave save put\nuserdict /showpage {} put\n[1 0 0 1 0 0] concat\nnewpath 0 0 moveto 420 0 lineto 420 595 lineto 0 595 lineto closepath clip newpath\na\nImposeSave restore\nuserdict /ImposeSave save put\nuserdict /showpage {} put\n[0 1 -1 0 842 0] concat\nnewpath 0 0 moveto 595 0 lineto 595 842 lineto 0 842 lineto closepath clip newpath\nb\nImposeSave restore\nshowpage\n")
unfolding digits
two_papers = refl

-- a dress: the sheets' paper in the header, the paper's name at the start of each sheet, and a mark at its end; and a border
-- ten points within the page's edges
abbrev marked : Dress
marked = record {
  header = codes "%%BoundingBox: 0 0 842 595" ∷ codes "%%DocumentMedia: Plain 842 595 0 () ()" ∷ [];
  start = λ s paper. codes "%%PageMedia: Plain" ∷ [];
  finish = λ s paper. (codes "newpath 421 0 moveto 421 " ++ decimal (s + 10) ++ codes " lineto stroke") ∷ [];
}

two_marked_sheets : made_in (border_within (pos 1_270_000_000_000) (Some (pos 127_000_000_000))) marked (on (points 842 595) (Placed 1 (stands Upright (pos 0)) (points 420 595) ∷ []) ∷ on (points 842 595) (Blank ∷ []) ∷ []) (codes "%!PS\n%%BoundingBox: 0 0 420 595\n%%EndComments\n%%Page: 1 1\na\n%%Page: 2 2\nb\n%%EOF\n") ≡ Ok (codes "%!PS\n%%Pages: 2\n%%BoundingBox: 0 0 842 595\n%%DocumentMedia: Plain 842 595 0 () ()\n%%EndComments\n%%Page: 1 1\n%%PageMedia: Plain\nuserdict /ImposeSave save put\nuserdict /showpage {} put\n[1 0 0 1 0 0] concat\nnewpath 0 0 moveto 420 0 lineto 420 595 lineto 0 595 lineto closepath clip newpath\ngsave 1 setlinewidth newpath 10 10 moveto 410 10 lineto 410 585 lineto 10 585 lineto closepath stroke grestore\nb\nImposeSave restore\nnewpath 421 0 moveto 421 10 lineto stroke\nshowpage\n%%Page: 2 2\n%%PageMedia: Plain\nnewpath 421 0 moveto 421 11 lineto stroke\nshowpage\n%%EOF\n")
unfolding digits
two_marked_sheets = refl

-- ---- plans
abbrev first_page : MadeSlot
first_page = Placed 0 (stands Upright (pos 0)) (points 595 842)

-- a slot may not name a page that the document lacks
page_missing : made_plan_of 1 (on (points 595 842) (first_page ∷ []) ∷ on (points 595 842) (Blank ∷ Placed 1 (stands Upright (pos 0)) (points 595 842) ∷ []) ∷ [])
    ≡ Err (MadeNoSuchPage 1)
page_missing = refl

-- a sheet has at most 4,096 slots
just_fits : made_plan_of 1 (on (points 595 842) (replicate 4_096 first_page) ∷ []) ≡ Ok (on (points 595 842) (replicate 4_096 first_page) ∷ [])
just_fits = refl

one_slot_more : made_plan_of 1 (on (points 595 842) (Blank ∷ []) ∷ on (points 595 842) (replicate 4_097 Blank) ∷ []) ≡ Err (MadeSlotsOutOfRange 1)
one_slot_more = refl

-- and at least one
no_slot : made_plan_of 1 (on (points 595 842) [] ∷ []) ≡ Err (MadeSlotsOutOfRange 0)
no_slot = refl

pages_of_slots : made_layout 3 (on (points 595 842) (Placed 2 (stands Left (pos 7)) (points 10 20) ∷ Blank ∷ []) ∷ on (points 1 1) [] ∷ [])
    ≡ record { pages = 3; sheets = (Some 2 ∷ None ∷ []) ∷ [] ∷ [] }
pages_of_slots = refl
