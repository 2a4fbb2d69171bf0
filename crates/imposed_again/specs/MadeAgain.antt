-- The output of made sheets, read again as a document.
use Rattle.std.specs.Prelude.{◌≡◌, ℕ, ◌<◌, ◌≤◌, true, false, List, [], ◌∷◌, length, map, codes, Option, Ok}
use Rattle.std.specs.List.{enumerate_from}
use Rattle.rules.specs.Papers.{Paper}
use Rattle.rules.specs.Units.{begins_block, has_key, is_comment}
use Rattle.rules.specs.Parts.{NestedUnit, preamble, page_run, pages, trailer, bytes_of}
use Rattle.rules.specs.Filters.{trailer_text}
use Rattle.rules.specs.Run.{document_of, most_input_bytes, most_pages}
use Rattle.rules.specs.Output.{Border}
use Rattle.dsc.specs.Units.{units_of}
use Rattle.imposed_again.specs.Seams.{no_ends}
use Rattle.rules.specs.Made.{MadeSheet}
use Rattle.rules.specs.Dress.{Dress}
use Rattle.rules.specs.MadeOutput.{dressed_preamble, made_sheet_text, made_output}
use Rattle.imposed_again.specs.Again.{AreShut, open_depth}

-- a line that begins no part and no data, and neither begins nor ends an embedded document
pub record IsTame (content : List ℕ) : Type 0 where
  pub whole : no_ends content ≡ true
  pub no_data : begins_block content ≡ false
  pub no_document : has_key (codes "%%BeginDocument" ∷ []) content ≡ false
  pub no_end : has_key (codes "%%EndDocument" ∷ []) content ≡ false
  pub no_page : is_comment (codes "%%Page") content ≡ false
  pub no_trailer : has_key (codes "%%Trailer" ∷ codes "%%EOF" ∷ []) content ≡ false

abbrev pub AreTame : List (List ℕ) → Type 0
AreTame [] = Unit {0}
AreTame (l ∷ lines) = IsTame l × AreTame lines

-- all lines of a dress are such lines, on any sheet of any paper
pub record IsTameDress (dress : Dress) : Type 0 where
  pub header : AreTame dress.header
  pub start : (s : ℕ) (paper : Paper) → AreTame (dress.start s paper)
  pub finish : (s : ℕ) (paper : Paper) → AreTame (dress.finish s paper)

-- the texts of made sheets, in order, for a document with these pages
abbrev pub made_texts : (border : Option Border) → Dress → List (List ℕ) → List MadeSheet → List (List ℕ)
made_texts border dress texts all =
    map (λ (s, sheet). made_sheet_text border dress texts s sheet) (enumerate_from 0 all)

-- The units `again` are those of the output of these made sheets. Preamble and trailer are the texts that were
-- written. There are as many pages as sheets exactly if each sheet but the last leaves no embedded document open;
-- then the pages are the texts of the sheets. If the document's last page leaves none open, nor does the last page
-- of the output.
pub record IsMadeAgain (border : Option Border) (dress : Dress) (all : List MadeSheet) (us again : List NestedUnit) : Type 0 where
  pub before : bytes_of (preamble again) ≡ dressed_preamble (length all) dress.header us
  pub sheets_are : AreShut (made_texts border dress (pages us) all) → pages again ≡ made_texts border dress (pages us) all
  pub only_if : length (pages again) ≡ length all → AreShut (made_texts border dress (pages us) all)
  pub fewer : length (pages again) ≤ length all
  pub behind : bytes_of (trailer again) ≡ trailer_text us
  pub stays_shut : open_depth (page_run us) ≡ 0 → open_depth (page_run again) ≡ 0

-- the output of made sheets, if there are any and not too many, is a document again unless it is too long. If the
-- document's last page leaves no embedded document open, its pages are the sheets
abbrev pub MadeIsDocument : Type 0
MadeIsDocument =
    (border : Option Border) (dress : Dress) (all : List MadeSheet) (text : List ℕ) (us : List NestedUnit)
    → IsTameDress dress → document_of text ≡ Ok us → 0 < length all → length all ≤ most_pages
    → length (made_output border dress all us) ≤ most_input_bytes
    → (document_of (made_output border dress all us) ≡ Ok (units_of (made_output border dress all us)))
    × IsMadeAgain border dress all us (units_of (made_output border dress all us))
    × (open_depth (page_run us) ≡ 0
    → pages (units_of (made_output border dress all us)) ≡ made_texts border dress (pages us) all)
