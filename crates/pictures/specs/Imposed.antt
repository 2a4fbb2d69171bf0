-- The output of made sheets, on which each page has its own paper: the pictures that it should have.
use Rattle.std.specs.Prelude.{◌≡◌, ℕ, Bool, true, false, not, ◌&&◌, ◌==◌, List, [], ◌∷◌, Option, Ok}
use Rattle.rules.specs.Papers.{Paper}
use Rattle.rules.specs.Parts.{NestedUnit, preamble, bytes_of}
use Rattle.rules.specs.Filters.{trailer_text}
use Rattle.rules.specs.Run.{document_of}
use Rattle.rules.specs.Output.{Border}
use Rattle.rules.specs.Made.{MadeSheet}
use Rattle.rules.specs.Dress.{Dress}
use Rattle.rules.specs.MadeOutput.{made_output}
use Rattle.pictures.specs.Machine.{State, Painting, Runs}
use Rattle.pictures.specs.Scanner.{percent_sign, ends_comment, tokens}
use Rattle.pictures.specs.Sheets.{IsGround}
use Rattle.pictures.specs.Documents.{started, sheet_pictures, OnSheets, PreambleRuns}
use Rattle.pictures.specs.Kept.{comments_apart_with}
use Rattle.pictures.specs.Unaware.{IsPlainGround, PagePrints}

-- Lines that a machine passes over.

abbrev pub ends_nowhere : List ℕ → Bool
ends_nowhere [] = true
ends_nowhere (b ∷ bs) = not (ends_comment b) && ends_nowhere bs

-- a line is a comment: it begins with a percent sign, and no byte of it ends the comment
abbrev pub is_comment_line : List ℕ → Bool
is_comment_line [] = false
is_comment_line (b ∷ bs) = (b == percent_sign) && ends_nowhere bs

abbrev pub are_comments : List (List ℕ) → Bool
are_comments [] = true
are_comments (l ∷ ls) = is_comment_line l && are_comments ls

-- all lines that are added to the output are comments
pub record IsQuiet (dress : Dress) : Type 0 where
  pub header : are_comments dress.header ≡ true
  pub start : (s : ℕ) (paper : Paper) → are_comments (dress.start s paper) ≡ true
  pub finish : (s : ℕ) (paper : Paper) → are_comments (dress.finish s paper) ≡ true

-- Made sheets.

-- a machine runs the output of these sheets up to the trailer, and has then printed these pictures
abbrev pub MadeIsPrinted : Option Border → Dress → List MadeSheet → List NestedUnit → (ℕ → List Painting) → State → Type 0
MadeIsPrinted border dress all us picture s =
    Runs false (started (tokens (made_output border dress all us)))
    (record s { left = tokens (trailer_text us); sheets = sheet_pictures border us picture s all })

-- A law about an accepted document. Suppose that a machine runs the preamble, and that each page prints a picture
-- by itself. Then it prints these pictures, placed, for any made sheets that are written without added lines other
-- than comments
abbrev pub MadeSheetsShowThePages : Type 0
MadeSheetsShowThePages =
    (border : Option Border) (dress : Dress) (all : List MadeSheet) (text : List ℕ) (us : List NestedUnit)
    (picture : ℕ → List Painting) (s : State)
    → IsQuiet dress → document_of text ≡ Ok us
    → comments_apart_with dress.header us ≡ true → PreambleRuns IsGround (bytes_of (preamble us)) s → IsPlainGround s
    → OnSheets (λ paper p. PagePrints us s p (picture p)) all
    → MadeIsPrinted border dress all us picture s
