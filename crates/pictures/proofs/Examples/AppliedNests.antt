-- The law over any number of runs at sheets of sheets of sheets, of a page that resets, its clip again while there is a path: its
-- premises hold.
use Rattle.std.proofs.Common.{◌≡◌, List, [], ◌∷◌, refl, false}
use Rattle.std.specs.Prelude.{None, codes}
use Rattle.pictures.specs.Objects.{Token}
use Rattle.pictures.specs.Machine.{State, Painting, Runs}
use Rattle.pictures.specs.Scanner.{tokens}
use Rattle.pictures.specs.Sheets.{run_of, Numbers, Shown}
use Rattle.pictures.specs.Pictures.{printed_sheets, sheets_tokens}
use Rattle.pictures.proofs.Examples.Premises.{outline}
use Rattle.pictures.specs.Shelter.{Outer, outline_tokens, beginning, sheltered, PaintsSheltered}
use Rattle.pictures.specs.SheetsOfSheets.{page_round, page_begun, Nest, nest_as_page}
use Rattle.pictures.proofs.Nests.{nests_are_printed}
use Rattle.pictures.proofs.Examples.GuardedApplied.{behind, guarded_behind, at_most}
use Rattle.pictures.proofs.Examples.AppliedTwice.{takes_sheets}

-- half as large
abbrev half : Numbers
half = record {
  a = codes "0.5";
  b = codes "0";
  c = codes "0";
  d = codes "0.5";
  x = codes "0";
  y = codes "0";
  width = codes "200";
  height = codes "300";
  border = None;
}

abbrev body : List Token
body = tokens (codes "initgraphics 0 0 moveto 9 9 lineto initclip stroke e")

-- what it paints outside all pages
abbrev picture : List Painting
picture = (at_most [] (outline_tokens half) 11 (sheltered [] behind (outline_tokens half) body)).painted

-- sheets of sheets of sheets, each with one page
abbrev page : Shown
page = record { placed = record { numbers = half; body = body }; picture = picture }

abbrev nest : Nest 2
nest = (half, (half, page ∷ []) ∷ [])

abbrev one_round : List Outer
one_round = page_round [] behind half ∷ []

abbrev within_one : State
within_one = page_begun [] behind half

abbrev two_round : List Outer
two_round = page_round one_round within_one half ∷ one_round

abbrev within_two : State
within_two = page_begun one_round within_one half

abbrev end : State
end = at_most two_round (outline_tokens half) 11 (sheltered two_round within_two (outline_tokens half) body)

-- within two sheets it paints the same
page_paints : PaintsSheltered two_round within_two (outline_tokens half) body picture
page_paints = record {
  end = end;
  run = (11, refl);
  leaves = record { nothing_left = refl; operands = refl; dictionaries = refl; saves = refl; save_name = refl; restore_name = refl };
  picture_is = refl;
}

abbrev all : List (List Shown)
all = (nest_as_page 2 (beginning behind) nest ∷ []) ∷ []

-- so a sheet is printed with it
shown : Runs false (run_of (sheets_tokens all) behind) (record behind { sheets = printed_sheets behind.graphics all [] })
shown = nests_are_printed 2 behind ((nest ∷ []) ∷ []) [] guarded_behind takes_sheets refl (((((page_paints, tt), tt), tt), tt))

-- in all three places, clipped by all three papers
seen : outline (printed_sheets behind.graphics all [])
    ≡ ((codes "concat" ∷ codes "concat" ∷ codes "concat" ∷ [], codes "clip" ∷ codes "clip" ∷ codes "clip" ∷ []) ∷ []) ∷ []
seen = refl
