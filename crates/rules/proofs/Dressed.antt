-- Made sheets that carry the lines of their dress are written like sheets with their dress.
use Rattle.std.proofs.Common.{suc, ◌≡◌, ℕ, ◌+◌, List, [], ◌∷◌, ◌++◌, length, map, refl, ap, ◌∙◌}
use Rattle.std.specs.Prelude.{flat_map, Option}
use Rattle.std.specs.List.{enumerate_from}
use Rattle.rules.specs.Parts.{pages}
use Rattle.rules.specs.Filters.{trailer_text}
use Rattle.rules.specs.Output.{Border}
use Rattle.rules.specs.Dress.{Dress}
use Rattle.rules.specs.Dressed.{DressedIsMade, DressedSheet, dressed_in, dressed_sheet_text}
use Rattle.rules.specs.Made.{MadeSheet}
use Rattle.rules.specs.MadeOutput.{dressed_preamble, made_sheet_text}

abbrev dressed_from : Dress → ℕ → List MadeSheet → List DressedSheet
dressed_from dress k all = map (λ (s, sheet). dressed_in dress s sheet) (enumerate_from k all)

as_many : (dress : Dress) (k : ℕ) (all : List MadeSheet) → length (dressed_from dress k all) ≡ length all
as_many dress k [] = refl
as_many dress k (sheet ∷ all) = ap suc (as_many dress (k + 1) all)

texts_same : (border : Option Border) (dress : Dress) (texts : List (List ℕ)) (k : ℕ) (all : List MadeSheet)
    → flat_map (λ (s, sheet). dressed_sheet_text border texts s sheet) (enumerate_from k (dressed_from dress k all))
    ≡ flat_map (λ (s, sheet). made_sheet_text border dress texts s sheet) (enumerate_from k all)
texts_same border dress texts k [] = refl
texts_same border dress texts k (sheet ∷ all) =
    ap (λ t. made_sheet_text border dress texts k sheet ++ t) (texts_same border dress texts (k + 1) all)

pub dressed_is_made : DressedIsMade
dressed_is_made border dress all us =
    let sheets : List ℕ = flat_map (λ (s, sheet). dressed_sheet_text border (pages us) s sheet) (enumerate_from 0 (dressed_from dress 0 all)) in
    ap (λ n. dressed_preamble n dress.header us ++ sheets ++ trailer_text us) (as_many dress 0 all)
    ∙ ap (λ t. dressed_preamble (length all) dress.header us ++ t ++ trailer_text us) (texts_same border dress (pages us) 0 all)
