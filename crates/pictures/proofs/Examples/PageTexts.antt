-- Texts that end within a string or a procedure, lines that are dropped from a string, and texts that end without a
-- line end.
use Rattle.std.proofs.Common.{◌≡◌, ℕ, List, [], ◌∷◌, ◌++◌, refl, Some, None, map}
use Rattle.std.specs.Prelude.{codes, Result, Ok, Option, option_map}
use Rattle.std.specs.Fmt.{digits}
use Rattle.rules.specs.Run.{document_of, DocumentFault}
use Rattle.rules.specs.Units.{◌>>=◌}
use Rattle.rules.specs.Output.{output}
use Rattle.pictures.specs.Objects.{Object, Plain, Text}
use Rattle.pictures.specs.Machine.{Painting}
use Rattle.pictures.specs.Scanner.{EndsBetweenTokens}
use Rattle.pictures.specs.Documents.{body_of_page}
use Rattle.pictures.proofs.Examples.TwoUp.{lines, sheets_of}
use Rattle.pictures.proofs.Examples.Applied.{units}
use Rattle.pictures.proofs.Examples.Premises.{half, frame, outline, own, own_sheets, imposed, sheets_by, stroke, placed}
use Rattle.pictures.proofs.Examples.Premises.{not_placed}

-- what is shown or painted, by the operands
abbrev operands_of : List (List Painting) → List (List (List Object))
operands_of sheets = map (λ sheet. map (λ p. p.call.operands) sheet) sheets

abbrev text : List ℕ → List Object
text bytes = Plain (Text bytes) ∷ []

-- A page that ends within a string. The document has one sheet, with a text that contains a page line. Imposed, the
-- text also contains what is between the two placed pages.

abbrev string_over_pages : List (List ℕ)
string_over_pages = codes "0 0 moveto (a" ∷ codes ") show" ∷ []

one_text : option_map operands_of (own_sheets [] string_over_pages)
    ≡ Some ((text (lines (codes "a" ∷ codes "showpage" ∷ codes "%%Page: 1 1" ∷ [])) ∷ []) ∷ [])
one_text = refl

another_text : (sheets_by half [] string_over_pages >>= λ sheets. Ok (option_map operands_of sheets))
    ≡ Ok (Some ((text (lines (
    codes "a"
    ∷ codes "showpage"
    ∷ codes "ImposeSave restore"
    ∷ codes "showpage"
    ∷ codes "%%Page: 2 2"
    ∷ codes "userdict /ImposeSave save put"
    ∷ codes "userdict /showpage {} put"
    ∷ codes "[0.5 0 0 0.5 0 0] concat"
    ∷ codes "newpath 0 0 moveto 200 0 lineto 200 300 lineto 0 300 lineto closepath clip newpath"
    ∷ [])) ∷ []) ∷ []))
unfolding digits
another_text = refl

-- A line within a string is dropped like a comment.

abbrev comment_in_string : List (List ℕ)
comment_in_string = lines (codes "0 0 moveto (a" ∷ codes "%%PageTrailer" ∷ codes "b) show" ∷ []) ∷ []

kept_there : option_map operands_of (own_sheets [] comment_in_string)
    ≡ Some ((text (codes "a\n%%PageTrailer\nb") ∷ []) ∷ [])
kept_there = refl

dropped_there : (sheets_by half [] comment_in_string >>= λ sheets. Ok (option_map operands_of sheets))
    ≡ Ok (Some ((text (codes "a\nb") ∷ []) ∷ []))
unfolding digits
dropped_there = refl

-- A setup that ends within a string, or within a procedure: the definition of the save's name isn't run, and the
-- machine stops at that name.

string_of_setup : own (codes "(a") ((codes ") pop " ++ stroke) ∷ []) ≡ Some ((not_placed ∷ []) ∷ [])
string_of_setup = refl

string_of_setup_imposed : imposed (codes "(a") ((codes ") pop " ++ stroke) ∷ []) ≡ Ok None
unfolding digits
string_of_setup_imposed = refl

procedure_of_setup : own (codes "{") ((codes "} pop " ++ stroke) ∷ []) ≡ Some ((not_placed ∷ []) ∷ [])
procedure_of_setup = refl

procedure_of_setup_imposed : imposed (codes "{") ((codes "} pop " ++ stroke) ∷ []) ≡ Ok None
unfolding digits
procedure_of_setup_imposed = refl

-- A last line without a line end, in a word or in a comment: one is added.

abbrev ended_by : List ℕ → List ℕ
ended_by end = lines (codes "%!PS-Adobe-3.0" ∷ codes "%%Page: 1 1" ∷ stroke ∷ []) ++ end

abbrev outline_of : List ℕ → Result (Option (List (List (List (List ℕ) × List (List ℕ))))) DocumentFault
outline_of document = document_of document >>= λ us. Ok (option_map outline (sheets_of (output frame None half us)))

word_at_the_end : outline_of (ended_by (codes "showpage"))
    ≡ Ok (Some ((placed ∷ []) ∷ []))
unfolding digits
word_at_the_end = refl

word_is_complete : EndsBetweenTokens (body_of_page (units (ended_by (codes "showpage"))) 0)
word_is_complete = refl

comment_at_the_end : outline_of (ended_by (codes "showpage % (so"))
    ≡ Ok (Some ((placed ∷ []) ∷ []))
unfolding digits
comment_at_the_end = refl

comment_is_complete : EndsBetweenTokens (body_of_page (units (ended_by (codes "showpage % (so"))) 0)
comment_is_complete = refl
