-- Documents with the guard put in, run by the machine: each as the guard is to have it. With each painting are the
-- operators of its transformation and of its clip; sheets and paintings are the latest first.
use Rattle.std.proofs.Common.{◌≡◌, ℕ, false, List, [], ◌∷◌, ◌++◌, refl, Some, None}
use Rattle.std.specs.Prelude.{codes, Result, Ok, Option, option_map}
use Rattle.std.specs.Fmt.{digits}
use Rattle.rules.specs.Papers.{points}
use Rattle.rules.specs.Units.{◌>>=◌}
use Rattle.rules.specs.Run.{document_of, DocumentFault}
use Rattle.rules.specs.Output.{output}
use Rattle.guard.specs.Guard.{guarded}
use Rattle.pictures.specs.AfterGuard.{printer_keys, guard_text}
use Rattle.pictures.specs.Sheets.{among}
use Rattle.pictures.proofs.Examples.TwoUp.{sheets_of}
use Rattle.pictures.proofs.Examples.Premises.{document_with, half, frame, outline, stroke, placed, not_placed}

-- a document of this text, guarded and imposed
abbrev pub sheets_with_guard : List ℕ → Result (Option (List (List (List (List ℕ) × List (List ℕ))))) DocumentFault
sheets_with_guard text =
    document_of (guarded (Some (points 200 300)) text) >>= λ us. Ok (option_map outline (sheets_of (output frame None half us)))

abbrev pub imposed : List ℕ → List (List ℕ) → Result (Option (List (List (List (List ℕ) × List (List ℕ))))) DocumentFault
imposed prolog pages = sheets_with_guard (document_with prolog pages)

-- one sheet, with one painting in its place
abbrev pub one_placed : Result (Option (List (List (List (List ℕ) × List (List ℕ))))) DocumentFault
one_placed = Ok (Some ((placed ∷ []) ∷ []))

-- as without the guard

both_are_placed : imposed (codes "/x 1 def") (stroke ∷ stroke ∷ []) ≡ Ok (Some ((placed ∷ []) ∷ (placed ∷ []) ∷ []))
unfolding digits
both_are_placed = refl

-- what resets

resets_graphics : imposed (codes "/x 1 def") ((codes "initgraphics " ++ stroke) ∷ []) ≡ one_placed
unfolding digits
resets_graphics = refl

resets_matrix : imposed (codes "/x 1 def") ((codes "2 2 scale initmatrix " ++ stroke) ∷ []) ≡ one_placed
unfolding digits
resets_matrix = refl

resets_clip : imposed (codes "/x 1 def") ((codes "0 0 moveto 9 0 lineto 9 9 lineto closepath clip newpath initclip " ++ stroke) ∷ []) ≡ one_placed
unfolding digits
resets_clip = refl

-- with a current path, which stays
resets_clip_over_path : imposed (codes "/x 1 def") (codes "0 0 moveto 9 9 lineto initclip stroke" ∷ []) ≡ one_placed
unfolding digits
resets_clip_over_path = refl

resets_by_bound_procedure : imposed (codes "/b {initgraphics} bind def") ((codes "b " ++ stroke) ∷ []) ≡ one_placed
unfolding digits
resets_by_bound_procedure = refl

resets_by_default : imposed (codes "/x 1 def") ((codes "2 2 scale matrix defaultmatrix setmatrix " ++ stroke) ∷ []) ≡ one_placed
unfolding digits
resets_by_default = refl

-- what psutils writes on each page
resets_by_psutils : imposed (codes "/x 1 def") ((codes "2 2 scale PStoPSmatrix setmatrix " ++ stroke) ∷ []) ≡ one_placed
unfolding digits
resets_by_psutils = refl

sets_its_own_matrix : imposed (codes "/m matrix def") ((codes "m currentmatrix pop 2 2 scale m setmatrix " ++ stroke) ∷ []) ≡ one_placed
unfolding digits
sets_its_own_matrix = refl

-- what takes back what it didn't push

takes_back : imposed (codes "/x 1 def") ((codes "grestore grestore " ++ stroke) ∷ []) ≡ one_placed
unfolding digits
takes_back = refl

takes_all_back : imposed (codes "/x 1 def") ((codes "gsave 2 2 scale gsave grestoreall " ++ stroke) ∷ []) ≡ one_placed
unfolding digits
takes_all_back = refl

-- what prints by another way than the name

binds_showpage : imposed (codes "/e {showpage} bind def") ((stroke ++ codes " e") ∷ []) ≡ one_placed
unfolding digits
binds_showpage = refl

loads_showpage : imposed (codes "/e /showpage load def") ((stroke ++ codes " e") ∷ []) ≡ one_placed
unfolding digits
loads_showpage = refl

copies_page : imposed (codes "/e {copypage erasepage} bind def") ((stroke ++ codes " e") ∷ []) ≡ one_placed
unfolding digits
copies_page = refl

sets_device : imposed (codes "/x 1 def") ((codes "1 dict dup /PageSize [9 9] put setpagedevice " ++ stroke) ∷ []) ≡ one_placed
unfolding digits
sets_device = refl

sets_device_in_setup : imposed (codes "1 dict dup /PageSize [9 9] put setpagedevice") (stroke ∷ []) ≡ one_placed
unfolding digits
sets_device_in_setup = refl

-- what is said of duplex is handed on, and of the page isn't
sets_duplex_in_setup : imposed (codes "<</Duplex true /PageSize [9 9]>> setpagedevice") (stroke ∷ []) ≡ one_placed
unfolding digits
sets_duplex_in_setup = refl

hands_no_size : among (codes "PageSize") printer_keys ≡ false
hands_no_size = refl

sets_device_if_it_can : imposed (codes "/x 1 def") ((codes "/setpagedevice where {pop 1 dict setpagedevice} {letter} ifelse " ++ stroke) ∷ []) ≡ one_placed
unfolding digits
sets_device_if_it_can = refl

-- saves of its own, on an empty stack
saves_on_nothing : imposed (codes "/x 1 def") ((codes "save " ++ (stroke ++ codes " restore")) ∷ []) ≡ one_placed
unfolding digits
saves_on_nothing = refl

-- a document within the page, for which it has made showpage do nothing
embeds_a_document : imposed (codes "/x 1 def")
    ((codes "/s save def userdict /showpage {} put " ++ (stroke ++ (codes " /e {showpage} bind def e s restore " ++ stroke))) ∷ [])
    ≡ Ok (Some ((placed ∷ placed ∷ []) ∷ []))
unfolding digits
embeds_a_document = refl

-- a dictionary on the stack with a showpage of its own
has_its_own_showpage : imposed (codes "/d 1 dict def d /showpage {} put d begin") (stroke ∷ []) ≡ one_placed
unfolding digits
has_its_own_showpage = refl

-- showpage made to do nothing, and one that was loaded before, by which the pages are printed
silences_showpage : imposed (codes "userdict /e /showpage load put userdict /showpage {} put") ((stroke ++ codes " e") ∷ (stroke ++ codes " e") ∷ [])
    ≡ Ok (Some ((placed ∷ []) ∷ (placed ∷ []) ∷ []))
unfolding digits
silences_showpage = refl

-- variables that are named as operators of the guard are
names_variables : imposed (codes "/count 1 def /eq 2 def /matrix 3 def /where 4 def /get 5 def /exec 6 def") ((codes "initgraphics " ++ stroke) ∷ []) ≡ one_placed
unfolding digits
names_variables = refl

-- guarded twice

twice : sheets_with_guard (guarded (Some (points 200 300)) (document_with (codes "/x 1 def") ((codes "initgraphics " ++ stroke) ∷ []))) ≡ one_placed
unfolding digits
twice = refl

-- Imposed twice: the sheets are the pages of another document, which gets a guard of its own. Each page is in its inner
-- place, and with it in the outer one.

abbrev pub imposed_twice : List ℕ → Result (Option (List (List (List (List ℕ) × List (List ℕ))))) DocumentFault
imposed_twice page =
    document_of (guarded (Some (points 200 300)) (document_with (codes "/e {showpage} bind def") (page ∷ [])))
    >>= λ us. sheets_with_guard (output frame None half us)

abbrev within_another : Result (Option (List (List (List (List ℕ) × List (List ℕ))))) DocumentFault
within_another = Ok (Some (((codes "concat" ∷ codes "concat" ∷ [], codes "clip" ∷ codes "clip" ∷ []) ∷ []) ∷ []))

sheet_of_a_sheet : imposed_twice stroke ≡ within_another
unfolding digits
sheet_of_a_sheet = refl

prints_within : imposed_twice (stroke ++ codes " e") ≡ within_another
unfolding digits
prints_within = refl

takes_back_within : imposed_twice (codes "grestore grestore " ++ stroke) ≡ within_another
unfolding digits
takes_back_within = refl

-- what resets comes back to both places, and the edges of both papers clip it
resets_within : imposed_twice (codes "initgraphics " ++ stroke) ≡ within_another
unfolding digits
resets_within = refl

resets_clip_within : imposed_twice (codes "0 0 moveto 9 9 lineto initclip stroke") ≡ within_another
unfolding digits
resets_clip_within = refl

-- and of a document that makes showpage do nothing
silences_within : (document_of (guarded (Some (points 200 300)) (document_with (codes "userdict /e /showpage load put userdict /showpage {} put") ((stroke ++ codes " e") ∷ [])))
    >>= λ us. sheets_with_guard (output frame None half us)) ≡ within_another
unfolding digits
silences_within = refl

-- imposed once more
abbrev imposed_three_times : List ℕ → Result (Option (List (List (List (List ℕ) × List (List ℕ))))) DocumentFault
imposed_three_times page =
    document_of (guarded (Some (points 200 300)) (document_with (codes "/e {showpage} bind def") (page ∷ [])))
    >>= λ us. document_of (guarded (Some (points 200 300)) (output frame None half us))
    >>= λ vs. sheets_with_guard (output frame None half vs)

resets_within_two : imposed_three_times (codes "initgraphics " ++ stroke)
    ≡ Ok (Some (((codes "concat" ∷ codes "concat" ∷ codes "concat" ∷ [], codes "clip" ∷ codes "clip" ∷ codes "clip" ∷ []) ∷ []) ∷ []))
unfolding digits
resets_within_two = refl

-- What comes before the guard, where another document includes this one.

abbrev with_guard_in : List ℕ → List ℕ → Option (List (List (List (List ℕ) × List (List ℕ))))
with_guard_in before behind = option_map outline (sheets_of (before ++ (guard_text None ++ behind)))

-- a showpage that was made to do nothing does nothing still
shows_nothing : with_guard_in (codes "/showpage {} def ") (stroke ++ codes " showpage") ≡ Some []
shows_nothing = refl

-- a paper's name that sets the device and wipes the sheet does nothing
names_a_paper : with_guard_in (codes "/a4 {1 dict setpagedevice} def ") (stroke ++ codes " a4 showpage") ≡ Some ((not_placed ∷ []) ∷ [])
names_a_paper = refl

-- and one that isn't there isn't there then
names_no_paper : with_guard_in [] (codes "userdict /a4 known {showpage} if") ≡ Some []
names_no_paper = refl
