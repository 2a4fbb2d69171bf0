-- The guard: lines of PostScript that are inserted into a document before it is imposed. docs/GUARD.md says what
-- each is for.
use Rattle.std.specs.Prelude.{ℕ, List, [], ◌∷◌, ◌++◌, codes, Option, Some, None}
use Rattle.rules.specs.Numbers.{points_text}
use Rattle.rules.specs.Papers.{Paper}
use Rattle.guard.specs.PutIn.{put_in}

-- the line that sets the device's page size to a paper, if the interpreter has `setpagedevice`
abbrev pub page_size_line : Paper → List ℕ
page_size_line paper =
    codes "/setpagedevice where {pop 1 dict dup /PageSize ["
    ++ (points_text paper.width ++ (codes " " ++ (points_text paper.height ++ codes "] put setpagedevice} if")))

-- for the sheet's paper, if one is named
abbrev pub guard_size_lines : Option Paper → List (List ℕ)
guard_size_lines None = []
guard_size_lines (Some paper) = page_size_line paper ∷ []

-- the lines before it
abbrev pub first_lines : List (List ℕ)
first_lines =
    codes "%%BeginResource: procset ImposeGuard 1.0 0"
    ∷ codes "userdict /ImposeGuard known not {userdict begin"
    ∷ []

-- and after it
abbrev pub other_lines : List (List ℕ)
other_lines =
    codes "/ImposeShow /showpage load def"
    ∷ codes "/PStoPSenablepage true def"
    ∷ codes "/showpage {PStoPSenablepage {ImposeShow} if} def"
    ∷ codes "/copypage {} def"
    ∷ codes "/erasepage {} def"
    ∷ codes "/setpagedevice where {pop /ImposeDevice /setpagedevice load def"
    ∷ codes "/setpagedevice {PStoPSenablepage {[/Duplex /Tumble /NumCopies /Collate /MediaType /MediaColor"
    ∷ codes "/MediaWeight /MediaPosition /ManualFeed] {1 index 1 index known"
    ∷ codes "{1 dict dup 2 index 4 index 4 index get put ImposeDevice} if pop} forall} if pop} def} if"
    ∷ codes "[/letter /lettersmall /legal /ledger /tabloid /11x17 /note /a3 /a4 /a4small /a5 /b4 /b5"
    ∷ codes "/executivepage /folio /quarto /halfletter /com10envelope /monarchenvelope /c5envelope /dlenvelope]"
    ∷ codes "{dup where {pop {} def} {pop} ifelse} forall"
    ∷ codes "/PStoPSmatrix matrix currentmatrix def"
    ∷ codes "/PStoPSclip {clippath} def"
    ∷ codes "/ImposeOuter 0 def"
    ∷ codes "/ImposeClip {ImposeOuter 0 ne {ImposeOuter begin ImposeClip end} if"
    ∷ codes "PStoPSmatrix setmatrix newpath PStoPSclip clip newpath} def"
    ∷ codes "/ImposePath {[{/moveto cvx} {/lineto cvx} {/curveto cvx} {/closepath cvx} pathforall] cvx} def"
    ∷ codes "/defaultmatrix {PStoPSmatrix exch copy} def"
    ∷ codes "/initmatrix {PStoPSmatrix setmatrix} def"
    ∷ codes "/initclip {ImposePath matrix currentmatrix systemdict /initclip get exec"
    ∷ codes "ImposeClip setmatrix exec} def"
    ∷ codes "/initgraphics {systemdict /initgraphics get exec ImposeClip} def"
    ∷ codes "/ImposeGuard 1 dict def"
    ∷ codes "ImposeGuard /clip {end clip PStoPSenablepage not {userdict /ImposeOuter 3 dict dup begin"
    ∷ codes "[/PStoPSmatrix /PStoPSclip /ImposeOuter] {dup load def} forall end put} if userdict begin"
    ∷ codes "/PStoPSmatrix matrix currentmatrix def /PStoPSclip ImposePath def /PStoPSenablepage false def"
    ∷ codes "end newpath systemdict /save get exec pop} put"
    ∷ codes "/save {count 0 ne {dup /ImposeSave eq {"
    ∷ codes "/showpage where {dup userdict ne 1 index wcheck and"
    ∷ codes "{/showpage {userdict /showpage get exec} put}"
    ∷ codes "{pop PStoPSenablepage {/showpage load dup /ImposeShow load ne {length 0 eq"
    ∷ codes "{userdict /showpage {PStoPSenablepage {ImposeShow} if} put} if} {pop} ifelse} if} ifelse} if"
    ∷ codes "ImposeGuard begin} if} if systemdict /save get exec} def"
    ∷ codes "end} bind if"
    ∷ codes "%%EndResource"
    ∷ []

abbrev pub guard_lines : Option Paper → List (List ℕ)
guard_lines sheet_paper = first_lines ++ (guard_size_lines sheet_paper ++ other_lines)

-- a document with the guard inserted (RULES, 15)
abbrev pub guarded : Option Paper → List ℕ → List ℕ
guarded sheet_paper text = put_in (guard_lines sheet_paper) text
