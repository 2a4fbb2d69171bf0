-- The guard's procedures, and the state of a machine after the guard's text: what each of its names means.
use Rattle.std.specs.Prelude.{ℕ, ◌+◌, List, [], ◌∷◌, ◌++◌, map, flat_map, codes, true, false, Option, Some, None}
use Rattle.rules.specs.Bytes.{line}
use Rattle.rules.specs.Numbers.{points_text}
use Rattle.rules.specs.Papers.{Paper}
use Rattle.guard.specs.Guard.{guard_lines}
use Rattle.pictures.specs.Objects.{Token, Number, Name, Literal, Bound, Opens, Closes, Object, Plain, Truth, Array}
use Rattle.pictures.specs.Objects.{Procedure}
use Rattle.pictures.specs.Objects.{Dictionary, Matrix}
use Rattle.pictures.specs.Dictionaries.{DictionaryEntry, userdict, system}
use Rattle.pictures.specs.Machine.{State, Runs}
use Rattle.pictures.specs.Scanner.{tokens, EndsBetweenTokens}
use Rattle.pictures.specs.Sheets.{in_userdict}
use Rattle.pictures.specs.Documents.{started}

-- the guard's text, with the sheet's paper if one is named
abbrev pub guard_text : Option Paper → List ℕ
guard_text sheet = flat_map line (guard_lines sheet)

-- The guard's procedures, as `bind` has left them: a name that meant an operator is bound to it, and so means it
-- whatever a document calls its variables.

-- `{PStoPSenablepage {ImposeShow} if}`
abbrev pub showpage_tokens : List Token
showpage_tokens =
    Name (codes "PStoPSenablepage") ∷ Opens ∷ Name (codes "ImposeShow") ∷ Closes ∷ Bound (codes "if") ∷ []

-- `1 index 1 index known {1 dict dup 2 index 4 index 4 index get put ImposeDevice} if pop`
abbrev pub handing_tokens : List Token
handing_tokens =
    Number (codes "1") ∷ Bound (codes "index") ∷ Number (codes "1") ∷ Bound (codes "index") ∷ Bound (codes "known")
    ∷ Opens ∷ Number (codes "1") ∷ Bound (codes "dict") ∷ Bound (codes "dup")
    ∷ Number (codes "2") ∷ Bound (codes "index") ∷ Number (codes "4") ∷ Bound (codes "index")
    ∷ Number (codes "4") ∷ Bound (codes "index") ∷ Bound (codes "get") ∷ Bound (codes "put") ∷ Name (codes "ImposeDevice")
    ∷ Closes ∷ Bound (codes "if") ∷ Bound (codes "pop") ∷ []

-- the keys that say how a printer treats its paper
abbrev pub printer_keys : List (List ℕ)
printer_keys =
    codes "Duplex" ∷ codes "Tumble" ∷ codes "NumCopies" ∷ codes "Collate" ∷ codes "MediaType" ∷ codes "MediaColor"
    ∷ codes "MediaWeight" ∷ codes "MediaPosition" ∷ codes "ManualFeed" ∷ []

-- `{PStoPSenablepage {[/Duplex .. /ManualFeed] {..} forall} if pop}`
abbrev pub setpagedevice_tokens : List Token
setpagedevice_tokens =
    Name (codes "PStoPSenablepage")
    ∷ Opens ∷ Bound (codes "[") ∷ (map Literal printer_keys ++ (Bound (codes "]")
    ∷ Opens ∷ (handing_tokens ++ (Closes ∷ Bound (codes "forall") ∷ Closes ∷ Bound (codes "if") ∷ Bound (codes "pop") ∷ []))))

-- `{clippath}`
abbrev pub sheet_outline_tokens : List Token
sheet_outline_tokens = Bound (codes "clippath") ∷ []

-- `{/moveto cvx}` and the like
abbrev pub cvx_tokens : List ℕ → List Token
cvx_tokens name = Opens ∷ Literal name ∷ Bound (codes "cvx") ∷ Closes ∷ []

-- `{[{/moveto cvx} {/lineto cvx} {/curveto cvx} {/closepath cvx} pathforall] cvx}`
abbrev pub pathforall_tokens : List Token
pathforall_tokens =
    Bound (codes "[") ∷ (cvx_tokens (codes "moveto") ++ (cvx_tokens (codes "lineto")
    ++ (cvx_tokens (codes "curveto") ++ (cvx_tokens (codes "closepath")
    ++ (Bound (codes "pathforall") ∷ Bound (codes "]") ∷ Bound (codes "cvx") ∷ [])))))

-- `{PStoPSmatrix exch copy}`
abbrev pub defaultmatrix_tokens : List Token
defaultmatrix_tokens = Name (codes "PStoPSmatrix") ∷ Bound (codes "exch") ∷ Bound (codes "copy") ∷ []

-- `{PStoPSmatrix setmatrix}`
abbrev pub initmatrix_tokens : List Token
initmatrix_tokens = Name (codes "PStoPSmatrix") ∷ Bound (codes "setmatrix") ∷ []

-- `systemdict /NAME get exec`
abbrev pub real : List ℕ → List Token
real name = Name (codes "systemdict") ∷ Literal name ∷ Bound (codes "get") ∷ Bound (codes "exec") ∷ []

-- `PStoPSmatrix setmatrix newpath PStoPSclip clip newpath`
abbrev pub own_clip_tokens : List Token
own_clip_tokens =
    initmatrix_tokens
    ++ (Bound (codes "newpath") ∷ Name (codes "PStoPSclip") ∷ Bound (codes "clip") ∷ Bound (codes "newpath") ∷ [])

-- `{ImposeOuter 0 ne {ImposeOuter begin ImposeClip end} if PStoPSmatrix setmatrix newpath PStoPSclip clip newpath}`
abbrev pub clips_tokens : List Token
clips_tokens =
    Name (codes "ImposeOuter") ∷ Number (codes "0") ∷ Bound (codes "ne")
    ∷ Opens ∷ Name (codes "ImposeOuter") ∷ Bound (codes "begin") ∷ Name (codes "ImposeClip") ∷ Bound (codes "end") ∷ Closes
    ∷ Bound (codes "if") ∷ own_clip_tokens

-- `{ImposePath matrix currentmatrix systemdict /initclip get exec ImposeClip setmatrix exec}`
abbrev pub initclip_tokens : List Token
initclip_tokens =
    Name (codes "ImposePath") ∷ Bound (codes "matrix") ∷ Bound (codes "currentmatrix")
    ∷ (real (codes "initclip") ++ (Name (codes "ImposeClip") ∷ Bound (codes "setmatrix") ∷ Bound (codes "exec") ∷ []))

-- `{systemdict /initgraphics get exec ImposeClip}`
abbrev pub initgraphics_tokens : List Token
initgraphics_tokens = real (codes "initgraphics") ++ (Name (codes "ImposeClip") ∷ [])

-- `{userdict /ImposeOuter 3 dict dup begin [/PStoPSmatrix /PStoPSclip /ImposeOuter] {dup load def} forall end put}`
abbrev pub outer_tokens : List Token
outer_tokens =
    Name (codes "userdict") ∷ Literal (codes "ImposeOuter") ∷ Number (codes "3") ∷ Bound (codes "dict")
    ∷ Bound (codes "dup") ∷ Bound (codes "begin")
    ∷ Bound (codes "[") ∷ Literal (codes "PStoPSmatrix") ∷ Literal (codes "PStoPSclip") ∷ Literal (codes "ImposeOuter")
    ∷ Bound (codes "]") ∷ Opens ∷ Bound (codes "dup") ∷ Bound (codes "load") ∷ Bound (codes "def") ∷ Closes
    ∷ Bound (codes "forall") ∷ Bound (codes "end") ∷ Bound (codes "put") ∷ []

-- `{end clip PStoPSenablepage not {..} if userdict begin /PStoPSmatrix matrix currentmatrix def /PStoPSclip ImposePath def
-- /PStoPSenablepage false def end newpath systemdict /save get exec pop}`
abbrev pub clip_tokens : List Token
clip_tokens =
    Bound (codes "end") ∷ Bound (codes "clip") ∷ Name (codes "PStoPSenablepage") ∷ Bound (codes "not")
    ∷ Opens ∷ (outer_tokens ++ (Closes ∷ Bound (codes "if") ∷ Name (codes "userdict") ∷ Bound (codes "begin")
    ∷ Literal (codes "PStoPSmatrix") ∷ Bound (codes "matrix") ∷ Bound (codes "currentmatrix") ∷ Bound (codes "def")
    ∷ Literal (codes "PStoPSclip") ∷ Name (codes "ImposePath") ∷ Bound (codes "def")
    ∷ Literal (codes "PStoPSenablepage") ∷ Name (codes "false") ∷ Bound (codes "def") ∷ Bound (codes "end")
    ∷ Bound (codes "newpath") ∷ (real (codes "save") ++ (Bound (codes "pop") ∷ []))))

-- `{/showpage {userdict /showpage get exec} put}`
abbrev pub asking_tokens : List Token
asking_tokens =
    Opens ∷ Literal (codes "showpage")
    ∷ Opens ∷ Name (codes "userdict") ∷ Literal (codes "showpage") ∷ Bound (codes "get") ∷ Bound (codes "exec") ∷ Closes
    ∷ Bound (codes "put") ∷ Closes ∷ []

-- `userdict /showpage {PStoPSenablepage {ImposeShow} if} put`
abbrev pub putting_back_tokens : List Token
putting_back_tokens =
    Name (codes "userdict") ∷ Literal (codes "showpage")
    ∷ Opens ∷ (showpage_tokens ++ (Closes ∷ Bound (codes "put") ∷ []))

-- `/showpage load dup /ImposeShow load ne {length 0 eq {..} if} {pop} ifelse`
abbrev pub looking_tokens : List Token
looking_tokens =
    Literal (codes "showpage") ∷ Bound (codes "load") ∷ Bound (codes "dup")
    ∷ Literal (codes "ImposeShow") ∷ Bound (codes "load") ∷ Bound (codes "ne")
    ∷ Opens ∷ Bound (codes "length") ∷ Number (codes "0") ∷ Bound (codes "eq")
    ∷ Opens ∷ (putting_back_tokens ++ (Closes ∷ Bound (codes "if") ∷ Closes
    ∷ Opens ∷ Bound (codes "pop") ∷ Closes ∷ Bound (codes "ifelse") ∷ []))

-- `{pop PStoPSenablepage {..} if}`
abbrev pub keeping_tokens : List Token
keeping_tokens =
    Opens ∷ Bound (codes "pop") ∷ Name (codes "PStoPSenablepage")
    ∷ Opens ∷ (looking_tokens ++ (Closes ∷ Bound (codes "if") ∷ Closes ∷ []))

-- `/showpage where {dup userdict ne 1 index wcheck and {..} {..} ifelse} if ImposeGuard begin`
abbrev pub page_begins_tokens : List Token
page_begins_tokens =
    Literal (codes "showpage") ∷ Bound (codes "where")
    ∷ Opens ∷ Bound (codes "dup") ∷ Name (codes "userdict") ∷ Bound (codes "ne") ∷ Number (codes "1")
    ∷ Bound (codes "index") ∷ Bound (codes "wcheck") ∷ Bound (codes "and")
    ∷ (asking_tokens ++ (keeping_tokens ++ (Bound (codes "ifelse") ∷ Closes ∷ Bound (codes "if")
    ∷ Name (codes "ImposeGuard") ∷ Bound (codes "begin") ∷ [])))

-- `{count 0 ne {dup /ImposeSave eq {..} if} if systemdict /save get exec}`
abbrev pub save_tokens : List Token
save_tokens =
    Bound (codes "count") ∷ Number (codes "0") ∷ Bound (codes "ne")
    ∷ Opens ∷ Bound (codes "dup") ∷ Literal (codes "ImposeSave") ∷ Bound (codes "eq")
    ∷ Opens ∷ (page_begins_tokens
    ++ (Closes ∷ Bound (codes "if") ∷ Closes ∷ Bound (codes "if") ∷ real (codes "save")))

-- What is in userdict after it.

-- a dictionary with the sheet's size is made if there is a sheet's paper
abbrev pub for_paper : Option Paper → ℕ
for_paper None = 0
for_paper (Some paper) = 1

abbrev pub paper_entries : Option Paper → List DictionaryEntry
paper_entries None = []
paper_entries (Some paper) = record {
  dictionary = 1;
  key = codes "PageSize";
  value = Array (Number (points_text paper.width) ∷ Number (points_text paper.height) ∷ []);
} ∷ []

-- the matrix in which the sheet's transformation is kept
abbrev pub sheet_matrix : Option Paper → ℕ
sheet_matrix sheet = for_paper sheet + 1

-- the dictionary that marks the beginning of a placed page
abbrev pub page_dictionary : Option Paper → ℕ
page_dictionary sheet = for_paper sheet + 2

-- the operator, as `load` finds it
abbrev pub operator : Option Object → Object
operator None = Procedure []
operator (Some o) = o

-- what the guard has defined, the latest first
abbrev pub guard_entries : Option Paper → List DictionaryEntry
guard_entries sheet =
    in_userdict (codes "save") (Procedure save_tokens)
    ∷ record { dictionary = page_dictionary sheet; key = codes "clip"; value = Procedure clip_tokens }
    ∷ in_userdict (codes "ImposeGuard") (Dictionary (page_dictionary sheet))
    ∷ in_userdict (codes "initgraphics") (Procedure initgraphics_tokens)
    ∷ in_userdict (codes "initclip") (Procedure initclip_tokens)
    ∷ in_userdict (codes "initmatrix") (Procedure initmatrix_tokens)
    ∷ in_userdict (codes "defaultmatrix") (Procedure defaultmatrix_tokens)
    ∷ in_userdict (codes "ImposePath") (Procedure pathforall_tokens)
    ∷ in_userdict (codes "ImposeClip") (Procedure clips_tokens)
    ∷ in_userdict (codes "ImposeOuter") (Plain (Number (codes "0")))
    ∷ in_userdict (codes "PStoPSclip") (Procedure sheet_outline_tokens)
    ∷ in_userdict (codes "PStoPSmatrix") (Matrix (sheet_matrix sheet))
    ∷ in_userdict (codes "setpagedevice") (Procedure setpagedevice_tokens)
    ∷ in_userdict (codes "ImposeDevice") (operator (system (codes "setpagedevice")))
    ∷ in_userdict (codes "erasepage") (Procedure [])
    ∷ in_userdict (codes "copypage") (Procedure [])
    ∷ in_userdict (codes "showpage") (Procedure showpage_tokens)
    ∷ in_userdict (codes "PStoPSenablepage") (Truth true)
    ∷ in_userdict (codes "ImposeShow") (operator (system (codes "showpage")))
    ∷ paper_entries sheet

-- a machine in which the guard alone has run
abbrev pub after_guard : Option Paper → List Token → State
after_guard sheet rest = record (started rest) {
  work = record {
    operands = [];
    dictionaries = userdict ∷ [];
    entries = guard_entries sheet;
    made = page_dictionary sheet;
  };
  kept = record { number = sheet_matrix sheet; chain = [] } ∷ [];
}

-- the guard ends between tokens; and a machine that begins with it has then defined its names, painted nothing, and
-- left all else as it was: a law
abbrev pub GuardDefines : Type 0
GuardDefines =
    (sheet : Option Paper) → EndsBetweenTokens (guard_text sheet)
    × ((rest : List Token) → Runs false (started (tokens (guard_text sheet) ++ rest)) (after_guard sheet rest))
