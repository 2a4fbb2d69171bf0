-- A page of a guarded document by itself. It begins with no matrix and no clip, with the names that the sheet's text
-- and the guard have put before it, and may run what a held machine may (`step` in Machine, with `held` true) and more:
-- its own `initgraphics`, `initclip` and `initmatrix` bring back that beginning; `currentmatrix`, `setmatrix` and
-- `defaultmatrix` keep transformations of its own; `grestoreall`, and more `grestore` than `gsave`, fall back to the
-- beginning.
use Rattle.std.specs.Prelude.{◌≡◌, ℕ, zero, suc, ◌+◌, List, [], ◌∷◌, ◌++◌, Bool, true, false, ◌&&◌, if◌then◌else◌}
use Rattle.std.specs.Prelude.{Option, Some, None, codes, bytes_eq, nat_lt, ◌==◌}
use Rattle.pictures.specs.Objects.{Token, Number, Name, Literal, Bound, Opens, Closes, Unknown, Object, Plain, Truth}
use Rattle.pictures.specs.Objects.{Procedure, Dictionary, Matrix, Saved, Operator, Kind, Looks, TakesMatrix, SetsMatrix, Call}
use Rattle.pictures.specs.Dictionaries.{DictionaryEntry, meaning, system}
use Rattle.pictures.specs.Chains.{is_same_chain}
use Rattle.pictures.specs.Machine.{State, Graphics, Segment, Snapshot, KeptMatrix, Painting, push, body_of, opened, chain_of}
use Rattle.pictures.specs.Machine.{viewed, reset, perform, may_precede, RunsBy}
use Rattle.pictures.specs.Sheets.{Numbers, zero_text, in_userdict, LeavesAsItWas}
use Rattle.pictures.specs.Unaware.{absent}
use Rattle.pictures.specs.AfterGuard.{pathforall_tokens, clips_tokens, initclip_tokens, initgraphics_tokens}

-- What is there.

-- round the paper, as the guard keeps it: a path that is drawn anew
abbrev pub outline_by : (width height : List ℕ) → List Token
outline_by width height =
    Number zero_text ∷ Number zero_text ∷ Name (codes "moveto")
    ∷ Number width ∷ Number zero_text ∷ Name (codes "lineto")
    ∷ Number width ∷ Number height ∷ Name (codes "lineto")
    ∷ Number zero_text ∷ Number height ∷ Name (codes "lineto") ∷ Name (codes "closepath") ∷ []

abbrev pub outline_tokens : Numbers → List Token
outline_tokens n = outline_by n.width n.height

-- A placed page round another one, as that one's sheet is a page of another document: the dictionary in which the guard
-- has kept what it noted of it, the matrix that holds its transformation, the numbers by which it is placed, and its
-- transformation
pub record Outer : Type 0 where
  pub dictionary : ℕ
  pub matrix : ℕ
  pub numbers : Numbers
  pub chain : List Call

-- what ImposeOuter means within these pages, the innermost first
abbrev pub outer_is : List Outer → Object
outer_is [] = Plain (Number zero_text)
outer_is (o ∷ os) = Dictionary o.dictionary

-- what the guard puts to keep the page that another one begins in
abbrev pub outer_entries : List Outer → List DictionaryEntry
outer_entries [] = []
outer_entries (o ∷ os) =
    in_userdict (codes "ImposeOuter") (Dictionary o.dictionary)
    ∷ record { dictionary = o.dictionary; key = codes "ImposeOuter"; value = outer_is os }
    ∷ record { dictionary = o.dictionary; key = codes "PStoPSclip"; value = Procedure (outline_tokens o.numbers) }
    ∷ record { dictionary = o.dictionary; key = codes "PStoPSmatrix"; value = Matrix o.matrix } ∷ []

-- how many dictionaries and matrices have been made then, if there were so many before
abbrev pub outer_made : List Outer → ℕ → ℕ
outer_made [] made = made
outer_made (o ∷ os) made = made + 1

-- the matrix in which the guard keeps the page's place
abbrev pub page_matrix : List Outer → State → ℕ
page_matrix outers s = outer_made outers s.work.made + 1

-- what the sheet's text has put before a page, the latest first
abbrev pub entries_put : State → List DictionaryEntry
entries_put s =
    in_userdict (codes "showpage") (Procedure []) ∷ in_userdict (codes "ImposeSave") (Saved s.level) ∷ s.work.entries

-- and the guard
abbrev pub page_entries : List Outer → State → List Token → List DictionaryEntry
page_entries outers s outline =
    in_userdict (codes "PStoPSenablepage") (Truth false)
    ∷ in_userdict (codes "PStoPSclip") (Procedure outline)
    ∷ in_userdict (codes "PStoPSmatrix") (Matrix (page_matrix outers s))
    ∷ (outer_entries outers ++ entries_put s)

-- with no matrix and no clip
abbrev pub beginning : State → Graphics
beginning s = record { chain = []; path = []; clip = []; settings = s.graphics.settings }

abbrev pub no_place : List Outer → State → List KeptMatrix
no_place outers s = record { number = page_matrix outers s; chain = [] } ∷ []

-- the save that the guard makes within a page: to it `grestoreall` falls back
abbrev pub page_save : List Outer → State → List Token → Snapshot
page_save outers s outline = record {
  level = s.level + 1;
  entries = page_entries outers s outline;
  made = page_matrix outers s;
  kept = no_place outers s;
  graphics = beginning s;
  stacked = [];
}

-- a page by itself, after the state s, on a paper with this outline, and in a document in which these pages are round
-- it, or none: nothing is known of the matrices that were filled before it
abbrev pub sheltered : List Outer → State → (outline body : List Token) → State
sheltered outers s outline body = record {
  left = body;
  work = record s.work { entries = page_entries outers s outline; made = page_matrix outers s };
  kept = no_place outers s;
  level = s.level + 1 + 1;
  graphics = beginning s;
  stacked = [];
  saves = page_save outers s outline ∷ [];
  painted = [];
  sheets = [];
}

-- What it does.

abbrev pub is_same_token : Token → Token → Bool
is_same_token (Number a) (Number b) = bytes_eq a b
is_same_token (Name a) (Name b) = bytes_eq a b
is_same_token (Literal a) (Literal b) = bytes_eq a b
is_same_token (Bound a) (Bound b) = bytes_eq a b
is_same_token Opens Opens = true
is_same_token Closes Closes = true
is_same_token t u = false

abbrev pub are_same_tokens : List Token → List Token → Bool
are_same_tokens [] [] = true
are_same_tokens (t ∷ ts) (u ∷ us) = is_same_token t u && are_same_tokens ts us
are_same_tokens ts us = false

abbrev pub is_procedure : Option Object → List Token → Bool
is_procedure (Some (Procedure ts)) us = are_same_tokens ts us
is_procedure o us = false

abbrev pub is_no_chain : Option (List Call) → Bool
is_no_chain (Some []) = true
is_no_chain x = false

-- a matrix that has been made holds the page's place: by itself, no matrix at all
abbrev pub holds_the_place : Option Object → (made : ℕ) → List KeptMatrix → Bool
holds_the_place (Some (Matrix number)) made ks = nat_lt number (made + 1) && is_no_chain (chain_of number ks)
holds_the_place o made ks = false

abbrev pub all_absent : List (List ℕ) → List ℕ → List DictionaryEntry → Bool
all_absent [] ds es = true
all_absent (name ∷ names) ds es = absent ds es name && all_absent names ds es

abbrev pub means : State → List ℕ → Option Object
means s name = meaning s.work.dictionaries s.work.entries name

-- the names that are looked up when the outline and a path are drawn, but for the guard's own
abbrev pub outline_names : List (List ℕ)
outline_names =
    codes "systemdict" ∷ codes "moveto" ∷ codes "lineto" ∷ codes "curveto" ∷ codes "closepath" ∷ []

abbrev pub is_zero_object : Option Object → Bool
is_zero_object (Some (Plain (Number text))) = bytes_eq text zero_text
is_zero_object o = false

abbrev pub is_dictionary : ℕ → Option Object → Bool
is_dictionary d (Some (Dictionary e)) = e == d
is_dictionary d o = false

abbrev pub is_matrix : ℕ → Option Object → Bool
is_matrix m (Some (Matrix number)) = number == m
is_matrix m o = false

-- the page has filled this matrix by nothing
abbrev pub is_unknown : Option (List Call) → Bool
is_unknown None = true
is_unknown (Some chain) = false

-- what the guard has kept of a page round this one is there, under these dictionaries
abbrev pub keeps_outer : Outer → List ℕ → ℕ → List DictionaryEntry → List KeptMatrix → Bool
keeps_outer o ds made es ks =
    is_matrix o.matrix (meaning ds es (codes "PStoPSmatrix"))
    && (nat_lt o.matrix (made + 1)
    && (is_unknown (chain_of o.matrix ks)
    && (is_procedure (meaning ds es (codes "PStoPSclip")) (outline_tokens o.numbers)
    && (is_procedure (meaning ds es (codes "ImposeClip")) clips_tokens && all_absent outline_names ds es))))

-- and of all of them
abbrev pub keeps_outers : List Outer → List ℕ → ℕ → List DictionaryEntry → List KeptMatrix → Bool
keeps_outers [] ds made es ks = is_zero_object (meaning ds es (codes "ImposeOuter"))
keeps_outers (o ∷ os) ds made es ks =
    is_dictionary o.dictionary (meaning ds es (codes "ImposeOuter"))
    && (keeps_outer o (o.dictionary ∷ ds) made es ks && keeps_outers os (o.dictionary ∷ ds) made es ks)

-- what the guard has kept of the page is there
abbrev pub keeps_the_page : List Outer → List Token → State → Bool
keeps_the_page outers outline s =
    holds_the_place (means s (codes "PStoPSmatrix")) s.work.made s.kept
    && (is_procedure (means s (codes "PStoPSclip")) outline
    && (is_procedure (means s (codes "ImposeClip")) clips_tokens
    && (is_procedure (means s (codes "ImposePath")) pathforall_tokens
    && (all_absent outline_names s.work.dictionaries s.work.entries
    && keeps_outers outers s.work.dictionaries s.work.made s.work.entries s.kept))))

abbrev pub is_empty_list : {A : Type 0} → List A → Bool
is_empty_list [] = true
is_empty_list (x ∷ xs) = false

-- the guard notes the transformation in a matrix that it makes for it
abbrev pub noting : State → State
noting s = record s {
  work = record s.work { made = s.work.made + 1 };
  kept = record { number = s.work.made + 1; chain = s.graphics.chain } ∷ s.kept;
}

-- so many numbers, and nothing else
abbrev pub are_so_many : ℕ → List Object → Bool
are_so_many zero [] = true
are_so_many (suc n) (Plain (Number text) ∷ os) = are_so_many n os
are_so_many n os = false

-- an element of a path that `pathforall` lists, with its numbers
abbrev pub is_element : List ℕ → List Object → Bool
is_element name os =
    if bytes_eq name (codes "moveto") then are_so_many 2 os
    else if bytes_eq name (codes "lineto") then are_so_many 2 os
    else if bytes_eq name (codes "curveto") then are_so_many 6 os
    else if bytes_eq name (codes "closepath") then are_so_many 0 os
    else false

-- the path is drawn anew by its elements: each was made under this transformation, and `pathforall` lists it
-- (`pathforall_tokens` in Machine)
abbrev pub is_drawn_anew : List Call → List Segment → (next : List ℕ) → Bool
is_drawn_anew chain [] next = true
is_drawn_anew chain (x ∷ xs) next =
    (is_element x.call.name x.call.operands && is_empty_list x.settings)
    && ((is_same_chain x.chain chain && may_precede x.call.name next) && is_drawn_anew chain xs x.call.name)

-- `initclip`: no clip is left, and the path stays
abbrev pub unclipped : State → State
unclipped s = noting (record s { graphics = record s.graphics { clip = [] } })

-- `initgraphics`
abbrev pub as_it_began : State → State
as_it_began s = reset s

-- a procedure is run: the guard's for `initclip` and `initgraphics` do what the operators do to a page that has no
-- place; any other is the next to run
abbrev pub entered : List Outer → (outline ts : List Token) → State → Option State
entered outers outline ts s =
    if are_same_tokens ts initclip_tokens
    then (if keeps_the_page outers outline s && is_drawn_anew s.graphics.chain s.graphics.path []
    then Some (unclipped s) else None)
    else if are_same_tokens ts initgraphics_tokens
    then (if keeps_the_page outers outline s then Some (as_it_began s) else None)
    else Some (record s { left = ts ++ s.left })

-- an operator: what a held machine does, and matrices of the page's own
abbrev pub performed : List ℕ → Kind → State → Option State
performed name (Looks TakesMatrix) s = viewed TakesMatrix name s.work.operands s
performed name (Looks SetsMatrix) s = viewed SetsMatrix name s.work.operands s
performed name k s = perform true name k s

abbrev pub did : List Outer → List Token → Object → State → Option State
did outers outline (Procedure ts) s = entered outers outline ts s
did outers outline (Plain (Name name)) s = Some (record s { left = Name name ∷ s.left })
did outers outline (Operator name k) s = performed name k s
did outers outline o s = Some (push o s)

abbrev pub meant_sheltered : List Outer → List Token → Option Object → State → Option State
meant_sheltered outers outline None s = None
meant_sheltered outers outline (Some o) s = did outers outline o s

abbrev pub act_sheltered : List Outer → List Token → Token → State → Option State
act_sheltered outers outline (Name name) s = meant_sheltered outers outline (means s name) s
act_sheltered outers outline (Bound name) s = meant_sheltered outers outline (system name) s
act_sheltered outers outline Opens s = opened (body_of s.left 0) s
act_sheltered outers outline Closes s = None
act_sheltered outers outline Unknown s = None
act_sheltered outers outline t s = Some (push (Plain t) s)

abbrev pub step_sheltered : List Outer → List Token → List Token → State → Option State
step_sheltered outers outline [] s = None
step_sheltered outers outline (t ∷ ts) s = act_sheltered outers outline t (record s { left = ts })

abbrev pub shelter_step : List Outer → List Token → State → Option State
shelter_step outers outline s = step_sheltered outers outline s.left s

abbrev pub RunsSheltered : List Outer → List Token → State → State → Type 0
RunsSheltered outers outline s t = RunsBy (shelter_step outers outline) s t

-- from a state after the preamble, or where a page of the sheet begins within these, the page paints this by itself
pub record PaintsSheltered (outers : List Outer) (s : State) (outline body : List Token) (picture : List Painting) : Type 0 where
  pub end : State
  pub run : RunsSheltered outers outline (sheltered outers s outline body) end
  pub leaves : LeavesAsItWas s end
  pub picture_is : end.painted ≡ picture
