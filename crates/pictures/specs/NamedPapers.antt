-- The guard's line for the papers' names, which printers and interpreters have as operators that set the page.
use Rattle.std.specs.Prelude.{◌≡◌, ℕ, List, [], ◌∷◌, ◌++◌, map, flat_map, take, drop, codes, true, false, Option, Some, None}
use Rattle.rules.specs.Bytes.{line}
use Rattle.guard.specs.Guard.{other_lines}
use Rattle.pictures.specs.Objects.{Token, Literal, Name, Bound, Opens, Closes, Procedure}
use Rattle.pictures.specs.Dictionaries.{DictionaryEntry, userdict}
use Rattle.pictures.specs.Operators.{bound_token, holder}
use Rattle.pictures.specs.Machine.{State, Runs}
use Rattle.pictures.specs.Scanner.{tokens}
use Rattle.pictures.specs.Sheets.{run_of, among, in_userdict}
use Rattle.pictures.specs.Documents.{started}
use Rattle.pictures.specs.Shelter.{Outer, means, RunsSheltered}

abbrev pub paper_names : List (List ℕ)
paper_names =
    codes "letter" ∷ codes "lettersmall" ∷ codes "legal" ∷ codes "ledger" ∷ codes "tabloid" ∷ codes "11x17" ∷ codes "note"
    ∷ codes "a3" ∷ codes "a4" ∷ codes "a4small" ∷ codes "a5" ∷ codes "b4" ∷ codes "b5" ∷ codes "executivepage"
    ∷ codes "folio" ∷ codes "quarto" ∷ codes "halfletter" ∷ codes "com10envelope" ∷ codes "monarchenvelope"
    ∷ codes "c5envelope" ∷ codes "dlenvelope" ∷ []

-- `dup where {pop {} def} {pop} ifelse`
abbrev pub each_paper : List Token
each_paper =
    Bound (codes "dup") ∷ Bound (codes "where")
    ∷ Opens ∷ Bound (codes "pop") ∷ Opens ∷ Closes ∷ Bound (codes "def") ∷ Closes
    ∷ Opens ∷ Bound (codes "pop") ∷ Closes ∷ Bound (codes "ifelse") ∷ []

-- `[/letter ..] {dup where {pop {} def} {pop} ifelse} forall`, as `bind` has left it
abbrev pub papers_tokens : List Token
papers_tokens =
    Bound (codes "[") ∷ (map Literal paper_names
    ++ (Bound (codes "]") ∷ Opens ∷ (each_paper ++ (Closes ∷ Bound (codes "forall") ∷ []))))

-- the lines of the guard's text that it is made of
abbrev pub papers_lines : List (List ℕ)
papers_lines = take 3 (drop 9 other_lines)

-- a name that is there is defined to do nothing
abbrev pub left_if : Option ℕ → List ℕ → List DictionaryEntry → List DictionaryEntry
left_if None name es = es
left_if (Some d) name es = in_userdict name (Procedure []) ∷ es

abbrev pub papers_left : List (List ℕ) → List ℕ → List DictionaryEntry → List DictionaryEntry
papers_left [] ds es = es
papers_left (name ∷ names) ds es = papers_left names ds (left_if (holder ds es name) name es)

abbrev pub behind_papers : State → List Token → State
behind_papers s rest = record s {
  left = rest;
  work = record s.work { entries = papers_left paper_names s.work.dictionaries s.work.entries };
}

-- The line does this, wherever userdict is on top of the stack, whatever names are there: a law. After it a paper's name
-- that was there means a procedure that does nothing, and one that wasn't isn't there
abbrev pub PapersAreLeft : Type 0
PapersAreLeft =
    (map (bound_token (started []).work) (tokens (flat_map line papers_lines)) ≡ papers_tokens)
    × ((s : State) (ds : List ℕ) (rest : List Token) → s.work.dictionaries ≡ userdict ∷ ds
    → Runs false (run_of (papers_tokens ++ rest) s) (behind_papers s rest)
    × ((name : List ℕ) (d : ℕ) → among name paper_names ≡ true
    → holder s.work.dictionaries s.work.entries name ≡ Some d
    → means (behind_papers s rest) name ≡ Some (Procedure []))
    × ((name : List ℕ) → holder s.work.dictionaries s.work.entries name ≡ None
    → holder s.work.dictionaries (behind_papers s rest).work.entries name ≡ None))

-- So a page that names a paper paints what it paints by itself without the name, there and in its place: a law
abbrev pub PaperIsNothing : Type 0
PaperIsNothing =
    (s : State) (name : List ℕ) (rest : List Token) → means s name ≡ Some (Procedure [])
    → Runs false (run_of (Name name ∷ rest) s) (run_of rest s)
    × ((outers : List Outer) (outline : List Token)
    → RunsSheltered outers outline (run_of (Name name ∷ rest) s) (run_of rest s))
