-- The lines by which a sheet sets its page size, if the sheets are reported as several papers.
use Rattle.std.specs.Prelude.{◌≡◌, ℕ, ◌+◌, List, [], ◌∷◌, ◌++◌, true, false, Some, codes}
use Rattle.rules.specs.Numbers.{points_text}
use Rattle.rules.specs.Papers.{Paper}
use Rattle.rules.specs.Dress.{lines_text}
use Rattle.papers.specs.Reported.{page_size_lines}
use Rattle.pictures.specs.Objects.{Token, Number, Bound, Truth, Array, Dictionary}
use Rattle.pictures.specs.Dictionaries.{DictionaryEntry, system}
use Rattle.pictures.specs.Machine.{State, push, Runs}
use Rattle.pictures.specs.Scanner.{tokens}
use Rattle.pictures.specs.Sheets.{run_of, among}
use Rattle.pictures.specs.Shelter.{means}

-- these names mean the operators
abbrev pub MeanOperators : List (List ℕ) → State → Type 0
MeanOperators names s = (name : List ℕ) → among name names ≡ true → means s name ≡ system name

-- those that the lines use
abbrev pub sizing_names : List (List ℕ)
sizing_names =
    codes "where" ∷ codes "pop" ∷ codes "ifelse" ∷ codes "systemdict" ∷ codes "known" ∷ codes "and" ∷ codes "if"
    ∷ codes "dict" ∷ codes "dup" ∷ codes "[" ∷ codes "]" ∷ codes "put" ∷ codes "get" ∷ codes "exec" ∷ []

-- `/PageSize [width height]` in a dictionary
abbrev pub size_by : (width height : List ℕ) → ℕ → DictionaryEntry
size_by width height d =
    record { dictionary = d; key = codes "PageSize"; value = Array (Number width ∷ Number height ∷ []) }

-- with one dictionary more, which has this size, and is on no stack
abbrev pub sized_by : (width height : List ℕ) → State → State
sized_by width height s = record s {
  work = record s.work {
    entries = size_by width height (s.work.made + 1) ∷ s.work.entries;
    made = s.work.made + 1;
  };
}

-- the state after a sheet of this paper has set its size
abbrev pub sized : Paper → State → State
sized paper s = sized_by (points_text paper.width) (points_text paper.height) s

-- Outside all pages the lines call the operator `setpagedevice` with that dictionary: a law
abbrev pub DeviceSizeIsSet : Type 0
DeviceSizeIsSet =
    (s : State) (paper : Paper) (rest : List Token) → MeanOperators sizing_names s
    → means s (codes "PStoPSenablepage") ≡ Some (Truth true)
    → Runs false (run_of (tokens (lines_text (page_size_lines paper)) ++ rest) s)
    (run_of (Bound (codes "setpagedevice") ∷ rest) (push (Dictionary (s.work.made + 1)) (sized paper s)))

-- the state in which the pages of a sheet begin, if the sheets are reported as these papers: each sets its size if they
-- are several
abbrev pub begun_on : (reported : List Paper) → Paper → State → State
begun_on (p ∷ q ∷ ps) paper s = sized paper s
begun_on reported paper s = s
