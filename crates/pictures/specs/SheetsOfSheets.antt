-- Sheets of sheets: the sheets of one document are the pages of another one, which is imposed with the guard too. Each
-- page is in its inner place, and with that in the outer one.
use Rattle.std.specs.Prelude.{◌≡◌, ℕ, ◌+◌, ◌<◌, List, [], ◌∷◌, ◌++◌, map, Bool, true, false, not, ◌&&◌, ◌||◌, ◌==◌}
use Rattle.std.specs.Prelude.{zero, suc, Option, Some, codes, nat_lt}
use Rattle.rules.specs.Specification.{Item}
use Rattle.rules.specs.Parts.{NestedUnit}
use Rattle.rules.specs.Output.{Frame}
use Rattle.rules.specs.Papers.{Paper}
use Rattle.pictures.specs.Dictionaries.{DictionaryEntry, userdict, system, dictionary_entry, has}
use Rattle.pictures.specs.Objects.{Token}
use Rattle.pictures.specs.Machine.{State, Painting, Graphics, Runs}
use Rattle.pictures.specs.Placing.{Place, graphics_at, picture_at}
use Rattle.pictures.specs.Scanner.{tokens, EndsBetweenTokens}
use Rattle.pictures.specs.Sheets.{Numbers, among, Shown, AllOf, run_of, placed_tokens, place_in, page_picture, sheet_picture, sheet_tokens}
use Rattle.pictures.specs.Pictures.{printed_sheets, sheets_tokens}
use Rattle.pictures.specs.Documents.{numbers_of, document_page}
use Rattle.pictures.specs.Kept.{page_comments_apart}
use Rattle.pictures.specs.Shelter.{Outer, outer_is, means, outline_tokens, page_matrix, beginning, sheltered}
use Rattle.pictures.specs.Shelter.{PaintsSheltered}
use Rattle.pictures.specs.AfterGuard.{after_guard}
use Rattle.pictures.specs.Pages.{IsGuarded, TakesPages, AllSheltered, placed_at, around, outline_of}
use Rattle.pictures.specs.Pages.{guarded_names, defined}

-- A page that a sheet of another document is.

-- the page that is placed by these numbers, as one round those of its sheet
abbrev pub page_round : List Outer → State → Numbers → Outer
page_round outers s n = record {
  dictionary = page_matrix outers s + 1;
  matrix = page_matrix outers s;
  numbers = n;
  chain = (place_in s.graphics n).chain;
}

-- where it begins, in its place
abbrev pub page_begun : List Outer → State → Numbers → State
page_begun outers s n = placed_at (around [] n s) (sheltered outers s (outline_tokens n) [])

-- the sheet as the page's tokens, and as its picture: that of a sheet by itself
abbrev pub sheet_as_page : State → Numbers → List Shown → Shown
sheet_as_page s n xs = record {
  placed = record { numbers = n; body = sheet_tokens (map (λ x. x.placed) xs) };
  picture = sheet_picture (beginning s) xs [];
}

-- What is asked of the state in which it is placed.

-- no dictionary above userdict on the stack has the name
abbrev pub none_above : List ℕ → List ℕ → List DictionaryEntry → Bool
none_above name [] es = false
none_above name (d ∷ ds) es = (userdict == d) || (not (has (dictionary_entry d name es)) && none_above name ds es)

abbrev pub none_above_of : List (List ℕ) → List ℕ → List DictionaryEntry → Bool
none_above_of [] ds es = true
none_above_of (name ∷ names) ds es = none_above name ds es && none_above_of names ds es

-- the names that the sheet's text and the guard put where a page begins
abbrev pub put_there : List (List ℕ)
put_there =
    codes "PStoPSenablepage" ∷ codes "PStoPSmatrix" ∷ codes "PStoPSclip" ∷ codes "ImposeOuter" ∷ codes "showpage"
    ∷ codes "ImposeSave" ∷ []

-- outside all pages ImposeOuter means that there are none
abbrev pub IsOutermost : List Outer → State → Type 0
IsOutermost [] s = means s (codes "ImposeOuter") ≡ Some (outer_is [])
IsOutermost (o ∷ os) s = Unit {0}

-- the matrices of the pages round it have been made
abbrev pub AllOlder : List Outer → ℕ → Type 0
AllOlder [] made = Unit {0}
AllOlder (o ∷ os) made = (o.matrix < made + 1) × AllOlder os made

-- no dictionary has anything that hasn't been made
abbrev pub none_newer : ℕ → List DictionaryEntry → Bool
none_newer made [] = true
none_newer made (e ∷ es) = nat_lt e.dictionary (made + 1) && none_newer made es

-- besides all that is asked where pages are placed: the names that are put there mean what is put; `restore` means the
-- operator; and the dictionaries that are made next are new
pub record TakesSheets (outers : List Outer) (s : State) : Type 0 where
  pub takes : TakesPages outers s
  pub above : none_above_of put_there s.work.dictionaries s.work.entries ≡ true
  pub outermost : IsOutermost outers s
  pub restore_is : means s (codes "restore") ≡ system (codes "restore")
  pub new : none_newer s.work.made s.work.entries ≡ true
  pub older : AllOlder outers s.work.made

-- What such a state is come to by.

-- after the guard's text sheets of sheets can be placed: a law
abbrev pub GuardTakesSheets : Type 0
GuardTakesSheets = (sheet : Option Paper) (rest : List Token) → TakesSheets [] (after_guard sheet rest)

-- the names that it rests on
abbrev pub taken_names : List (List ℕ)
taken_names =
    codes "restore" ∷ codes "ImposeSave" ∷ codes "ImposeOuter" ∷ codes "PStoPSmatrix" ∷ codes "PStoPSclip" ∷ guarded_names

-- where any other name is defined, in any dictionary that has been made, it stays so: a law
abbrev pub StaysTakingSheets : Type 0
StaysTakingSheets =
    (s : State) (e : DictionaryEntry) → TakesSheets [] s → among e.key taken_names ≡ false → e.dictionary < s.work.made + 1
    → TakesSheets [] (defined e s)

-- The laws.

-- a sheet of another document, placed as a page, paints its own picture, placed, if each of its pages, within this one,
-- paints its own: a law. Its `showpage` prints nothing
abbrev pub SheetIsPlaced : Type 0
SheetIsPlaced =
    (outers : List Outer) (s : State) (n : Numbers) (xs : List Shown) (rest : List Token) → TakesSheets outers s
    → AllSheltered (page_round outers s n ∷ outers) (page_begun outers s n) xs
    → Runs false (run_of (placed_tokens (sheet_as_page s n xs).placed ++ rest) s)
    (record s { left = rest; painted = page_picture s.graphics (sheet_as_page s n xs) ++ s.painted })

-- a sheet's picture, placed, is that of a sheet in that place: each of its pages is placed by its own matrix, and then by
-- the sheet's, and clipped by its own paper's edge, and then by the outer one's: a law
abbrev pub SheetIsComposed : Type 0
SheetIsComposed =
    (p : Place) (g : Graphics) (xs : List Shown)
    → picture_at p (sheet_picture g xs []) ≡ sheet_picture (graphics_at p g) xs []

-- a sheet that is a page of an outer one, by the numbers by which it is placed there, and its own pages
pub record Inner : Type 0 where
  pub numbers : Numbers
  pub pages : List Shown

abbrev pub as_pages : State → List Inner → List Shown
as_pages s xs = map (λ x. sheet_as_page s x.numbers x.pages) xs

-- each of its pages, within it, paints its picture by itself
abbrev pub AllWithin : State → Inner → Type 0
AllWithin s x = AllSheltered (page_round [] s x.numbers ∷ []) (page_begun [] s x.numbers) x.pages

-- sheets of sheets are printed, each with the pictures of its sheets, placed: a law
abbrev pub SheetsOfSheetsArePrinted : Type 0
SheetsOfSheetsArePrinted =
    (s : State) (xs : List (List Inner)) (rest : List Token) → IsGuarded s → TakesSheets [] s → s.painted ≡ []
    → AllOf (AllOf (AllWithin s)) xs
    → Runs false (run_of (sheets_tokens (map (as_pages s) xs) ++ rest) s)
    (record s { left = rest; sheets = printed_sheets s.graphics (map (as_pages s) xs) s.sheets })

-- Any number of runs.

-- a page, or a sheet of such, so many times; a sheet with the numbers by which it is placed
abbrev pub Nest : ℕ → Type 0
Nest zero = Shown
Nest (suc depth) = Numbers × List (Nest depth)

-- as a page, where the graphics state is this
abbrev pub nest_as_page : (depth : ℕ) → Graphics → Nest depth → Shown
nest_as_page zero g x = x
nest_as_page (suc depth) g (n, xs) = record {
  placed = record { numbers = n; body = sheet_tokens (map (λ x. x.placed) (map (nest_as_page depth g) xs)) };
  picture = sheet_picture g (map (nest_as_page depth g) xs) [];
}

-- each of its pages, within all sheets round it, paints its picture by itself
abbrev pub PaintsNested : (depth : ℕ) → List Outer → State → Nest depth → Type 0
PaintsNested zero outers s x = PaintsSheltered outers s (outline_tokens x.placed.numbers) x.placed.body x.picture
PaintsNested (suc depth) outers s (n, xs) = AllOf (PaintsNested depth (page_round outers s n ∷ outers) (page_begun outers s n)) xs

-- where sheets can be placed, they can be placed within a page: a law
abbrev pub SheetsAreTakenWithin : Type 0
SheetsAreTakenWithin =
    (outers : List Outer) (s : State) (n : Numbers) → TakesSheets outers s
    → TakesSheets (page_round outers s n ∷ outers) (page_begun outers s n)

-- so what was imposed any number of times is printed, each sheet with the pictures of its sheets, placed: a law
abbrev pub NestsArePrinted : Type 0
NestsArePrinted =
    (depth : ℕ) (s : State) (xs : List (List (Nest depth))) (rest : List Token) → IsGuarded s → TakesSheets [] s
    → s.painted ≡ [] → AllOf (AllOf (PaintsNested depth [] s)) xs
    → Runs false (run_of (sheets_tokens (map (map (nest_as_page depth (beginning s))) xs) ++ rest) s)
    (record s { left = rest; sheets = printed_sheets s.graphics (map (map (nest_as_page depth (beginning s))) xs) s.sheets })

-- Two runs: impose puts the guard into what a run wrote, and imposes it.

-- the page, as the first document has it, paints this by itself within whatever place on the outer paper; its text ends
-- between tokens, and so does what comes before each of its lines that is dropped
abbrev pub PagePaintsWithin : (inner : Frame) → List NestedUnit → (outer : Frame) → State → ℕ → List Painting → Type 0
PagePaintsWithin inner us outer s p picture =
    EndsBetweenTokens (document_page us p) × (page_comments_apart (document_page us p) ≡ true)
    × ((item : Item)
    → PaintsSheltered (page_round [] s (numbers_of outer item) ∷ []) (page_begun [] s (numbers_of outer item))
    (outline_of inner) (tokens (document_page us p)) picture)
