-- Two states beside each other: that in which the document itself has come to a page, and that in which the page is
-- placed, which has the names that the sheet's text puts, and one save more in force.
use Rattle.std.specs.Prelude.{◌≡◌, ℕ, ◌+◌, List, [], ◌∷◌, map, option_map, codes}
use Rattle.pictures.specs.Objects.{Object, Procedure, Saved}
use Rattle.pictures.specs.Dictionaries.{DictionaryEntry, dictionary_entry, or}
use Rattle.pictures.specs.Operators.{Work}
use Rattle.pictures.specs.Machine.{State, Snapshot}
use Rattle.pictures.specs.Sheets.{in_userdict}

-- a save is of one level more
abbrev pub one_save_more : Object → Object
one_save_more (Saved level) = Saved (level + 1)
one_save_more o = o

abbrev pub ups : List Object → List Object
ups os = map one_save_more os

-- the entries that the sheet's text puts
abbrev pub two : ℕ → List DictionaryEntry
two level = in_userdict (codes "showpage") (Procedure []) ∷ in_userdict (codes "ImposeSave") (Saved level) ∷ []

-- what the first entries have is what the others have, with such saves, and those that are put besides
abbrev pub AgreeShifted : ℕ → List DictionaryEntry → List DictionaryEntry → Type 0
AgreeShifted n es fs = (d : ℕ) (k : List ℕ) → dictionary_entry d k es ≡ or (option_map one_save_more (dictionary_entry d k fs)) (dictionary_entry d k (two n))

abbrev pub up_work : List DictionaryEntry → Work → Work
up_work es w = record { operands = ups w.operands; dictionaries = w.dictionaries; entries = es; made = w.made }

abbrev pub up_shot : List DictionaryEntry → Snapshot → Snapshot
up_shot es b = record {
  level = b.level + 1;
  entries = es;
  made = b.made;
  kept = b.kept;
  graphics = b.graphics;
  stacked = b.stacked;
}

abbrev pub up_shots : List (List DictionaryEntry) → List Snapshot → List Snapshot
up_shots [] bs = []
up_shots (es ∷ ess) [] = []
up_shots (es ∷ ess) (b ∷ bs) = up_shot es b ∷ up_shots ess bs

-- there are entries for each save, which agree with its own
abbrev pub AllAgree : ℕ → List (List DictionaryEntry) → List Snapshot → Type 0
AllAgree n [] [] = Unit {0}
AllAgree n [] (b ∷ bs) = ⊥
AllAgree n (es ∷ ess) [] = ⊥
AllAgree n (es ∷ ess) (b ∷ bs) = AgreeShifted n es b.entries × AllAgree n ess bs

-- the state with these entries, and its saves with those, all one level further in; nothing has been printed there
abbrev pub up_state : List DictionaryEntry → List (List DictionaryEntry) → State → State
up_state es ess s = record {
  left = s.left;
  work = up_work es s.work;
  kept = s.kept;
  level = s.level + 1;
  graphics = s.graphics;
  stacked = s.stacked;
  saves = up_shots ess s.saves;
  painted = s.painted;
  sheets = [];
}
