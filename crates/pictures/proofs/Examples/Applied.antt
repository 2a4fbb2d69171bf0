-- What an application of the laws to a document needs: its units, the state after its preamble, its pages' own
-- runs.
use Rattle.std.proofs.Common.{◌≡◌, ℕ, List, [], ◌∷◌, refl, ap, Some, None, true}
use Rattle.std.specs.Prelude.{codes, Result, Ok, Err, Option}
use Rattle.rules.specs.Parts.{NestedUnit}
use Rattle.rules.specs.Run.{document_of, DocumentFault}
use Rattle.pictures.specs.Objects.{Name, Call}
use Rattle.pictures.specs.Dictionaries.{DictionaryEntry, meaning, system, dictionary_entry}
use Rattle.pictures.specs.Machine.{State, Graphics, Painting, fonts, steps}
use Rattle.pictures.specs.Scanner.{tokens, EndsBetweenTokens}
use Rattle.pictures.specs.Kept.{page_comments_apart}
use Rattle.pictures.specs.Sheets.{IsGround, run_of}
use Rattle.pictures.specs.Documents.{started, document_page}
use Rattle.pictures.specs.Unaware.{IsPlainGround, PagePrintsBy, absent, none_before, no_saved_in}
use Rattle.pictures.proofs.Own.{nothing_behind}

abbrev units_of : Result (List NestedUnit) DocumentFault → List NestedUnit
units_of (Ok us) = us
units_of (Err e) = []

abbrev pub units : List ℕ → List NestedUnit
units document = units_of (document_of document)

-- the state after a preamble that has set this and defined these names
abbrev pub behind : (settings : List Call) → List DictionaryEntry → State
behind settings es = record (started []) {
  work = record { operands = []; dictionaries = 0 ∷ []; entries = es; made = 0 };
  graphics = record { chain = []; path = []; clip = []; settings = settings };
}

pub plain_ground :
    (settings : List Call) (es : List DictionaryEntry) → IsGround (behind settings es) → no_saved_in es ≡ true
    → dictionary_entry 0 (codes "showpage") es ≡ None → dictionary_entry 0 (codes "ImposeSave") es ≡ None
    → IsPlainGround (behind settings es)
plain_ground settings es ground saved showpage save = record {
  ground = ground;
  stacked = refl;
  saves = refl;
  painted = refl;
  operands = refl;
  entries = saved;
  has_userdict = refl;
  no_showpage = showpage;
  no_save = save;
}

-- one that has defined no names, and set fonts at most
pub bare_ground : (settings : List Call) → fonts settings ≡ settings → IsGround (behind settings [])
bare_ground settings same =
    record { names = λ name h. refl; operands = refl; dictionaries = refl; graphics = ap (λ cs. record { chain = []; path = []; clip = []; settings = cs }) same }

pub bare : (settings : List Call) → fonts settings ≡ settings → IsPlainGround (behind settings [])
bare settings same = plain_ground settings [] (bare_ground settings same) refl refl refl

-- a page that leaves all names as they were prints itself, if it runs up to its showpage
pub page_prints :
    (free unaware : State → Option State) (us : List NestedUnit) (s : State) (p count : ℕ) (graphics : Graphics) (picture : List Painting) → IsPlainGround s
    → absent s.work.dictionaries s.work.entries (codes "showpage") ≡ true
    → absent s.work.dictionaries s.work.entries (codes "ImposeSave") ≡ true
    → meaning s.work.dictionaries s.work.entries (codes "restore") ≡ system (codes "restore")
    → EndsBetweenTokens (document_page us p) → page_comments_apart (document_page us p) ≡ true
    → steps unaware count (run_of (tokens (document_page us p)) s)
    ≡ Some (record s { left = Name (codes "showpage") ∷ []; graphics = graphics; painted = picture })
    → PagePrintsBy free unaware us s p picture
page_prints free unaware us s p count graphics picture ground showpage save restore complete apart run = (
  complete,
  apart,
  record {
    at = record s { left = Name (codes "showpage") ∷ []; graphics = graphics; painted = picture };
    count = count;
    run = run;
    after = [];
    last = refl;
    has_userdict = ground.has_userdict;
    showpage = showpage;
    picture_is = refl;
    ends = nothing_behind free unaware s (record s { left = Name (codes "showpage") ∷ []; graphics = graphics; painted = picture })
        refl refl (ap (none_before s.level) ground.saves) save restore;
  },
)
