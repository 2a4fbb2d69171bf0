-- A document with operators that the machine of crates/pictures lacks: its prolog sets a name of statusdict, its page shows
-- a text by xyshow. The open law holds of it, for a machine that has these two, and it says the picture that is written by hand.
use Rattle.std.proofs.Common.{◌≡◌, ℕ, List, [], ◌∷◌, refl, Some, None, true, false, Bool, subst, ap, ◌∙◌, true≢false, is_none}
use Rattle.std.specs.Prelude.{codes, Option, bytes_eq, if◌then◌else◌}
use Rattle.std.specs.Fmt.{digits}
use Rattle.rules.specs.Parts.{NestedUnit, preamble, bytes_of}
use Rattle.pictures.specs.Objects.{Number, Text, Literal, Plain, Array, Font, Truth, Dictionary, Call, Shows}
use Rattle.pictures.specs.Operators.{Work}
use Rattle.pictures.specs.Machine.{State, Painting, Clip, step}
use Rattle.pictures.specs.Scanner.{tokens}
use Rattle.pictures.specs.Sheets.{IsGround, sheet_names, in_userdict, run_of}
use Rattle.pictures.specs.Documents.{started, document_page, sheet_pictures, all_sheets}
use Rattle.pictures.specs.Unaware.{IsPlainGround}
use Rattle.pictures.proofs.Opening.{name_other, is_apart}
use Rattle.pictures.proofs.Examples.TwoUp.{lines, two_up, frame, call, number, segment, far}
use Rattle.pictures.proofs.Examples.Applied.{units}
use Rattle.open_pictures.specs.Machine.{Further, open_step, open_unaware_step, none_further}
use Rattle.open_pictures.specs.Blindness.{IsBlind}
use Rattle.open_pictures.specs.Operators.{Blind, Answer, by_table, only_names, answering, AsksForNone}
use Rattle.open_pictures.specs.Documents.{OpenPreambleRuns, OpenPagePrints, OpenIsPrinted}
use Rattle.open_pictures.proofs.Operators.{tables_are_blind, answers_ask_for_none, names_take_others, names_ask}
use Rattle.open_pictures.proofs.Nowhere.{placeless_runs_preambles}
use Rattle.pictures.proofs.Own.{nothing_behind}
use Rattle.open_pictures.proofs.Imposed.{open_sheets_show_the_pages}

abbrev document : List ℕ
document = lines (
    codes "%!PS-Adobe-3.0"
    ∷ codes "%%Pages: 1"
    ∷ codes "%%EndComments"
    ∷ codes "statusdict /duplexmode true put"
    ∷ codes "%%Page: 1 1"
    ∷ codes "save /Times-Roman findfont 12 scalefont setfont"
    ∷ codes "72 72 moveto (Two) [6 0 7 0 8 0] xyshow restore"
    ∷ codes "showpage"
    ∷ codes "%%Trailer"
    ∷ codes "%%EOF"
    ∷ [])

-- statusdict is a dictionary of the interpreter's: the first one besides userdict
abbrev work : Work
work = record {
  operands = [];
  dictionaries = 0 ∷ [];
  entries = in_userdict (codes "statusdict") (Dictionary 1) ∷ [];
  made = 1;
}

-- xyshow takes a string and an array, and answers nothing; it is a painting at the current point, as show is
abbrev nothing : Answer
nothing os settings = Some []

abbrev xyshow : Blind
xyshow = answering (codes "xyshow") 2 (Some Shows) nothing

abbrev names : List ℕ → Option Blind
names name = if bytes_eq name (codes "xyshow") then Some xyshow else None

asks_if : (b : Bool) (f : Blind) → (if b then Some xyshow else None) ≡ Some f → AsksForNone f
asks_if false f e = absurd (true≢false (ap is_none e))
asks_if true f e = subst (λ g. AsksForNone g) (ap blind_of e) (answers_ask_for_none (codes "xyshow") 2 (Some Shows) nothing)
  where
    blind_of : Option Blind → Blind
    blind_of None = xyshow
    blind_of (Some g) = g

abbrev x : Further
x = by_table (only_names names)

blind : IsBlind x
blind = tables_are_blind (only_names names) (names_take_others names) (names_ask names (λ name f e. asks_if (bytes_eq name (codes "xyshow")) f e))

abbrev us : List NestedUnit
us = units document

abbrev after_preamble : State
after_preamble = record (started []) {
  work = record work { entries = record { dictionary = 1; key = codes "duplexmode"; value = Truth true } ∷ work.entries };
}

ground : IsGround after_preamble
ground = record {
  names = λ name h.
      name_other (0 ∷ []) (record { dictionary = 1; key = codes "duplexmode"; value = Truth true }) (in_userdict (codes "statusdict") (Dictionary 1) ∷ []) name
      (is_apart (codes "duplexmode") name sheet_names refl h)
      ∙ name_other (0 ∷ []) (in_userdict (codes "statusdict") (Dictionary 1)) [] name (is_apart (codes "statusdict") name sheet_names refl h);
  operands = refl;
  dictionaries = refl;
  graphics = refl;
}

plain_ground : IsPlainGround after_preamble
plain_ground = record {
  ground = ground;
  stacked = refl;
  saves = refl;
  painted = refl;
  operands = refl;
  entries = refl;
  has_userdict = refl;
  no_showpage = refl;
  no_save = refl;
}

preamble_runs : OpenPreambleRuns x work IsGround (bytes_of (preamble us)) after_preamble
unfolding digits
preamble_runs = (refl, (4, refl), refl, refl, refl, ground)

abbrev picture : ℕ → List Painting
picture p = (far (open_unaware_step x) 20 (run_of (tokens (document_page us 0)) after_preamble)).painted

page_prints : OpenPagePrints x us after_preamble 0 (picture 0)
unfolding digits
page_prints = (
  refl,
  refl,
  record {
    at = far (open_unaware_step x) 20 (run_of (tokens (document_page us 0)) after_preamble);
    count = 20;
    run = refl;
    after = [];
    last = refl;
    has_userdict = refl;
    showpage = refl;
    picture_is = refl;
    ends = nothing_behind (open_step x false) (open_unaware_step x) after_preamble (far (open_unaware_step x) 20 (run_of (tokens (document_page us 0)) after_preamble)) refl refl refl refl refl;
  },
)

sheets_show_it : OpenIsPrinted x work frame None two_up us picture after_preamble
unfolding digits
sheets_show_it =
    open_sheets_show_the_pages x x work frame None two_up document us picture after_preamble blind (placeless_runs_preambles x blind.placeless) refl refl preamble_runs plain_ground
    ((page_prints, tt), tt)

-- and this is the picture, by hand

abbrev half : Call
half = call (codes "concat") (Array (
    Number (codes "0.5") ∷ Number (codes "0") ∷ Number (codes "0") ∷ Number (codes "0.5") ∷ Number (codes "0")
    ∷ Number (codes "0") ∷ []) ∷ [])

abbrev paper : Clip
paper = record {
  name = codes "clip";
  path =
      segment (half ∷ []) (codes "closepath") []
      ∷ segment (half ∷ []) (codes "lineto") (number (codes "300") ∷ number (codes "0") ∷ [])
      ∷ segment (half ∷ []) (codes "lineto") (number (codes "300") ∷ number (codes "200") ∷ [])
      ∷ segment (half ∷ []) (codes "lineto") (number (codes "0") ∷ number (codes "200") ∷ [])
      ∷ segment (half ∷ []) (codes "moveto") (number (codes "0") ∷ number (codes "0") ∷ []) ∷ [];
}

abbrev text : Painting
text = record {
  call = call (codes "xyshow") (Array (
      Number (codes "6") ∷ Number (codes "0") ∷ Number (codes "7") ∷ Number (codes "0") ∷ Number (codes "8")
      ∷ Number (codes "0") ∷ []) ∷ Plain (Text (codes "Two")) ∷ []);
  graphics = record {
    chain = half ∷ [];
    path = segment (half ∷ []) (codes "moveto") (number (codes "72") ∷ number (codes "72") ∷ []) ∷ [];
    clip = paper ∷ [];
    settings = call (codes "setfont") (Font (Number (codes "12") ∷ Literal (codes "Times-Roman") ∷ []) ∷ []) ∷ [];
  };
}

this_picture : sheet_pictures frame.border us picture after_preamble (all_sheets frame None two_up us) ≡ (text ∷ []) ∷ []
unfolding digits
this_picture = refl

-- with no further operators the machine stops at both

no_statusdict : open_step none_further false (started (tokens (codes "statusdict"))) ≡ None
no_statusdict = refl

no_xyshow : step false (record after_preamble { left = tokens (codes "xyshow") }) ≡ None
no_xyshow = refl
