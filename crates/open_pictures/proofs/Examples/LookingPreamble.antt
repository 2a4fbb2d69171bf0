-- A preamble that looks at where it is, and keeps the answer; its page has no further operators. The law holds of it.
use Rattle.std.proofs.Common.{◌≡◌, ◌∙◌, ℕ, Bool, List, [], ◌∷◌, ◌++◌, refl, Some, None, true, false, ap, length, true≢false, is_none}
use Rattle.std.specs.Prelude.{codes, Option, bytes_eq, if◌then◌else◌, decimal, option_map}
use Rattle.std.specs.Fmt.{digits}
use Rattle.rules.specs.Parts.{NestedUnit, preamble, bytes_of}
use Rattle.pictures.specs.Objects.{Token, Number, Plain, Name, Object}
use Rattle.pictures.specs.Dictionaries.{DictionaryEntry, meaning}
use Rattle.pictures.specs.Machine.{State, Graphics, Painting, push, meant, step_on}
use Rattle.pictures.specs.Sheets.{IsGround, sheet_names, in_userdict, with_more}
use Rattle.pictures.specs.Unaware.{IsPlainGround}
use Rattle.pictures.proofs.Opening.{name_other, is_apart}
use Rattle.pictures.proofs.Examples.TwoUp.{call, number, segment}
use Rattle.pictures.proofs.Examples.Premises.{document_with, half, frame}
use Rattle.pictures.proofs.Examples.Applied.{units, behind, plain_ground, page_prints}
use Rattle.open_pictures.specs.Machine.{Further, open_step, open_unaware_step, none_further}
use Rattle.open_pictures.specs.Blindness.{IsBlind, SeesNothingAfter, RunsPreambles}
use Rattle.open_pictures.specs.Documents.{plain_work, OpenPreambleRuns, OpenPagePrints, OpenIsPrinted}
use Rattle.open_pictures.proofs.Imposed.{open_sheets_show_the_pages}

-- `transform` answers the number of matrices that are concatenated, unless a dictionary has the name
abbrev looks : Option Object → State → Option State
looks None s = Some (push (Plain (Number (decimal (length s.graphics.chain)))) s)
looks (Some o) s = None

abbrev asked : List Token → State → Option State
asked (Name name ∷ ts) s =
    if bytes_eq name (codes "transform") then looks (meaning s.work.dictionaries s.work.entries name) (record s { left = ts }) else None
asked ts s = None

abbrev z : Further
z s = asked s.left s

never : {A : Type 0} (x : A) → None ≡ Some x → ⊥
never x e = true≢false (ap is_none e)

by_name : (name : List ℕ) (ts more : List Token) (s t : State) (b : Bool) (o : Option Object) → meaning s.work.dictionaries s.work.entries name ≡ o
    → (if b then looks o (record s { left = ts }) else None) ≡ Some t
    → (meant false (meaning s.work.dictionaries s.work.entries name) (record s { left = ts ++ more }) ≡ None)
    × ((if b then looks (meaning s.work.dictionaries s.work.entries name) (record s { left = ts ++ more }) else None) ≡ Some (with_more more t))
by_name name ts more s t false o e k = absurd (never t k)
by_name name ts more s t true (Some o) e k = absurd (never t k)
by_name name ts more s t true None e k = (
  ap (λ r. meant false r (record s { left = ts ++ more })) e,
  ap (λ r. looks r (record s { left = ts ++ more })) e ∙ ap (option_map (with_more more)) k,
)

sees_on : (ts more : List Token) (s t : State) → asked ts s ≡ Some t
    → (step_on false (ts ++ more) (with_more more s) ≡ None) × (asked (ts ++ more) (with_more more s) ≡ Some (with_more more t))
sees_on [] more s t k = absurd (never t k)
sees_on (Name name ∷ ts) more s t k = by_name name ts more s t (bytes_eq name (codes "transform")) (meaning s.work.dictionaries s.work.entries name) refl k
sees_on (u ∷ ts) more s t k = absurd (never t k)

sees_nothing : SeesNothingAfter z
sees_nothing more s t e k = sees_on s.left more s t k

runs : RunsPreambles none_further z
runs = record { extends = λ s t e k. absurd (never t k); sees_nothing_after = sees_nothing }

abbrev document : List ℕ
document = document_with (codes "/h transform def") (codes "0 0 moveto 9 h lineto stroke" ∷ [])

abbrev us : List NestedUnit
us = units document

abbrev prolog : List DictionaryEntry
prolog = in_userdict (codes "h") (number (codes "0")) ∷ []

abbrev ready : State
ready = behind [] prolog

ground : IsGround ready
ground = record {
  names = λ name h. name_other (0 ∷ []) (in_userdict (codes "h") (number (codes "0"))) [] name (is_apart (codes "h") name sheet_names refl h);
  operands = refl;
  dictionaries = refl;
  graphics = refl;
}

plain : IsPlainGround ready
plain = plain_ground [] prolog ground refl refl refl

preamble_runs : OpenPreambleRuns z plain_work IsGround (bytes_of (preamble us)) ready
unfolding digits
preamble_runs = (refl, (3, refl), refl, refl, refl, ground)

abbrev as_before : Graphics
as_before = record { chain = []; path = []; clip = []; settings = [] }

-- a line at the height that the preamble kept
abbrev picture : ℕ → List Painting
picture p = record {
  call = call (codes "stroke") [];
  graphics = record as_before {
    path =
        segment [] (codes "lineto") (number (codes "0") ∷ number (codes "9") ∷ [])
        ∷ segment [] (codes "moveto") (number (codes "0") ∷ number (codes "0") ∷ []) ∷ [];
  };
} ∷ []

page : OpenPagePrints none_further us ready 0 (picture 0)
unfolding digits
page = page_prints (open_step none_further false) (open_unaware_step none_further) us ready 0 7 as_before (picture 0) plain refl refl refl refl refl refl

none_is_blind : IsBlind none_further
none_is_blind = record { placeless = λ a s t e k. absurd (never t k); unaware = λ n s t es ess e k a h. absurd (never t k) }

by_the_law : OpenIsPrinted z plain_work frame None half us picture ready
unfolding digits
by_the_law =
    open_sheets_show_the_pages none_further z plain_work frame None half document us picture ready none_is_blind runs refl refl preamble_runs plain
    ((page, tt), tt)
