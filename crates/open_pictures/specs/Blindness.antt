-- What is asked of the further operators of pages: that they see neither where the page is nor the names that the sheet's
-- text puts. A preamble may have more.
use Rattle.std.specs.Prelude.{◌≡◌, ℕ, List, Some, None, false}
use Rattle.pictures.specs.Objects.{Token}
use Rattle.pictures.specs.Dictionaries.{DictionaryEntry}
use Rattle.pictures.specs.Machine.{State, step}
use Rattle.pictures.specs.Placing.{Around, state_at}
use Rattle.pictures.specs.Sheets.{with_more}
use Rattle.pictures.specs.Shifted.{AgreeShifted, AllAgree, up_state}
use Rattle.open_pictures.specs.Machine.{Further}

-- what they do in a state they do in the state placed, placed; and where it is for them to go on, it is so there
abbrev pub IsPlaceless : Further → Type 0
IsPlaceless x =
    (a : Around) (s t : State) → step false s ≡ None → x s ≡ Some t
    → (step false (state_at a s) ≡ None) × (x (state_at a s) ≡ Some (state_at a t))

-- with the names that the sheet's text puts, and one save further in, they do the same
abbrev pub IsUnaware : Further → Type 0
IsUnaware x =
    (n : ℕ) (s t : State) (es : List DictionaryEntry) (ess : List (List DictionaryEntry)) → step false s ≡ None → x s ≡ Some t
    → AgreeShifted n es s.work.entries → AllAgree n ess s.saves
    → (step false (up_state es ess s) ≡ None)
    × ((fs : List DictionaryEntry) × (fss : List (List DictionaryEntry)) × (x (up_state es ess s) ≡ Some (up_state fs fss t))
    × AgreeShifted n fs t.work.entries × AllAgree n fss t.saves)

pub record IsBlind (x : Further) : Type 0 where
  pub placeless : IsPlaceless x
  pub unaware : IsUnaware x

-- what x does z does too
abbrev pub Extends : Further → Further → Type 0
Extends x z = (s t : State) → step false s ≡ None → x s ≡ Some t → z s ≡ Some t

-- they do the same, whatever comes after the tokens that are left
abbrev pub SeesNothingAfter : Further → Type 0
SeesNothingAfter z =
    (more : List Token) (s t : State) → step false s ≡ None → z s ≡ Some t
    → (step false (with_more more s) ≡ None) × (z (with_more more s) ≡ Some (with_more more t))

-- If pages have the operators x, then z may run the preamble. It may look at where it is: in the document and in the
-- output a preamble is in no place
pub record RunsPreambles (x z : Further) : Type 0 where
  pub extends : Extends x z
  pub sees_nothing_after : SeesNothingAfter z

-- so may x, if it is placeless: a law
abbrev pub PlacelessRunsPreambles : Type 0
PlacelessRunsPreambles = (x : Further) → IsPlaceless x → RunsPreambles x x
