-- A preamble's run as a test, which is computed once: it leaves no operands, the graphics state as it was, and none of the names
-- that the sheet's text uses or puts.
use Rattle.std.specs.Prelude.{Option, Some, None, codes}
use Rattle.std.proofs.Common.{◌≡◌, refl, ap, ◌∙◌, sym, Bool, true, false, not, ◌&&◌, List, [], ◌∷◌, true≢false}
use Rattle.pictures.specs.Objects.{Object, Call}
use Rattle.pictures.specs.Dictionaries.{dictionary_entry, has}
use Rattle.pictures.specs.Operators.{all_are_old, all_old}
use Rattle.pictures.specs.Machine.{State, Graphics, Segment, Clip, initial, fonts}
use Rattle.pictures.specs.Sheets.{IsGround, sheet_names}
use Rattle.pictures.specs.Documents.{started}
use Rattle.pictures.specs.Unaware.{IsPlainGround, is_in, no_saved, no_saved_in}
use Rattle.pictures.proofs.Tests.{first, second}
use Rattle.pictures.proofs.Names.{not_true}
use Rattle.pictures.specs.Shelter.{all_absent}
use Rattle.pictures.proofs.Absent.{known}

-- the state that a run has come to
abbrev pub reached : Option State → State
reached None = started []
reached (Some t) = t

abbrev is_nil : {A : Type 0} → List A → Bool
is_nil [] = true
is_nil (x ∷ xs) = false

nil_is : {A : Type 0} (xs : List A) → is_nil xs ≡ true → xs ≡ []
nil_is [] e = refl
nil_is (x ∷ xs) e = absurd (true≢false (sym e))

abbrev is_initial : Graphics → Bool
is_initial g = is_nil g.chain && (is_nil g.path && (is_nil g.clip && is_nil g.settings))

initial_on : (cs : List Call) (ps : List Segment) (ls : List Clip) (ss : List Call) → cs ≡ [] → ps ≡ [] → ls ≡ [] → ss ≡ []
    → initial (record { chain = cs; path = ps; clip = ls; settings = ss }) ≡ record { chain = cs; path = ps; clip = ls; settings = ss }
initial_on cs ps ls ss a b c d =
    ap (λ l. record { chain = []; path = []; clip = []; settings = fonts l }) d
    ∙ ap (λ l. record { chain = l; path = []; clip = []; settings = [] }) (sym a)
    ∙ ap (λ l. record { chain = cs; path = l; clip = []; settings = [] }) (sym b)
    ∙ ap (λ l. record { chain = cs; path = ps; clip = l; settings = [] }) (sym c)
    ∙ ap (λ l. record { chain = cs; path = ps; clip = ls; settings = l }) (sym d)

initial_is : (g : Graphics) → is_initial g ≡ true → initial g ≡ g
initial_is g e =
    let rest = second (is_nil g.chain) _ e in
    let more = second (is_nil g.path) _ rest in
    initial_on g.chain g.path g.clip g.settings (nil_is g.chain (first (is_nil g.chain) _ e)) (nil_is g.path (first (is_nil g.path) _ rest))
    (nil_is g.clip (first (is_nil g.clip) _ more)) (nil_is g.settings (second (is_nil g.clip) _ more))

abbrev ran : State → Bool
ran s = is_nil s.left && (is_nil s.painted && (is_nil s.sheets && (is_nil s.stacked && (is_nil s.saves && is_nil s.work.operands))))

abbrev names_apart : State → Bool
names_apart s =
    all_absent sheet_names s.work.dictionaries s.work.entries
    && (not (has (dictionary_entry 0 (codes "showpage") s.work.entries)) && not (has (dictionary_entry 0 (codes "ImposeSave") s.work.entries)))

abbrev is_plain : State → Bool
is_plain s = no_saved_in s.work.entries && (is_in 0 s.work.dictionaries && all_old s.work.made s.work.dictionaries)

abbrev pub is_ready : Option State → Bool
is_ready None = false
is_ready (Some s) = ran s && (is_initial s.graphics && (names_apart s && is_plain s))

pub record Ready (r : Option State) (s : State) : Type 0 where
  pub run : r ≡ Some s
  pub left : s.left ≡ []
  pub painted : s.painted ≡ []
  pub sheets : s.sheets ≡ []
  pub operands : s.work.operands ≡ []
  pub plain : IsPlainGround s

none_if : (x : Option Object) → has x ≡ false → x ≡ None
none_if None e = refl
none_if (Some o) e = absurd (true≢false e)

ground_if : (s : State) → all_absent sheet_names s.work.dictionaries s.work.entries ≡ true → s.work.operands ≡ []
    → all_old s.work.made s.work.dictionaries ≡ true → initial s.graphics ≡ s.graphics → IsGround s
ground_if s names operands dictionaries graphics = record {
  names = λ name h. known sheet_names s.work.dictionaries s.work.entries names name h;
  operands = ap (all_are_old s.work.made s.level) operands;
  dictionaries = dictionaries;
  graphics = graphics;
}

pub ready : (r : Option State) → is_ready r ≡ true → Ready r (reached r)
ready None e = absurd (true≢false (sym e))
ready (Some s) e =
    let runs = first (ran s) _ e in
    let one = second (is_nil s.left) _ runs in
    let two = second (is_nil s.painted) _ one in
    let three = second (is_nil s.sheets) _ two in
    let four = second (is_nil s.stacked) _ three in
    let operands : s.work.operands ≡ [] = nil_is s.work.operands (second (is_nil s.saves) _ four) in
    let rest = second (ran s) _ e in
    let more = second (is_initial s.graphics) _ rest in
    let apart = first (names_apart s) _ more in
    let puts = second (all_absent sheet_names s.work.dictionaries s.work.entries) _ apart in
    let last = second (names_apart s) _ more in
    let old = second (no_saved_in s.work.entries) _ last in
    record {
      run = refl;
      left = nil_is s.left (first (is_nil s.left) _ runs);
      painted = nil_is s.painted (first (is_nil s.painted) _ one);
      sheets = nil_is s.sheets (first (is_nil s.sheets) _ two);
      operands = operands;
      plain = record {
        ground = ground_if s (first (all_absent sheet_names s.work.dictionaries s.work.entries) _ apart) operands
            (second (is_in 0 s.work.dictionaries) _ old) (initial_is s.graphics (first (is_initial s.graphics) _ rest));
        stacked = nil_is s.stacked (first (is_nil s.stacked) _ three);
        saves = nil_is s.saves (first (is_nil s.saves) _ four);
        painted = nil_is s.painted (first (is_nil s.painted) _ one);
        operands = ap no_saved operands;
        entries = first (no_saved_in s.work.entries) _ last;
        has_userdict = first (is_in 0 s.work.dictionaries) _ old;
        no_showpage = none_if (dictionary_entry 0 (codes "showpage") s.work.entries)
            (not_true (has (dictionary_entry 0 (codes "showpage") s.work.entries)) (first (not (has (dictionary_entry 0 (codes "showpage") s.work.entries))) _ puts));
        no_save = none_if (dictionary_entry 0 (codes "ImposeSave") s.work.entries)
            (not_true (has (dictionary_entry 0 (codes "ImposeSave") s.work.entries)) (second (not (has (dictionary_entry 0 (codes "showpage") s.work.entries))) _ puts));
      };
    }
