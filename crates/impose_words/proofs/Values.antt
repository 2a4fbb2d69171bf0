-- The values of options, as `value` reads them.
use Rattle.std.proofs.Common.{◌≡◌, ◌∙◌, ap, refl, sym, true, false, true≢false, ℤ, Bor, Bool, List, [], ◌∷◌, Option, Some, None, Result, Ok, Err, unwrap_or}
use Rattle.std.specs.Prelude.{IsErrAnd, MatchOption, codes, if◌then◌else◌, is_some, option_map}
use Rattle.std.specs.Option.{ok_or}
use Rattle.clap.specs.Words.{Row, Text, first_of}
use Rattle.layouts.specs.declared.arrangement.Free.{Free}
use Rattle.impose_words.specs.Edges.{free_with}
use Rattle.impose_words.specs.Faults.{Missing, NoValue, Wrong, wrong_among, wrong_in, wrong_numbers, wrong_room, wrong_specs}
use Rattle.impose_words.specs.Words.{SpacesBy, asked}
use Rattle.impose_words.specs.declared.edges.Margins.{Margins}
use Rattle.impose_words.specs.declared.fault.OptionId.{OptionId}
use Rattle.impose_words.specs.declared.fault.OptionId.TheVariants as opt
use Rattle.impose_words.specs.declared.request.Spacing.{Spacing}

-- what a text means that may be left out
abbrev pub optional : {T : Type 0} → (Text → Option T) → Option Text → Option (Option T)
optional named text = asked None (λ t. option_map (λ x. Some x) (named t)) text

-- what `value` promises, of a parser that promises P
abbrev pub Parsed : {T : Type 0} → (P : Bor Text → Option T → Type 0) → Option Text → OptionId → Result (Option T) OptionId → Type 0
Parsed P text option r =
    MatchOption text (r ≡ Ok None) (λ t. (v : _) × ((p : Bor Text) × P p v × (p.now ≡ t)) × (r ≡ ok_or (option_map (λ x. Some x) v) option))

pub value_is : {T : Type 0} {P : Bor Text → Option T → Type 0} (named : Text → Option T) (text : Option Text) (option : OptionId)
    (r : Result (Option T) OptionId) → ((p : Bor Text) (v : Option T) → P p v → v ≡ named p.now) → Parsed P text option r
    → r ≡ ok_or (optional named text) option
value_is named None option r is h = h
value_is named (Some t) option r is h =
    h.2 ∙ ap (λ v. ok_or (option_map (λ x. Some x) v) option) (is h.1.0 h.0 h.1.1 ∙ ap named h.1.2)

pub ok_is : {X : Type 0} (v : Option X) (option : OptionId) (x : X) → Ok x ≡ ok_or v option → v ≡ Some x
ok_is None option x e = cc
ok_is (Some y) option x e = cc

pub err_is : {X : Type 0} (v : Option X) (option e : OptionId) (rest : Option Wrong) → Err e ≡ ok_or v option
    → (if is_some v then rest else Some (NoValue option)) ≡ Some (NoValue e)
err_is None option e rest h = cc
err_is (Some y) option e rest h = cc

-- another value stands in place of a text that is left out
or_else : {T : Type 0} (v : Option T) (d : T) (o : Option T) → option_map (λ x. Some x) v ≡ Some o → v ≡ Some (unwrap_or o d)
or_else None d o e = cc
or_else (Some x) d None e = cc
or_else (Some x) d (Some y) e = cc

pub by_default : {T : Type 0} (named : Text → Option T) (text : Option Text) (d : T) (o : Option T) → optional named text ≡ Some o
    → asked d named text ≡ Some (unwrap_or o d)
by_default named None d None e = refl
by_default named None d (Some y) e = cc
by_default named (Some t) d o e = or_else (named t) d o e

is_some_each : {T : Type 0} (v : Option T) → is_some (option_map (λ x. Some x) v) ≡ is_some v
is_some_each None = refl
is_some_each (Some x) = refl

pub is_some_by_default : {T : Type 0} (named : Text → Option T) (text : Option Text) (d : T) → is_some (optional named text) ≡ is_some (asked d named text)
is_some_by_default named None d = refl
is_some_by_default named (Some t) d = is_some_each (named t)

-- ---- what was read, and what was refused

pub reads : {T : Type 0} {P : Bor Text → Option T → Type 0} (named : Text → Option T) (text : Option Text) (option : OptionId) (o : Option T)
    → ((p : Bor Text) (v : Option T) → P p v → v ≡ named p.now) → Parsed P text option (Ok o) → optional named text ≡ Some o
reads named text option o is h = ok_is (optional named text) option o (value_is named text option (Ok o) is h)

pub reads_or : {T : Type 0} {P : Bor Text → Option T → Type 0} (named : Text → Option T) (text : Option Text) (option : OptionId) (o : Option T) (d : T)
    → ((p : Bor Text) (v : Option T) → P p v → v ≡ named p.now) → Parsed P text option (Ok o) → asked d named text ≡ Some (unwrap_or o d)
reads_or named text option o d is h = by_default named text d o (reads named text option o is h)

pub fails : {T : Type 0} {P : Bor Text → Option T → Type 0} (named : Text → Option T) (text : Option Text) (option e : OptionId) (rest : Option Wrong)
    → ((p : Bor Text) (v : Option T) → P p v → v ≡ named p.now) → Parsed P text option (Err e)
    → (if is_some (optional named text) then rest else Some (NoValue option)) ≡ Some (NoValue e)
fails named text option e rest is h = err_is (optional named text) option e rest (value_is named text option (Err e) is h)

pub fails_or : {T : Type 0} {P : Bor Text → Option T → Type 0} (named : Text → Option T) (text : Option Text) (option e : OptionId) (d : T) (rest : Option Wrong)
    → ((p : Bor Text) (v : Option T) → P p v → v ≡ named p.now) → Parsed P text option (Err e)
    → (if is_some (asked d named text) then rest else Some (NoValue option)) ≡ Some (NoValue e)
fails_or named text option e d rest is h =
    ap (λ b. if b then rest else Some (NoValue option)) (sym (is_some_by_default named text d)) ∙ fails named text option e rest is h

-- what was read goes before what is wrong after it
pub past : {X : Type 0} {v : Option X} {x : X} (wrong : Wrong) {rest e : Option Wrong} → v ≡ Some x → rest ≡ e → (if is_some v then rest else Some wrong) ≡ e
past wrong is h = rw is h

-- an error that is handed on says what is wrong
pub handed_wrong : {T : Type 0} (r : Result T OptionId) (e : OptionId) {wrong : Option Wrong} → IsErrAnd r (λ g. g ≡ e) → wrong ≡ Some (NoValue e)
    → wrong ≡ wrong_in r
handed_wrong (Ok x) e h is = absurd h
handed_wrong (Err g) e h is = is ∙ ap (λ x. Some (NoValue x)) (sym h)

none_is : {X : Type 0} (v : Option X) (option e : OptionId) → Err e ≡ ok_or v option → (v ≡ None) × (option ≡ e)
none_is None option e h = (refl, cc)
none_is (Some y) option e h = cc

none_each : {T : Type 0} (v : Option T) → option_map (λ x. Some x) v ≡ None → v ≡ None
none_each None e = refl
none_each (Some x) e = cc

none_asked : {T : Type 0} (named : Text → Option T) (text : Option Text) (d : T) → optional named text ≡ None → asked d named text ≡ None
none_asked named None d e = cc
none_asked named (Some t) d e = none_each (named t) e

-- an error that is handed on is that of a value with a default
pub handed_or : {T : Type 0} {P : Bor Text → Option T → Type 0} (named : Text → Option T) (text : Option Text) (option e : OptionId) (d : T) (r : Result T OptionId)
    → ((p : Bor Text) (v : Option T) → P p v → v ≡ named p.now) → Parsed P text option (Err e) → IsErrAnd r (λ g. g ≡ e) → r ≡ ok_or (asked d named text) option
handed_or named text option e d (Ok x) is h same = absurd same
handed_or named text option e d (Err g) is h same =
    let none = none_is (optional named text) option e (value_is named text option (Err e) is h) in
    ap Err (same ∙ sym none.1) ∙ ap (λ v. ok_or v option) (sym (none_asked named text d none.0))

-- ---- what is wrong with a layout that has room or numbers

pub room_wrong : (keeps : Bool) (found : List Row) {wrong : Option Wrong} → true ≡ keeps → wrong_room true found ≡ wrong → wrong_room keeps found ≡ wrong
room_wrong false found keeps e = absurd (true≢false keeps)
room_wrong true found keeps e = e

pub numbers_wrong : (has : Bool) (found : List Row) {wrong : Option Wrong} → true ≡ has → wrong_numbers true found ≡ wrong → wrong_numbers has found ≡ wrong
numbers_wrong false found has e = absurd (true≢false has)
numbers_wrong true found has e = e

pub spaces : (keeps : Bool) (found : List Row) (s : Spacing) → true ≡ keeps → SpacesBy true found s → SpacesBy keeps found s
spaces false found s keeps h = absurd (true≢false keeps)
spaces true found s keeps h = h

pub specs_wrong : (found : List Row) (text : Text) {e : Option Wrong} → first_of (codes "specs") found ≡ Some text
    → wrong_among (opt.Signature ∷ []) found ≡ e → wrong_specs found ≡ e
specs_wrong found text there h = past Missing there h

-- margins, gaps and a trim, put together
pub free_read : (ms : Option Margins) (gs : Option Free) (ts : Option ℤ) (m : Margins) (g : Free) (t : ℤ) → ms ≡ Some m → gs ≡ Some g → ts ≡ Some t
    → free_with ms gs ts ≡ free_with (Some m) (Some g) (Some t)
free_read ms gs ts m g t a b c = rw (a, b, c) refl
