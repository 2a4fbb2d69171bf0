-- Lengths by their parts.
use Rattle.std.proofs.Common.{◌≡◌, ◌∙◌, ap, refl, sym, subst, ℕ, ℤ, Bool, true, false, List, [], Option, Some, None, option_map}
use Rattle.std.specs.Prelude.{codes, if◌then◌else◌}
use Rattle.std.specs.Str.{bytes_eq}
use Rattle.std.proofs.lemmas.Slice.Eq.{bytes_eq-Decides}
use Rattle.rules.specs.Numbers.{is_large}
use Rattle.rules.specs.Papers.{LengthUnit, Pt, Cm, Mm, In, Paper, grains}
use Rattle.lengths.specs.Reading.{EndsNumber, number_at}
use Rattle.lengths.proofs.Numbers.{number_found, number_read}
use Rattle.lengths.specs.Lengths.{IsLength, length_named, length_of, unit_named}

-- ---- what is read has these parts

measured : (paper : Paper) (v : ℤ) (unit : Option LengthUnit) (g : ℤ) → option_map (grains paper v) unit ≡ Some g
    → (u : LengthUnit) × (unit ≡ Some u) × (g ≡ grains paper v u)
measured paper v None g e = cc
measured paper v (Some u) g e = (u, refl, cc)

unless_large : (large : Bool) (o : Option ℤ) (g : ℤ) → (if large then None else o) ≡ Some g → (large ≡ false) × (o ≡ Some g)
unless_large true o g e = cc
unless_large false o g e = (refl, e)

of_parts : (paper : Paper) (text : List ℕ) (read : Option (ℤ × List ℕ)) (g : ℤ) → number_at text ≡ read → length_of paper read ≡ Some g → IsLength paper text g
of_parts paper text None g is e = cc
of_parts paper text (Some (v, rest)) g is e =
    let front = number_found text rest v is in
    let small = unless_large (is_large v) (option_map (grains paper v) (unit_named rest)) g e in
    let measure = measured paper v (unit_named rest) g small.1 in
    (front.0, rest, v, measure.0, front.1, front.2, small.0, measure.1, measure.2)

pub is_length : (paper : Paper) (text : List ℕ) (g : ℤ) → length_named paper text ≡ Some g → IsLength paper text g
is_length paper text g e = of_parts paper text (number_at text) g refl e

-- ---- a unit continues no number

chosen : (b : Bool) (x : LengthUnit) (o : Option LengthUnit) (u : LengthUnit) (P : Type 0) → (b ≡ true → P) → (o ≡ Some u → P)
    → (if b then Some x else o) ≡ Some u → P
chosen true x o u P first rest e = first refl
chosen false x o u P first rest e = rest e

named_by : (text name : List ℕ) → EndsNumber name → bytes_eq text name ≡ true → EndsNumber text
named_by text name ends e = subst EndsNumber (sym ((bytes_eq-Decides text name).0 e)) ends

unit_ends : (unit : List ℕ) (u : LengthUnit) → unit_named unit ≡ Some u → EndsNumber unit
unit_ends unit u =
    chosen (bytes_eq unit []) Pt _ u (EndsNumber unit) (named_by unit [] tt)
    (chosen (bytes_eq unit (codes "pt")) Pt _ u (EndsNumber unit) (named_by unit (codes "pt") (refl, refl))
    (chosen (bytes_eq unit (codes "cm")) Cm _ u (EndsNumber unit) (named_by unit (codes "cm") (refl, refl))
    (chosen (bytes_eq unit (codes "mm")) Mm _ u (EndsNumber unit) (named_by unit (codes "mm") (refl, refl))
    (chosen (bytes_eq unit (codes "in")) In _ u (EndsNumber unit) (named_by unit (codes "in") (refl, refl)) (λ none. cc)))))

-- ---- so the parts are read

read_small : (paper : Paper) (v : ℤ) (unit : List ℕ) (u : LengthUnit) → is_large v ≡ false → unit_named unit ≡ Some u
    → length_of paper (Some (v, unit)) ≡ Some (grains paper v u)
read_small paper v unit u small is = rw (small, is) refl

pub length_is_named : (paper : Paper) (text : List ℕ) (g : ℤ) → IsLength paper text g → length_named paper text ≡ Some g
length_is_named paper text g (number, unit, v, u, parts, is, small, named, measure) =
    let at : number_at text ≡ Some (v, unit) = ap number_at parts ∙ number_read number unit v is (unit_ends unit u named) in
    ap (length_of paper) at ∙ read_small paper v unit u small named ∙ ap Some (sym measure)
