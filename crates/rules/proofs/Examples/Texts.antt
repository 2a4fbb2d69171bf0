-- Texts of numbers and specifications, and their meaning: how each text is taken apart.
use Rattle.std.proofs.Common.{inl, inr, rules, [], ◌∷◌, true, false, refl}
use Rattle.std.specs.Prelude.{codes, pos, neg_ℤ}
use Rattle.rules.specs.Numbers.{IsNumber}
use Rattle.rules.specs.Papers.{Pt, Cm, Mm, In, Width, Height}
use Rattle.rules.specs.Specification.{IsTurn, IsMeasure, IsItem, IsSpec, Quarters, Scaled, Moved}
use Rattle.rules.proofs.Examples.Written.{item, measure, written}

-- a dot needs no decimals
dot_at_the_end : IsNumber (codes "5.") (pos 5_000_000_000)
dot_at_the_end = (false, [], codes "5", codes ".", [], refl, refl, search rules, (refl, refl), search rules, (λ e. cc), refl)

-- nor a digit before it
dot_at_the_start : IsNumber (codes "-.5") (neg_ℤ (pos 500_000_000))
dot_at_the_start = (true, codes "-", [], codes ".5", codes "5", refl, (refl, refl), search rules, (refl, refl), search rules, (λ e. cc), refl)

-- zero is never negative
minus_zero : IsNumber (codes "-0.0") (pos 0)
minus_zero = (true, codes "-", codes "0", codes ".0", codes "0", refl, (refl, refl), search rules, (refl, refl), search rules, (λ e. cc), refl)

-- the tenth decimal has no effect
ten_decimals : IsNumber (codes "+00.1234567899") (pos 123_456_789)
ten_decimals = (false, codes "+", codes "00", codes ".1234567899", codes "1234567899", refl, (refl, refl), search rules, (refl, refl), search rules, (λ e. cc), refl)

-- also if nine zeros come before it; the ninth decimal is 10^-9
tenth_decimal_alone : IsNumber (codes ".0000000009") (pos 0)
tenth_decimal_alone = (false, [], [], codes ".0000000009", codes "0000000009", refl, refl, search rules, (refl, refl), search rules, (λ e. cc), refl)

ninth_decimal_alone : IsNumber (codes ".000000001") (pos 1)
ninth_decimal_alone = (false, [], [], codes ".000000001", codes "000000001", refl, refl, search rules, (refl, refl), search rules, (λ e. cc), refl)

-- the tenth decimal does not round the ninth up
ten_nines : IsNumber (codes "-.9999999999") (neg_ℤ (pos 999_999_999))
ten_nines = (true, codes "-", [], codes ".9999999999", codes "9999999999", refl, (refl, refl), search rules, (refl, refl), search rules, (λ e. cc), refl)

-- fewer than nine decimals are tenths, hundredths and so on
two_decimals : IsNumber (codes "1.05") (pos 1_050_000_000)
two_decimals = (false, [], codes "1", codes ".05", codes "05", refl, refl, search rules, (refl, refl), search rules, (λ e. cc), refl)

-- a turn to the left, half a turn, a turn to the right, in capitals and small letters
left : IsTurn (codes "L") 1
left = inl (refl, inl refl)

small_left : IsTurn (codes "l") 1
small_left = inl (refl, inr refl)

half : IsTurn (codes "U") 2
half = inr (inl (refl, inl refl))

small_half : IsTurn (codes "u") 2
small_half = inr (inl (refl, inr refl))

right : IsTurn (codes "R") 3
right = inr (inr (refl, inl refl))

small_right : IsTurn (codes "r") 3
small_right = inr (inr (refl, inr refl))

-- two of each unit
pub two : IsNumber (codes "2") (pos 2_000_000_000)
two = (false, [], codes "2", [], [], refl, refl, search rules, refl, search rules, (λ e. cc), refl)

two_points : IsMeasure (codes "2pt") (measure (pos 2_000_000_000) Pt)
two_points = (codes "2", codes "pt", refl, two, inl refl)

two_centimetres : IsMeasure (codes "2cm") (measure (pos 2_000_000_000) Cm)
two_centimetres = (codes "2", codes "cm", refl, two, inl refl)

two_millimetres : IsMeasure (codes "2mm") (measure (pos 2_000_000_000) Mm)
two_millimetres = (codes "2", codes "mm", refl, two, inl refl)

two_inches : IsMeasure (codes "2in") (measure (pos 2_000_000_000) In)
two_inches = (codes "2", codes "in", refl, two, inl refl)

two_widths : IsMeasure (codes "2w") (measure (pos 2_000_000_000) Width)
two_widths = (codes "2", codes "w", refl, two, inl refl)

two_heights : IsMeasure (codes "2h") (measure (pos 2_000_000_000) Height)
two_heights = (codes "2", codes "h", refl, two, inl refl)

-- `2:-0`: every other page, last one first
every_other_page_backwards : IsSpec (codes "2:-0") (written 2 ((item true 0 ([]) ∷ []) ∷ []))
every_other_page_backwards = inr (codes "2", codes "-0", refl, (search rules, (λ e. cc), refl), inl (codes "0", [], refl, (search rules, (λ e. cc), refl), refl))

-- `-`: one item alone may leave its page number out
minus_alone : IsSpec (codes "-") (written 1 ((item true 0 ([]) ∷ []) ∷ []))
minus_alone = inl (refl, inr (item true 0 ([]), refl, ([], refl, refl, (λ e. cc), refl)))

-- `2:u`: after a modulo too, and as a small letter
turn_alone : IsSpec (codes "2:u") (written 2 ((item false 0 (Quarters 2 ∷ []) ∷ []) ∷ []))
turn_alone = inr (codes "2", codes "u", refl, (search rules, (λ e. cc), refl), inr (item false 0 (Quarters 2 ∷ []), refl, (codes "u", refl, refl, (λ e. cc), (codes "u", [], refl, inr (inl (refl, inr refl)), refl))))

-- `0,00001+2`: groups of items, and leading zeros
two_groups : IsSpec (codes "0,00001+2") (written 1 ((item false 0 ([]) ∷ []) ∷ (item false 1 ([]) ∷ item false 2 ([]) ∷ []) ∷ []))
two_groups =
    inl (
      refl,
      inl (
        codes "0",
        codes "00001+2",
        refl,
        (codes "0", [], refl, (search rules, (λ e. cc), refl), refl),
        (codes "00001", codes "2", refl, (codes "00001", [], refl, (search rules, (λ e. cc), refl), refl), (codes "2", [], refl, (search rules, (λ e. cc), refl), refl)),
      ),
    )

-- what follows the page number in a two-up: `L@.7(21cm,0)` and `L@.7(21cm,14.85cm)`
seven_tenths : IsNumber (codes ".7") (pos 700_000_000)
seven_tenths = (false, [], [], codes ".7", codes "7", refl, refl, search rules, (refl, refl), search rules, (λ e. cc), refl)

paper_width : IsMeasure (codes "21cm") (measure (pos 21_000_000_000) Cm)
paper_width = (codes "21", codes "cm", refl, (false, [], codes "21", [], [], refl, refl, search rules, refl, search rules, (λ e. cc), refl), inl refl)

half_height : IsMeasure (codes "14.85cm") (measure (pos 14_850_000_000) Cm)
half_height = (codes "14.85", codes "cm", refl, (false, [], codes "14", codes ".85", codes "85", refl, refl, search rules, (refl, refl), search rules, (λ e. cc), refl), inl refl)

no_points : IsMeasure (codes "0") (measure (pos 0) Pt)
no_points = (codes "0", [], refl, (false, [], codes "0", [], [], refl, refl, search rules, refl, search rules, (λ e. cc), refl), inr (refl, refl))

lower_page : IsItem (codes "0L@.7(21cm,0)") (item false 0 (Quarters 1 ∷ Scaled (pos 700_000_000) ∷ Moved (measure (pos 21_000_000_000) Cm) (measure (pos 0) Pt) ∷ []))
lower_page = (
  codes "0",
  codes "L@.7(21cm,0)",
  refl,
  (search rules, (λ e. cc), refl),
  (
    codes "L",
    codes "@.7(21cm,0)",
    refl,
    inl (refl, inl refl),
    (
      codes "@.7",
      codes "(21cm,0)",
      refl,
      (codes ".7", refl, seven_tenths),
      (codes "(21cm,0)", [], refl, (codes "21cm", codes "0", refl, paper_width, no_points), refl),
    ),
  ),
)

upper_page : IsItem (codes "1L@.7(21cm,14.85cm)") (item false 1 (Quarters 1 ∷ Scaled (pos 700_000_000) ∷ Moved (measure (pos 21_000_000_000) Cm) (measure (pos 14_850_000_000) Cm) ∷ []))
upper_page = (
  codes "1",
  codes "L@.7(21cm,14.85cm)",
  refl,
  (search rules, (λ e. cc), refl),
  (
    codes "L",
    codes "@.7(21cm,14.85cm)",
    refl,
    inl (refl, inl refl),
    (
      codes "@.7",
      codes "(21cm,14.85cm)",
      refl,
      (codes ".7", refl, seven_tenths),
      (codes "(21cm,14.85cm)", [], refl, (codes "21cm", codes "14.85cm", refl, paper_width, half_height), refl),
    ),
  ),
)

-- two pages on a sheet
two_up : IsSpec (codes "2:0L@.7(21cm,0)+1L@.7(21cm,14.85cm)")
    (written 2
    ((item false 0 (Quarters 1 ∷ Scaled (pos 700_000_000) ∷ Moved (measure (pos 21_000_000_000) Cm) (measure (pos 0) Pt) ∷ [])
    ∷ item false 1 (Quarters 1 ∷ Scaled (pos 700_000_000) ∷ Moved (measure (pos 21_000_000_000) Cm) (measure (pos 14_850_000_000) Cm) ∷ [])
    ∷ []) ∷ []))
two_up =
    inr (
      codes "2",
      codes "0L@.7(21cm,0)+1L@.7(21cm,14.85cm)",
      refl,
      (search rules, (λ e. cc), refl),
      inl (codes "0L@.7(21cm,0)", codes "1L@.7(21cm,14.85cm)", refl, lower_page, upper_page),
    )
