-- Papers by their names and sizes, and the paper at home, worked out.
use Rattle.std.proofs.Common.{◌≡◌, ℕ, ◌*◌, List, [], ◌∷◌, ◌++◌, refl}
use Rattle.std.specs.Prelude.{codes, map, None, Some, Ok, Err, pos, ◌*ℤ◌, length}
use Rattle.rules.specs.Numbers.{rounded}
use Rattle.rules.specs.Papers.{Paper, points, paper_among}
use Rattle.rules.specs.Papers as rules
use Rattle.lengths.specs.Reading.{number_at}
use Rattle.lengths.specs.Lengths.{a4}
use Rattle.paper_names.specs.declared.error.PaperError.TheVariants.{Unknown, NoUnit, NoSuchSize}
use Rattle.paper_names.specs.Names.{papers, paper_named, listed}
use Rattle.paper_names.specs.Sizes.{paper_of, size_of}
use Rattle.paper_names.specs.Home.{first_word, default_paper}

-- Names.

-- so many millimetres, in whole points: 25.4 mm are 72 points
abbrev millimetres : ℕ → ℕ → Paper
millimetres width height = record {
  width = pos 127_000_000_000 *ℤ rounded (pos (width * 360)) 127;
  height = pos 127_000_000_000 *ℤ rounded (pos (height * 360)) 127;
}

-- the A and B sizes have the sides of ISO 216, the C sizes and dl those of ISO 269, RA and SRA those of ISO 217, and those of Japan those of JIS P 0138
iso : map paper_named (codes "a0" ∷ codes "a1" ∷ codes "a2" ∷ codes "a3" ∷ codes "a4" ∷ codes "a5" ∷ codes "a6" ∷ codes "a7" ∷ codes "b4" ∷ codes "b5" ∷ codes "b6"
    ∷ codes "b0" ∷ codes "b1" ∷ codes "b2" ∷ codes "b3" ∷ codes "c4" ∷ codes "c5" ∷ codes "c6" ∷ codes "dl"
    ∷ codes "ra3" ∷ codes "ra4" ∷ codes "sra3" ∷ codes "sra4" ∷ codes "jisb4" ∷ codes "jisb5" ∷ [])
    ≡ map Some (millimetres 841 1_189 ∷ millimetres 594 841 ∷ millimetres 420 594 ∷ millimetres 297 420 ∷ millimetres 210 297
    ∷ millimetres 148 210 ∷ millimetres 105 148 ∷ millimetres 74 105 ∷ millimetres 250 353 ∷ millimetres 176 250 ∷ millimetres 125 176
    ∷ millimetres 1_000 1_414 ∷ millimetres 707 1_000 ∷ millimetres 500 707 ∷ millimetres 353 500 ∷ millimetres 229 324 ∷ millimetres 162 229
    ∷ millimetres 114 162 ∷ millimetres 110 220
    ∷ millimetres 305 430 ∷ millimetres 215 305 ∷ millimetres 320 450 ∷ millimetres 225 320 ∷ millimetres 257 364 ∷ millimetres 182 257 ∷ [])
unfolding papers
iso = refl

-- the names that pstops knows are known, and are the same papers
as_pstops : map (λ p. paper_named p.name) rules.papers ≡ map (λ p. Some p.paper) rules.papers
unfolding papers
as_pstops = refl

in_capitals : paper_named (codes "Letter-LANDSCAPE") ≡ Some (points 792 612)
unfolding papers
in_capitals = refl

-- with blanks, minuses, underscores, and the word for its makers
as_written : map paper_named (codes "DIN A4" ∷ codes "dina4" ∷ codes " ISO_A-4 " ∷ codes "a 4\t" ∷ codes "_a4" ∷ []) ≡ map Some (points 595 842 ∷ points 595 842
    ∷ points 595 842 ∷ points 595 842 ∷ points 595 842 ∷ [])
unfolding papers
as_written = refl

more_written : map paper_named (codes "USletter" ∷ codes "us-legal" ∷ codes "jis-b5" ∷ codes "JIS B5" ∷ []) ≡ map Some (points 612 792 ∷ points 612 1_008
    ∷ points 516 729 ∷ points 516 729 ∷ [])
unfolding papers
more_written = refl

on_their_sides : map paper_named (codes "A4 landscape" ∷ codes "a4_landscape" ∷ codes "A4quer" ∷ codes "DIN-A4-QUER" ∷ []) ≡ map Some (points 842 595
    ∷ points 842 595 ∷ points 842 595 ∷ points 842 595 ∷ [])
unfolding papers
on_their_sides = refl

unknown : map paper_named ([] ∷ codes "a" ∷ codes "-landscape" ∷ codes "a4-landscap" ∷ codes "din" ∷ codes "a4-landscape-landscape" ∷ []) ≡ None ∷ None ∷ None ∷ None ∷ None ∷ None ∷ []
unfolding papers
unknown = refl

unknown_makers : map paper_named (codes "isodina4" ∷ codes "a4 din" ∷ codes "a4.0" ∷ codes "landscape a4" ∷ []) ≡ None ∷ None ∷ None ∷ None ∷ []
unfolding papers
unknown_makers = refl

all_listed : length (listed papers) ≡ 186
unfolding papers
all_listed = refl

-- Sizes.

abbrev letter_in_inches : Paper
letter_in_inches = record { width = pos 77_724_000_000_000; height = pos 100_584_000_000_000 }

unit_at_the_end : size_of (codes "8.5x11in") ≡ Ok letter_in_inches
unfolding number_at
unit_at_the_end = refl

unit_at_each : size_of (codes "8.5inx279.4mm") ≡ Ok letter_in_inches
unfolding number_at
unit_at_each = refl

no_unit_at_the_end : map size_of (codes "612x792" ∷ codes "210mmx297" ∷ codes "0x0" ∷ []) ≡ Err NoUnit ∷ Err NoUnit ∷ Err NoUnit ∷ []
unfolding number_at
no_unit_at_the_end = refl

short_in_points : size_of (codes "72x72pt") ≡ Ok (points 72 72)
unfolding number_at
short_in_points = refl

no_side : map size_of (codes "0x0mm" ∷ codes "-1x1cm" ∷ []) ≡ Err NoSuchSize ∷ Err NoSuchSize ∷ []
unfolding number_at
no_side = refl

no_size : map size_of ([] ∷ codes "x" ∷ codes "210" ∷ codes "210x" ∷ codes "210x297x1" ∷ codes "210y297mm" ∷ codes "1x2ft" ∷ codes "100000x1cm" ∷ [])
    ≡ Err Unknown ∷ Err Unknown ∷ Err Unknown ∷ Err Unknown ∷ Err Unknown ∷ Err Unknown ∷ Err Unknown ∷ Err Unknown ∷ []
unfolding number_at
no_size = refl

-- other signs, blanks, capitals, and other names of an inch; the multiplication sign is written as the bytes 195 and 151
abbrev by_times : List ℕ
by_times = codes "8.5 " ++ (195 ∷ 151 ∷ codes " 11 inch")

signs : map size_of (codes "8.5X11IN" ∷ codes "8.5*11in" ∷ codes "8.5 x 11 in" ∷ codes "8.5x11inch" ∷ codes "8.5x11\"" ∷ by_times ∷ [])
    ≡ map Ok (letter_in_inches ∷ letter_in_inches ∷ letter_in_inches ∷ letter_in_inches ∷ letter_in_inches ∷ letter_in_inches ∷ [])
unfolding number_at
signs = refl

half_a_sign : size_of (codes "8.5" ++ (195 ∷ codes "11in")) ≡ Err Unknown
unfolding number_at
half_a_sign = refl

-- of a name that ends in a size this counts
of_cups : map paper_of (codes "na_letter_8.5x11in" ∷ codes "na_executive_8.5x11in" ∷ codes "custom_1_8.5x11in" ∷ []) ≡ map Ok (letter_in_inches
    ∷ letter_in_inches ∷ letter_in_inches ∷ [])
unfolding papers number_at
of_cups = refl

size_on_its_side : map paper_of (codes "11x8.5in-landscape" ∷ codes "11x8.5in landscape" ∷ codes "na_letter_11x8.5in_landscape" ∷ []) ≡ map Ok (letter_in_inches
    ∷ letter_in_inches ∷ letter_in_inches ∷ [])
unfolding papers number_at
size_on_its_side = refl

-- a name goes first
name_with_x : paper_of (codes "10x14") ≡ Ok (points 720 1_008)
unfolding papers
name_with_x = refl

-- Home.

first_of_two : first_word (codes "\n letter\ta4") ≡ codes "letter"
first_of_two = refl

by_variable : default_paper (codes "A5") (codes "letter") ≡ points 420 595
unfolding papers
by_variable = refl

by_file : default_paper (codes "a9") (codes "letter\n") ≡ points 612 792
unfolding papers
by_file = refl

-- what begins with a # is left out, to the end of its line
behind_comment : map first_word (codes "# our paper\n\na3\n" ∷ codes "a3# ours" ∷ codes "#a4\n#\n a3 a5" ∷ []) ≡ codes "a3" ∷ codes "a3" ∷ codes "a3" ∷ []
behind_comment = refl

comment_alone : first_word (codes "# a3") ≡ []
comment_alone = refl

nowhere : default_paper [] [] ≡ a4
unfolding papers
nowhere = refl
