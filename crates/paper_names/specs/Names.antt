-- Papers by their names. The A and B sizes are those of ISO 216, the C sizes and dl those of ISO 269, the RA and SRA sizes those of ISO 217, the sizes
-- of Japan those of JIS P 0138, in whole points; the others are those of the Media option's keywords in Adobe's PostScript Printer Description
-- specification 4.3, Appendix B (folio as in pstops(1) of psutils). How a name may be written is this project's own rule.
use Rattle.std.specs.Prelude.{ℕ, ◌-◌, List, [], ◌∷◌, ◌++◌, length, take, drop, map, filter, codes, Option, Some, None, option_map, unwrap_or}
use Rattle.std.specs.Prelude.{Bool, not, ◌&&◌, ◌||◌, ◌==◌, nat_lt, if◌then◌else◌}
use Rattle.std.specs.Borrow.{Bor}
use Rattle.std.specs.Str.{bytes_eq}
use Rattle.rules.specs.Papers.{Paper, NamedPaper, points, paper_among, small}
use Rattle.rules.specs.Units.{is_blank}

-- opaque unless it is opened: it is a long list, of which most proofs want nothing (RULES, 12.1)
unfoldable pub papers : List NamedPaper
papers =
    record { name = codes "a0"; paper = points 2_384 3_370 }
    ∷ record { name = codes "a1"; paper = points 1_684 2_384 }
    ∷ record { name = codes "a2"; paper = points 1_191 1_684 }
    ∷ record { name = codes "a3"; paper = points 842 1_191 }
    ∷ record { name = codes "a4"; paper = points 595 842 }
    ∷ record { name = codes "a5"; paper = points 420 595 }
    ∷ record { name = codes "a6"; paper = points 298 420 }
    ∷ record { name = codes "a7"; paper = points 210 298 }
    ∷ record { name = codes "b0"; paper = points 2_835 4_008 }
    ∷ record { name = codes "b1"; paper = points 2_004 2_835 }
    ∷ record { name = codes "b2"; paper = points 1_417 2_004 }
    ∷ record { name = codes "b3"; paper = points 1_001 1_417 }
    ∷ record { name = codes "b4"; paper = points 709 1_001 }
    ∷ record { name = codes "b5"; paper = points 499 709 }
    ∷ record { name = codes "b6"; paper = points 354 499 }
    ∷ record { name = codes "c4"; paper = points 649 918 }
    ∷ record { name = codes "c5"; paper = points 459 649 }
    ∷ record { name = codes "c6"; paper = points 323 459 }
    ∷ record { name = codes "dl"; paper = points 312 624 }
    ∷ record { name = codes "jisb4"; paper = points 729 1_032 }
    ∷ record { name = codes "jisb5"; paper = points 516 729 }
    ∷ record { name = codes "ra3"; paper = points 865 1_219 }
    ∷ record { name = codes "ra4"; paper = points 609 865 }
    ∷ record { name = codes "sra3"; paper = points 907 1_276 }
    ∷ record { name = codes "sra4"; paper = points 638 907 }
    ∷ record { name = codes "letter"; paper = points 612 792 }
    ∷ record { name = codes "legal"; paper = points 612 1_008 }
    ∷ record { name = codes "tabloid"; paper = points 792 1_224 }
    ∷ record { name = codes "ledger"; paper = points 1_224 792 }
    ∷ record { name = codes "statement"; paper = points 396 612 }
    ∷ record { name = codes "executive"; paper = points 522 756 }
    ∷ record { name = codes "folio"; paper = points 612 936 }
    ∷ record { name = codes "quarto"; paper = points 610 780 }
    ∷ record { name = codes "10x14"; paper = points 720 1_008 }
    ∷ []

abbrev pub turned : Paper → Paper
turned paper = record { width = paper.height; height = paper.width }

-- ---- how a name is written

-- a byte that may come between the letters of a name: a blank, a minus or an underscore
abbrev pub is_between : ℕ → Bool
is_between b = is_blank b || (b == 45 || b == 95)

-- a name without them
abbrev pub letters : List ℕ → List ℕ
letters text = filter (λ b. not (is_between b)) text

-- a text is this word, as names are written
abbrev pub is_word : (word text : List ℕ) → Bool
is_word word text = bytes_eq (map small (letters text)) word

-- what follows this word in a text that begins with it, in capitals or small letters
abbrev pub after_word : (word text : List ℕ) → Option (List ℕ)
after_word [] text = Some text
after_word (w ∷ ws) [] = None
after_word (w ∷ ws) (b ∷ text) = if small b == w then after_word ws text else None

-- what follows the word for its makers, if a name begins with one
abbrev pub after_maker : List ℕ → List ℕ
after_maker text =
    unwrap_or (after_word (codes "din") text) (unwrap_or (after_word (codes "iso") text) (unwrap_or (after_word (codes "us") text) text))

-- what comes before this ending of a text, which may have capitals
abbrev pub before_ending : (ending text : List ℕ) → Option (List ℕ)
before_ending ending text = let n = length text - length ending in
    if bytes_eq (map small (drop n text)) ending then Some (take n text) else None

abbrev pub first_text : Option (List ℕ) → Option (List ℕ) → Option (List ℕ)
first_text (Some text) other = Some text
first_text None other = other

-- what comes before the word for a paper on its side
abbrev pub upright_part : List ℕ → Option (List ℕ)
upright_part text = first_text (before_ending (codes "landscape") text) (before_ending (codes "quer") text)

-- ---- the paper with a name (RULES, 12.1)

abbrev pub upright_named : List ℕ → Option Paper
upright_named name = paper_among papers (after_maker (letters name))

abbrev pub named_by : (upright : Option (List ℕ)) → (name : List ℕ) → Option Paper
named_by (Some front) name = option_map turned (upright_named front)
named_by None name = upright_named name

abbrev pub paper_named : List ℕ → Option Paper
paper_named name = named_by (upright_part name) name

-- the names in one text, with a comma between two
abbrev pub listed : List NamedPaper → List ℕ
listed [] = []
listed (p ∷ []) = p.name
listed (p ∷ q ∷ ps) = p.name ++ (codes ", " ++ listed (q ∷ ps))

-- ---- the rows of the program's table: each a name, and the sides in points
abbrev pub Row : Type 0
Row = Bor (List ℕ) × ℕ × ℕ

abbrev pub entry : Row → NamedPaper
entry row = record { name = row.0.now; paper = points row.1 row.2 }

-- a paper may have these sides
abbrev pub sides_fit : Row → Bool
sides_fit row = (nat_lt 0 row.1 && nat_lt row.1 7_200_000) && (nat_lt 0 row.2 && nat_lt row.2 7_200_000)
