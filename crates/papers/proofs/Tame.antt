-- The lines that report a paper begin nothing.
use Rattle.std.specs.Prelude.{Bool, codes, if◌then◌else◌, map, false, true}
use Rattle.std.proofs.Common.{◌≡◌, ℕ, List, [], ◌∷◌, ◌++◌, refl, fold}
use Rattle.rules.specs.Papers.{Paper}
use Rattle.rules.specs.Numbers.{points_text}
use Rattle.rules.specs.Units.{begins_block, has_key, is_comment}
use Rattle.imposed_again.proofs.Plainly.{no_ends_append, no_ends_points}
use Rattle.imposed_again.specs.Seams.{no_ends}
use Rattle.imposed_again.specs.MadeAgain.{AreTame, IsTame, IsTameDress}
use Rattle.papers.specs.Own.{smallest_cover}
use Rattle.papers.specs.Reported.{ReportingIsTame, box_line, box_lines, exact_box_line, is_in_whole_points, whole_paper, medium_line, medium_text, page_size_lines, papers_reported, size_name, size_text, reporting_of}

-- ---- no line ends in them
whole_sides : (p : Paper) (between : List ℕ) → no_ends between ≡ true → no_ends (points_text p.width ++ (between ++ points_text p.height)) ≡ true
whole_sides p between plain =
    no_ends_append (points_text p.width) (between ++ points_text p.height) (no_ends_points p.width) (no_ends_append between (points_text p.height) plain (no_ends_points p.height))

whole_size : (p : Paper) → no_ends (size_text p) ≡ true
whole_size p = whole_sides p (codes " ") refl

pub whole_name : (p : Paper) → no_ends (size_name p) ≡ true
whole_name p = whole_sides p (codes "x") refl

whole_medium : (name : List ℕ) (p : Paper) → no_ends name ≡ true → no_ends (medium_text name p) ≡ true
whole_medium name p plain =
    no_ends_append name (codes " " ++ (size_text p ++ codes " 0 () ()")) plain
    (no_ends_append (codes " ") (size_text p ++ codes " 0 () ()") refl (no_ends_append (size_text p) (codes " 0 () ()") (whole_size p) refl))

-- ---- lines by what they begin with
pub box : (p : Paper) → IsTame (box_line p)
box p = record { whole = no_ends_append (codes "%%BoundingBox: 0 0 ") (size_text p) refl (whole_size p); no_data = refl; no_document = refl; no_end = refl; no_page = refl; no_trailer = refl }

pub exact_box : (p : Paper) → IsTame (exact_box_line p)
exact_box p = record { whole = no_ends_append (codes "%%HiResBoundingBox: 0 0 ") (size_text p) refl (whole_size p); no_data = refl; no_document = refl; no_end = refl; no_page = refl; no_trailer = refl }

-- with the exact box, if it is there
exact_boxes : (b : Bool) (p : Paper) (rest : List (List ℕ)) → AreTame rest → AreTame ((if b then [] else exact_box_line p ∷ []) ++ rest)
exact_boxes true p rest h = h
exact_boxes false p rest h = (exact_box p, h)

boxes : (p : Paper) (rest : List (List ℕ)) → AreTame rest → AreTame (box_lines p ++ rest)
boxes p rest h = (box (whole_paper p), exact_boxes (is_in_whole_points p) p rest h)

pub medium : (name : List ℕ) (p : Paper) → no_ends name ≡ true → IsTame (medium_line (codes "%%DocumentMedia: ") name p)
medium name p plain =
    record {
      whole = no_ends_append (codes "%%DocumentMedia: ") (medium_text name p) refl (whole_medium name p plain);
      no_data = refl;
      no_document = refl;
      no_end = refl;
      no_page = refl;
      no_trailer = refl;
    }

pub one_more : (p : Paper) → IsTame (medium_line (codes "%%+ ") (size_name p) p)
one_more p =
    record {
      whole = no_ends_append (codes "%%+ ") (medium_text (size_name p) p) refl (whole_medium (size_name p) p (whole_name p));
      no_data = refl;
      no_document = refl;
      no_end = refl;
      no_page = refl;
      no_trailer = refl;
    }

all_more : (ps : List Paper) → AreTame (map (λ r. medium_line (codes "%%+ ") (size_name r) r) ps)
all_more [] = tt
all_more (p ∷ ps) = (one_more p, all_more ps)

pub named : (p : Paper) → IsTame (codes "%%PageMedia: " ++ size_name p)
named p =
    record {
      whole = no_ends_append (codes "%%PageMedia: ") (size_name p) refl (whole_name p);
      no_data = refl;
      no_document = refl;
      no_end = refl;
      no_page = refl;
      no_trailer = refl;
    }

known : (l : List ℕ) → no_ends l ≡ true → begins_block l ≡ false → has_key (codes "%%BeginDocument" ∷ []) l ≡ false → has_key (codes "%%EndDocument" ∷ []) l ≡ false
    → is_comment (codes "%%Page") l ≡ false → has_key (codes "%%Trailer" ∷ codes "%%EOF" ∷ []) l ≡ false → IsTame l
known l a b d e f g = record { whole = a; no_data = b; no_document = d; no_end = e; no_page = f; no_trailer = g }

pub set_size : (p : Paper) → AreTame (page_size_lines p)
set_size p = (
  known (codes "/PStoPSenablepage where {pop PStoPSenablepage}") refl refl refl refl refl refl,
  (
    known (codes "{userdict /showpage 2 copy known {get dup type /operatortype eq {pop true} {length 0 ne} ifelse} {pop pop true} ifelse} ifelse") refl refl refl refl refl refl,
    (
      record {
        whole =
            no_ends_append (codes "systemdict /setpagedevice known and {1 dict dup /PageSize [") (size_text p ++ codes "] put systemdict /setpagedevice get exec} if") refl
            (no_ends_append (size_text p) (codes "] put systemdict /setpagedevice get exec} if") (whole_size p) refl);
        no_data = refl;
        no_document = refl;
        no_end = refl;
        no_page = refl;
        no_trailer = refl;
      },
      tt,
    ),
  ),
)

told : (ps : List Paper) → IsTameDress (reporting_of ps)
told [] = record { header = tt; start = λ s paper. tt; finish = λ s paper. tt }
told (p ∷ []) = record { header = boxes p _ (medium (codes "Plain") p refl, tt); start = λ s paper. tt; finish = λ s paper. tt }
told (p ∷ q ∷ ps) =
    record {
      header = boxes (fold smallest_cover p (q ∷ ps)) _ (medium (size_name p) p (whole_name p), all_more (q ∷ ps));
      start = λ s paper. (named paper, set_size paper);
      finish = λ s paper. tt;
    }

pub reporting_is_tame : ReportingIsTame
reporting_is_tame all = told (papers_reported (map (λ sheet. sheet.paper) all))
