-- What a machine prints of made sheets of a guarded document.
use Rattle.std.specs.Prelude.{codes, if◌then◌else◌}
use Rattle.std.specs.List.{list_any}
use Rattle.std.specs.Ordering.{int_eq}
use Rattle.std.proofs.lemmas.Bool.Decides.{Decides-int_eq}
use Rattle.std.proofs.Common.{◌≡◌, refl, ap, ◌∙◌, Bool, ℕ, true, false, ◌||◌, List, [], ◌∷◌, ◌++◌, map, length, ◌≤◌, arith}
use Rattle.rules.specs.Numbers.{points_text}
use Rattle.rules.specs.Papers.{Paper}
use Rattle.rules.specs.Parts.{NestedUnit}
use Rattle.rules.specs.Made.{MadeSheet}
use Rattle.dsc.specs.Units.{units_of}
use Rattle.guard.specs.Guard.{guarded}
use Rattle.guard.proofs.TheGuard.{guard_stays}
use Rattle.papers.specs.Reported.{reporting, reporting_of, papers_reported, different_from, is_reported_alike, in_print, size_text, box_line, exact_box_line, exact_box_lines, is_in_whole_points, whole_paper, medium_line}
use Rattle.pictures.specs.Imposed.{ends_nowhere, is_comment_line, are_comments, IsQuiet}
use Rattle.pictures.proofs.Placed.{both_true}
use Rattle.pictures.proofs.Comments.{points_stay, stay_both}
use Rattle.pictures.specs.GuardedImposed.{AreOn, OnePaperIsReportedAsOne, ReportingIsQuiet, MadeDocumentIsShown, OwnMadeDocumentIsShown, SilencedMadeDocumentIsShown}
use Rattle.pictures.proofs.Documents.{guarded_is_shown, guarded_bodies, guarded_again}
use Rattle.pictures.proofs.OwnShowpage.{own_is_shown}
use Rattle.pictures.proofs.Silenced.{silenced_is_shown}

-- The lines that report one paper are comments.

size_stays : (p : Paper) → ends_nowhere (size_text p) ≡ true
size_stays p =
    stay_both (points_text p.width) (codes " " ++ points_text p.height) (points_stay p.width) (stay_both (codes " ") (points_text p.height) refl (points_stay p.height))

-- the exact box is one too
boxes_are_comments : (b : Bool) (p : Paper) (ls : List (List ℕ)) → are_comments ls ≡ true → are_comments ((if b then [] else exact_box_line p ∷ []) ++ ls) ≡ true
boxes_are_comments true p ls e = e
boxes_are_comments false p ls e = both_true (is_comment_line (exact_box_line p)) (are_comments ls) (size_stays p) e

box_is_comment : (p : Paper) → is_comment_line (box_line p) ≡ true
box_is_comment p = size_stays p

medium_is_comment : (p : Paper) → is_comment_line (medium_line (codes "%%DocumentMedia: ") (codes "Plain") p) ≡ true
medium_is_comment p = stay_both (size_text p) (codes " 0 () ()") (size_stays p) refl

one_is_quiet : (p : Paper) → IsQuiet (reporting_of (p ∷ []))
one_is_quiet p = record {
  header = both_true (is_comment_line (box_line (whole_paper p))) (are_comments (exact_box_lines p ++ medium_line (codes "%%DocumentMedia: ") (codes "Plain") p ∷ [])) (box_is_comment (whole_paper p))
      (boxes_are_comments (is_in_whole_points p) p (medium_line (codes "%%DocumentMedia: ") (codes "Plain") p ∷ [])
      (both_true (is_comment_line (medium_line (codes "%%DocumentMedia: ") (codes "Plain") p)) true (medium_is_comment p) refl));
  start = λ s paper. refl;
  finish = λ s paper. refl;
}

-- Sheets of one paper report one.

abbrev papers : List MadeSheet → List Paper
papers all = map (λ sheet. sheet.paper) all

alike : (p : Paper) → list_any (is_reported_alike p) (p ∷ []) ≡ true
alike p =
    let same : is_reported_alike p p ≡ true = both_true (int_eq (in_print p.width) (in_print p.width)) (int_eq (in_print p.height) (in_print p.height))
    ((Decides-int_eq (in_print p.width) (in_print p.width)).1 refl) ((Decides-int_eq (in_print p.height) (in_print p.height)).1 refl) in
    ap (λ b. b || false) same

none_else : (p : Paper) (all : List MadeSheet) → AreOn p all → different_from (p ∷ []) (papers all) ≡ p ∷ []
none_else p [] h = refl
none_else p (sheet ∷ all) h =
    ap (λ q. different_from (p ∷ []) (q ∷ papers all)) h.0
    ∙ ap (λ b. if b then different_from (p ∷ []) (papers all) else different_from (p ∷ p ∷ []) (papers all)) (alike p)
    ∙ none_else p all h.1

one_told : (p : Paper) (sheet : MadeSheet) (all : List MadeSheet) → AreOn p (sheet ∷ all) → papers_reported (papers (sheet ∷ all)) ≡ p ∷ []
one_told p sheet all h =
    ap (λ q. papers_reported (q ∷ papers all)) h.0 ∙ none_else p all h.1

pub one_paper_is_reported_as_one : OnePaperIsReportedAsOne
one_paper_is_reported_as_one p [] h = omega arith
one_paper_is_reported_as_one p (sheet ∷ all) h =
    let one : length (papers_reported (papers (sheet ∷ all))) ≡ 1 = ap length (one_told p sheet all h) in
    omega (arith, one)

told_is_quiet : (told : List Paper) → length told ≤ 1 → IsQuiet (reporting_of told)
told_is_quiet [] few = record { header = refl; start = λ s paper. refl; finish = λ s paper. refl }
told_is_quiet (p ∷ []) few = one_is_quiet p
told_is_quiet (p ∷ q ∷ more) few = absurd (omega (arith, few))

pub reporting_is_quiet : ReportingIsQuiet
reporting_is_quiet all few = told_is_quiet (papers_reported (papers all)) few

-- What impose makes.

pub made_document_is_shown : MadeDocumentIsShown
made_document_is_shown sheet border all text us picture s on d few apart run h =
    let again : List NestedUnit = units_of (guarded sheet text) in
    let stays = guard_stays sheet text us d few in
    guarded_is_shown border (reporting all) all (guarded sheet text) again picture s (reporting_is_quiet all on) stays.0 apart run
    (guarded_bodies border again picture s run.5 all (guarded_again border us again picture s all stays.1.same_pages h))

pub own_made_document_is_shown : OwnMadeDocumentIsShown
own_made_document_is_shown sheet border all text us picture d s on doc few apart run has h =
    own_is_shown sheet border (reporting all) all text us picture d s (reporting_is_quiet all on) doc few apart run has h

pub silenced_made_document_is_shown : SilencedMadeDocumentIsShown
silenced_made_document_is_shown sheet border all text us picture s on doc few apart run has h =
    silenced_is_shown sheet border (reporting all) all text us picture s (reporting_is_quiet all on) doc few apart run has h
