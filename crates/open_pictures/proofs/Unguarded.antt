-- What a machine prints of every sheet that impose writes without the guard.
use Rattle.std.specs.Prelude.{Option, Some, None, codes, bytes_eq, nat_le, if◌then◌else◌}
use Rattle.std.proofs.lemmas.Bool.{le-leb}
use Rattle.std.proofs.Common.{◌≡◌, ℕ, ◌+◌, ◌≤◌, refl, ap, ◌∙◌, true, false, not, ◌&&◌, List, [], ◌∷◌, ◌++◌, length, arith}
use Rattle.rules.specs.Numbers.{points_text}
use Rattle.rules.specs.Papers.{Paper}
use Rattle.rules.specs.Parts.{preamble, bytes_of}
use Rattle.dressing.specs.declared.strokes.Stroke.{Stroke}
use Rattle.pictures.specs.Objects.{Token, Number, Name, Literal, Opens, Closes, Object, Plain, Truth, Procedure, Dictionary}
use Rattle.pictures.specs.Dictionaries.{DictionaryEntry, system, dictionary_entry, has, is_lacked}
use Rattle.pictures.specs.Operators.{holder, located, with_operands}
use Rattle.pictures.specs.Machine.{State, Painting, push, worked, Runs}
use Rattle.pictures.specs.Sheets.{run_of, IsGround, sheet_names}
use Rattle.pictures.specs.Unaware.{IsPlainGround, PagePrints, absent}
use Rattle.pictures.specs.Documents.{started, page_frame}
use Rattle.pictures.proofs.Runs.{AreRuns, free_are_runs, runs_none}
use Rattle.pictures.proofs.Names.{not_true}
use Rattle.pictures.proofs.Opening.{is_apart}
use Rattle.pictures.proofs.Placed.{both_true}
use Rattle.pictures.proofs.Tests.{first, second}
use Rattle.pictures.proofs.Sheets.{fresh, ground_prints}
use Rattle.pictures.proofs.Straight.{Known}
use Rattle.pictures.proofs.Own.{page_paints}
use Rattle.pictures.proofs.Output.{free_runs_on, body_places}
use Rattle.pictures.proofs.Steps.{some, by_name}
use Rattle.pictures.proofs.Redrawn.{with}
use Rattle.pictures.proofs.Ground.{entry_other}
use Rattle.pictures.proofs.SheetsOfSheets.{operands_old, dictionaries_old}
use Rattle.open_pictures.specs.Machine.{OpenRuns}
use Rattle.open_pictures.specs.Documents.{begun_machine, OpenPagePrints}
use Rattle.open_pictures.proofs.Runs.{open_are_runs}
use Rattle.open_pictures.proofs.Output.{open_runs_on, still_body}
use Rattle.open_pictures.proofs.Own.{own_body_places}
use Rattle.open_pictures.specs.Marks.{with_strokes}
use Rattle.open_pictures.specs.Sizes.{sizing_names, size_by, sized, begun_on}
use Rattle.open_pictures.specs.DressedDocuments.{papers_reported_by}
use Rattle.open_pictures.specs.Unguarded.{asking_names, TakesPlainLines, DressedSheetsShowThePages, OpenDressedSheetsShowThePages}
use Rattle.open_pictures.proofs.LinesRead.{flag_tokens, other_tokens, asking_tokens, mark_tokens, start_tokens}
use Rattle.open_pictures.proofs.Drawing.{marks_run}
use Rattle.open_pictures.proofs.Sizing.{flag, by_operator, runs_by, still_known, lines_still, more, same_level}
use Rattle.open_pictures.proofs.SheetsRun.{RunsLines, BodyBegun, on_begun, document_is_dressed}

-- psutils' flag isn't there, and userdict has no showpage: so the size is set.

none_holds : (ds : List ℕ) (es : List DictionaryEntry) (name : List ℕ) → absent ds es name ≡ true → holder ds es name ≡ None
none_holds [] es name e = refl
none_holds (d ∷ ds) es name e =
    let here : Option Object = dictionary_entry d name es in
    ap (λ b. if b then Some d else holder ds es name) (not_true (has here) (first (not (has here)) (absent ds es name) e))
    ∙ none_holds ds es name (second (not (has here)) (absent ds es name) e)

two_there : (a b : Object) (os : List Object) → nat_le 2 (length (a ∷ b ∷ os)) ≡ true
two_there a b os = le-leb 2 (length (a ∷ b ∷ os)) (omega arith)

asked_plainly : (s : State) (l : List Token) → Known sizing_names s.work → Known asking_names s.work → absent s.work.dictionaries s.work.entries flag ≡ true
    → dictionary_entry 0 (codes "showpage") s.work.entries ≡ None → Runs false (run_of (asking_tokens ++ l) s) (run_of l (push (Truth true) s))
asked_plainly s l k q away none =
    let os : List Object = s.work.operands in
    let key : Object = Plain (Literal (codes "showpage")) in
    let d : Object = Dictionary 0 in
    let two : Object = Plain (Number (codes "2")) in
    let taking : List Token = Name (codes "get") ∷ Name (codes "dup") ∷ Name (codes "type") ∷ Literal (codes "operatortype") ∷ Name (codes "eq")
    ∷ Opens ∷ Name (codes "pop") ∷ Name (codes "true") ∷ Closes
    ∷ Opens ∷ Name (codes "length") ∷ Number (codes "0") ∷ Name (codes "ne") ∷ Closes ∷ Name (codes "ifelse") ∷ [] in
    let leaving : List Token = Name (codes "pop") ∷ Name (codes "pop") ∷ Name (codes "true") ∷ [] in
    let end : State = run_of l (push (Truth true) s) in
    let l1 : List Token = Opens ∷ (flag_tokens ++ (Closes ∷ Opens ∷ (other_tokens ++ (Closes ∷ Name (codes "ifelse") ∷ l)))) in
    let m4 : List Token = Name (codes "ifelse") ∷ l in
    let m3 : List Token = Opens ∷ (taking ++ (Closes ∷ Opens ∷ (leaving ++ (Closes ∷ m4)))) in
    let m2 : List Token = Name (codes "known") ∷ m3 in
    let m1 : List Token = Literal (codes "showpage") ∷ Number (codes "2") ∷ Name (codes "copy") ∷ m2 in
    let n2 : List Token = Name (codes "true") ∷ l in
    let n1 : List Token = Name (codes "pop") ∷ n2 in
    let named : State = with s (Plain (Literal flag) ∷ os) in
    let there : State = with s (Truth false ∷ os) in
    let both : State = with s (Procedure other_tokens ∷ Procedure flag_tokens ∷ Truth false ∷ os) in
    let counted : State = with s (two ∷ key ∷ d ∷ os) in
    let copied : State = with s (key ∷ d ∷ key ∷ d ∷ os) in
    let told : State = with s (Truth false ∷ key ∷ d ∷ os) in
    let either : State = with s (Procedure leaving ∷ Procedure taking ∷ Truth false ∷ key ∷ d ∷ os) in
    some 1 (run_of (asking_tokens ++ l) s) (run_of (Name (codes "where") ∷ l1) named) end refl
    (by_operator (codes "where") l1 named (run_of l1 there) end k refl
    (ap (λ x. worked (located x (has (system flag)) (is_lacked flag) (with_operands named.work os)) (run_of l1 named)) (none_holds s.work.dictionaries s.work.entries flag away))
    (some 2 (run_of l1 there) (run_of (Name (codes "ifelse") ∷ l) both) end refl
    (by_operator (codes "ifelse") l both (run_of (Name (codes "userdict") ∷ m1) s) end k refl refl
    (by_name (codes "userdict") m1 s (run_of m1 (with s (d ∷ os))) end (system (codes "userdict")) (q (codes "userdict") refl) refl
    (some 2 (run_of m1 (with s (d ∷ os))) (run_of (Name (codes "copy") ∷ m2) counted) end refl
    (by_name (codes "copy") m2 counted (run_of m2 copied) end (system (codes "copy")) (q (codes "copy") refl)
    (ap (λ b. worked (if b then Some (with_operands counted.work (key ∷ d ∷ key ∷ d ∷ os)) else None) (run_of m2 counted)) (two_there key d os))
    (by_operator (codes "known") m3 copied (run_of m3 told) end k refl (ap (λ x. worked (Some (with_operands copied.work (Truth (has x) ∷ key ∷ d ∷ os))) (run_of m3 copied)) none)
    (some 2 (run_of m3 told) (run_of m4 either) end refl
    (by_operator (codes "ifelse") l either (run_of (Name (codes "pop") ∷ n1) (with s (key ∷ d ∷ os))) end k refl refl
    (by_operator (codes "pop") n1 (with s (key ∷ d ∷ os)) (run_of n1 (with s (d ∷ os))) end k refl refl
    (by_operator (codes "pop") n2 (with s (d ∷ os)) (run_of n2 s) end k refl refl
    (by_name (codes "true") l s end end (system (codes "true")) (q (codes "true") refl) refl (runs_none false end)))))))))))))

-- What was so stays so.

pub ground_still : (s : State) (paper : Paper) → IsPlainGround s → IsPlainGround (sized paper s)
ground_still s paper p =
    let made : ℕ = s.work.made in
    let g : IsGround s = p.ground in
    let ground : IsGround (sized paper s) = record {
      names = still_known sheet_names s paper (λ name m. is_apart (codes "PageSize") name sheet_names refl m) g.names;
      operands = operands_old made (made + 1) s.level s.level s.work.operands (more made) (same_level s) g.operands;
      dictionaries = dictionaries_old made (made + 1) s.work.dictionaries (more made) g.dictionaries;
      graphics = g.graphics;
    } in
    record {
      ground = ground;
      stacked = p.stacked;
      saves = p.saves;
      painted = p.painted;
      operands = p.operands;
      entries = p.entries;
      has_userdict = p.has_userdict;
      no_showpage = p.no_showpage;
      no_save = p.no_save;
    }

absent_still : (ds : List ℕ) (es : List DictionaryEntry) (name : List ℕ) (e : DictionaryEntry) → bytes_eq e.key name ≡ false → absent ds es name ≡ true → absent ds (e ∷ es) name ≡ true
absent_still [] es name e other h = refl
absent_still (d ∷ ds) es name e other h =
    let here : Option Object = dictionary_entry d name es in
    ap (λ x. not (has x) && absent ds (e ∷ es) name) (entry_other d e es name other)
    ∙ both_true (not (has here)) (absent ds (e ∷ es) name) (first (not (has here)) (absent ds es name) h)
    (absent_still ds es name e other (second (not (has here)) (absent ds es name) h))

-- The lines after an unguarded preamble.

abbrev TakesPlain : List Paper → List Stroke → State → Type 0
TakesPlain told strokes s = IsPlainGround s × TakesPlainLines told strokes s

starts : (told : List Paper) (strokes : List Stroke) (paper : Paper) (s : State) (rest : List Token) (sheets : List (List Painting)) → TakesPlain told strokes s
    → Runs false (fresh s (start_tokens told paper ++ rest) [] sheets) (fresh (begun_on told paper s) rest [] sheets)
starts [] strokes paper s rest sheets i = runs_none false (fresh s rest [] sheets)
starts (p ∷ []) strokes paper s rest sheets i = runs_none false (fresh s rest [] sheets)
starts (p ∷ q ∷ ps) strokes paper s rest sheets (g, t) =
    let le : 2 ≤ length (p ∷ q ∷ ps) = omega arith in
    runs_by s paper rest sheets (t.lines.sizes le) (λ l. asked_plainly (record s { painted = []; sheets = sheets }) l (t.lines.sizes le) (t.asks le) (t.no_flag le) g.no_showpage) g.ground.graphics

stays : (told : List Paper) (strokes : List Stroke) (paper : Paper) (s : State) → TakesPlain told strokes s → TakesPlain told strokes (begun_on told paper s)
stays [] strokes paper s i = i
stays (p ∷ []) strokes paper s i = i
stays (p ∷ q ∷ ps) strokes paper s (g, t) = (
  ground_still s paper g,
  record {
    lines = lines_still (p ∷ q ∷ ps) strokes s paper t.lines;
    asks = λ le. still_known asking_names s paper (λ name m. is_apart (codes "PageSize") name asking_names refl m) (t.asks le);
    no_flag = λ le. absent_still s.work.dictionaries s.work.entries flag (size_by (points_text paper.width) (points_text paper.height) (s.work.made + 1)) refl (t.no_flag le);
  },
)

runs_lines : (R : State → State → Type 0) → AreRuns R → (told : List Paper) (strokes : List Stroke) → RunsLines R told strokes (TakesPlain told strokes)
runs_lines R m told strokes = record {
  starts = λ paper s rest sheets i. m.free (fresh s (start_tokens told paper ++ rest) [] sheets) (fresh (begun_on told paper s) rest [] sheets) (starts told strokes paper s rest sheets i);
  stays = λ paper s i. stays told strokes paper s i;
  draws = λ s ps rest sheets i. m.free (fresh s (mark_tokens strokes ++ rest) ps sheets) (fresh s rest (with_strokes s.graphics strokes ps) sheets) (marks_run strokes s ps sheets rest i.1.lines.marks);
  prints = λ s i. ground_prints R m s i.0.ground;
}

pub dressed_sheets_show_the_pages : DressedSheetsShowThePages
dressed_sheets_show_the_pages border strokes all text us picture s d apart (complete, run, left, painted, printed, g) takes h =
    let told : List Paper = papers_reported_by all in
    let lines : RunsLines (Runs false) told strokes (TakesPlain told strokes) = runs_lines (Runs false) free_are_runs told strokes in
    document_is_dressed (Runs false) free_are_runs started border told strokes all text us picture s (TakesPlain told strokes) lines (g, takes) d apart
    (free_runs_on (bytes_of (preamble us)) s complete run left) painted
    (on_begun told (TakesPlain told strokes) (λ at own p. PagePrints us at p (picture p)) (BodyBegun (Runs false) border us picture) lines.stays
    (λ at own p i x. body_places (page_frame border own) us at p 0 (picture p) i.0.ground (page_paints us at p (picture p) i.0 x)) all s (g, takes) h)

pub open_dressed_sheets_show_the_pages : OpenDressedSheetsShowThePages
open_dressed_sheets_show_the_pages x z w border strokes all text us picture s blind runs d apart (complete, run, left, painted, printed, g) takes h =
    let told : List Paper = papers_reported_by all in
    let lines : RunsLines (OpenRuns z false) told strokes (TakesPlain told strokes) = runs_lines (OpenRuns z false) (open_are_runs z) told strokes in
    document_is_dressed (OpenRuns z false) (open_are_runs z) (begun_machine w) border told strokes all text us picture s (TakesPlain told strokes) lines (g, takes) d apart
    (open_runs_on z w (bytes_of (preamble us)) s runs.sees_nothing_after complete run left) painted
    (on_begun told (TakesPlain told strokes) (λ at own p. OpenPagePrints x us at p (picture p)) (BodyBegun (OpenRuns z false) border us picture) lines.stays
    (λ at own p i y. still_body x z (page_frame border own) us at 0 p (picture p) runs.extends
    (own_body_places x (page_frame border own) us at 0 p (picture p) blind i.0 y)) all s (g, takes) h)
