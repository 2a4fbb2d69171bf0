-- What holds of what impose wrote.
use Rattle.std.specs.Prelude.{◌≡◌, ℕ, Bool, ◌<◌, ◌≤◌, List, ◌∷◌, ◌++◌, length, Option, None, Some, Ok}
use Rattle.std.specs.Io.KnownBytes.{Appends}
use Rattle.rules.specs.Papers.{Paper}
use Rattle.rules.specs.Parts.{NestedUnit, page_run, pages, trailer}
use Rattle.rules.specs.Output.{Border}
use Rattle.rules.specs.Run.{document_of, most_input_bytes}
use Rattle.dsc.specs.Units.{units_of}
use Rattle.rules.specs.Choice.{imposed_row, sides_for}
use Rattle.rules.specs.Made.{MadeSheet}
use Rattle.rules.specs.Rows.{Row}
use Rattle.row_sheets.specs.RowSheets.{selected}
use Rattle.rules.specs.Dress.{Dress}
use Rattle.imposed_again.specs.Again.{open_depth}
use Rattle.imposed_again.specs.MadeAgain.{IsMadeAgain, made_texts}
use Rattle.papers.specs.Reported.{reporting}
use Rattle.dressing.specs.Numbered.{drawn_on}
use Rattle.layouts.specs.declared.setting.Setting.{Setting}
use Rattle.rows.specs.Sewing.{signing_of}
use Rattle.rows.specs.declared.sewing.Signing.{Signing}
use Rattle.row_runs.specs.ReadAsBound.{AreReadAs}
use Rattle.row_runs.specs.Runs.{AreTurned, border_on, drawn_of, output_on}
use Rattle.row_runs.specs.Sheets.{laying_for, leaves_in, row_printed, sewn}
use Rattle.row_runs.specs.Turning.{turn_on}
use Rattle.row_runs.specs.Written.{AreInTheirCells, AreReadInOrder, KeepTheirRoom, NoneIsTurned, StandAsWritten}
use Rattle.row_runs.specs.declared.run.RowJob.{RowJob}
use Rattle.row_sheets.specs.declared.fill.Scheme.TheVariants as scheme
use Rattle.row_runs.specs.declared.sheet_request.Laying.{Laying}
use Rattle.row_runs.specs.declared.sheet_request.Laying.TheVariants as laying
use Rattle.impose_cli.specs.RowTasks.{FinishesRow, LaysBy, guarded_paper}
use Rattle.impose_words.specs.Choices.{choice_in}
use Rattle.impose_words.specs.declared.request.ImposeRequest.{ImposeRequest}
use Rattle.impose_messages.specs.declared.finished.Finished.{Finished}

-- The text, written of a document with these made sheets and lines, is a document again: it is accepted, and its preamble and trailer
-- are the texts that were written. Its pages are the sheets if the document's last page leaves no embedded document
-- open, and so if the document has a trailer.
pub record IsMadeDocument (border : Option Border) (dress : Dress) (all : List MadeSheet) (us : List NestedUnit) (text : List ℕ)
    : Type 0 where
  pub accepted : document_of text ≡ Ok (units_of text)
  pub again : IsMadeAgain border dress all us (units_of text)
  pub shut : open_depth (page_run us) ≡ 0 → pages (units_of text) ≡ made_texts border dress (pages us) all
  pub with_trailer : 0 < length (trailer us) → pages (units_of text) ≡ made_texts border dress (pages us) all

-- what was appended for a request that was carried out is a document again, if it has no more than 2^30 bytes
abbrev pub WroteDocument : Type 0
WroteDocument =
    (r : ImposeRequest) (input old text : List ℕ) (done : Finished)
    → (h : FinishesRow r input (Some old) (Some (old ++ text)) done) → length text ≤ most_input_bytes → 0 < length h.imposes.made
    → IsMadeDocument (border_on h.job) (drawn_on (drawn_of h.job) (reporting h.imposes.made)) h.imposes.made h.job.document.now text

-- What was written for a job is exactly the output of sheets whose pages keep their places, as the job's laying has them: each is in its
-- cell, and they are read in the order of the row; if no page is turned, pages are between the margins and apart
pub record KeepsPlaces (j : RowJob) (old new : Option (List ℕ)) : Type 0 where
  pub made : List MadeSheet
  pub turned : AreTurned j made
  pub written : Appends old new (output_on j made)
  pub stand : NoneIsTurned j → StandAsWritten j.swapped j.asked.laying made
  pub cells : AreInTheirCells (turn_on j.turns.now) j.swapped (laying_for j.asked j.papers.now turned.asked.row)
      (leaves_in (sewn j.asked) turned.asked.row) made
  pub room : KeepTheirRoom j.swapped (laying_for j.asked j.papers.now turned.asked.row) (leaves_in (sewn j.asked) turned.asked.row) made
  pub read : AreReadInOrder (laying_for j.asked j.papers.now turned.asked.row) (row_printed j.asked turned.asked.row) made
  pub bound : (t : Setting) (turned_backs : Bool) (creep : ℕ) (how : Signing)
      → j.asked.laying ≡ laying.InCells t (scheme.Booklet turned_backs creep) → j.asked.row.signing ≡ Some how
      → AreReadAs t.order.right_to_left turned_backs (sides_for (signing_of how) (length turned.asked.row)) turned.asked.row made

-- a request that lays a row and was carried out wrote such sheets, as `impose booklet` does: a law
abbrev pub ImposedKeepsPlaces : Type 0
ImposedKeepsPlaces =
    (r : ImposeRequest) (input : List ℕ) (old new : Option (List ℕ)) (done : Finished)
    → (h : FinishesRow r input old new done) → KeepsPlaces h.job old new

-- the first sheet of a laying has this paper: in cells, on posters and by a specification they all have one
abbrev pub IsOfFirst : Laying → List Paper → Row → Paper → Type 0
IsOfFirst (laying.AsTheyAre blank) papers row paper =
    (sheet : MadeSheet) (more : List MadeSheet) → selected papers blank row ≡ sheet ∷ more → sheet.paper ≡ paper
IsOfFirst (laying.InCells t how) papers row paper = t.room.paper ≡ paper
IsOfFirst (laying.Poster p) papers row paper = p.sheet ≡ paper
IsOfFirst (laying.BySpec spec sheet page) papers row paper = sheet ≡ paper

-- the guard sets the page size of the first sheet that is made, as by `impose select 1-`: a law
abbrev pub GuardIsOfFirst : Type 0
GuardIsOfFirst = (r : ImposeRequest) (papers : List Paper) (page_paper : Paper) (row : Row) (l : Laying) → LaysBy r page_paper l
    → imposed_row (length papers) (choice_in r.choice) None ≡ Ok row → IsOfFirst l papers row (guarded_paper r papers page_paper)
