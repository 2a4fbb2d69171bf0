-- What a run wrote, read as a document, and given to another run.
use Rattle.std.specs.Io.KnownBytes.{Appends}
use Rattle.std.specs.Prelude.{◌≡◌, ℕ, ◌≤◌, List, [], length, Some, Ok}
use Rattle.rules.specs.Signatures.{sheets_in}
use Rattle.rules.specs.Parts.{page_run, pages}
use Rattle.rules.specs.Output.{output}
use Rattle.rules.specs.Run.{document_of, most_input_bytes}
use Rattle.dsc.specs.Units.{units_of}
use Rattle.dsc.specs.declared.errors.DscError.{DscError}
use Rattle.imposer.specs.Runs.{Request, frame_of, Accepted, AgreesWithChecks, Reports}
use Rattle.imposer.specs.declared.outcome.Report.{Report}
use Rattle.imposer.specs.declared.outcome.RunError.TheVariants as error
use Rattle.imposed_again.specs.Again.{open_depth, IsAgain}

-- a run on this request returned Ok with this report, and appended these bytes to none: this is what `run` promises
-- for an Ok, if the sink was empty
abbrev pub HasRun : Request → Report → List ℕ → Type 0
HasRun r report written =
    Accepted r (λ spec us.
    Appends (Some []) (Some written) (output (frame_of r.options) r.options.sides spec us)
    × Reports (frame_of r.options) r.options.sides spec us report)

-- what was written is a document. If the last page of the run's input leaves no embedded document open, the
-- document has as many pages as the report has sheets
abbrev pub RunIsDocument : Type 0
RunIsDocument =
    (r : Request) (report : Report) (written : List ℕ) → HasRun r report written → report.bytes ≤ most_input_bytes
    → (document_of written ≡ Ok (units_of written))
    × Accepted r (λ spec us.
    IsAgain (frame_of r.options) (sheets_in r.options.sides spec (length (pages us))) us (units_of written)
    × (open_depth (page_run us) ≡ 0 → length (pages (units_of written)) ≡ report.sheets))

-- a run on what a run wrote is not refused because of the document
abbrev pub RunsGoOn : Type 0
RunsGoOn =
    (r next : Request) (report : Report) (e : DscError)
    → HasRun r report next.input → report.bytes ≤ most_input_bytes → AgreesWithChecks next (error.Document e) → ⊥
