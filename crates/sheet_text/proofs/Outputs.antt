-- The output of a job is that of its sheets with their lines.
use Rattle.std.proofs.Common.{ℕ, suc, List, [], ◌∷◌, ◌+◌, ◌<◌, ◌++◌, ◌≡◌, ap, sym, refl, ◌∙◌, length, arith}
use Rattle.std.specs.Prelude.{map, flat_map, slice_index_or, Option}
use Rattle.std.specs.List.{enumerate_from, range_with_len}
use Rattle.std.proofs.lemmas.List.{length-map}
use Rattle.rules.specs.Sheets.{Plan}
use Rattle.rules.specs.Parts.{pages}
use Rattle.rules.specs.Filters.{trailer_text}
use Rattle.rules.specs.Output.{Border}
use Rattle.rules.specs.Dressed.{DressedSheet, dressed_sheet_text, dressed_output}
use Rattle.rules.specs.MadeOutput.{dressed_preamble}
use Rattle.rules.specs.MadePlans.{page_of}
use Rattle.sheet_text.specs.Jobs.{JobView, AreOfPlan, no_sheet, text_of, output_of}

-- texts by number are those of the sheets
texts_are : (border : Option Border) (texts : List (List ℕ)) (text : ℕ → List ℕ) (k : ℕ) (sheets : List DressedSheet)
    → ((i s : ℕ) → i < length sheets → s ≡ k + i → text s ≡ dressed_sheet_text border texts s (slice_index_or sheets i no_sheet))
    → flat_map text (range_with_len k (length sheets)) ≡ flat_map (λ (s, sheet). dressed_sheet_text border texts s sheet) (enumerate_from k sheets)
texts_are border texts text k [] each = refl
texts_are border texts text k (sheet ∷ sheets) each =
    ap (λ t. t ++ flat_map text (range_with_len (k + 1) (length sheets))) (each 0 k (omega arith) (omega arith))
    ∙ ap (λ t. dressed_sheet_text border texts k sheet ++ t)
    (texts_are border texts text (k + 1) sheets (λ i s within e. each (suc i) s (omega (arith, within)) (omega (arith, e))))

pub as_many : (plan : Plan) (sheets : List DressedSheet) → AreOfPlan plan sheets → length sheets ≡ length plan.sheets
as_many plan sheets of =
    sym (length-map sheets (λ sheet. map page_of sheet.slots))
    ∙ ap (λ rows. length rows) of
    ∙ length-map plan.sheets (λ slots. map (λ slot. slot.page) slots)

pub output_dressed : (job : JobView) → AreOfPlan job.plan job.sheets → output_of job ≡ dressed_output job.border job.header job.sheets job.units
output_dressed job of =
    ap (λ n. dressed_preamble n job.header job.units ++ flat_map (text_of job) (range_with_len 0 n) ++ trailer_text job.units) (sym (as_many job.plan job.sheets of))
    ∙ ap (λ t. dressed_preamble (length job.sheets) job.header job.units ++ t ++ trailer_text job.units)
    (texts_are job.border (pages job.units) (text_of job) 0 job.sheets
    (λ i s within e. ap (λ j. dressed_sheet_text job.border (pages job.units) s (slice_index_or job.sheets j no_sheet)) (same s i e)))
  where
    same : (s i : ℕ) → s ≡ 0 + i → s ≡ i
    same s i e = omega (arith, e)
