-- What a run wrote is a document.
use Rattle.std.specs.Prelude.{Option, Some, None, Ok, Err, IsSomeAnd}
use Rattle.std.specs.List.{enumerate_from}
use Rattle.std.proofs.Common.{◌≡◌, ℕ, suc, ◌+◌, ◌≤◌, List, [], ◌∷◌, length, map, refl, ap, arith, sym, ◌∙◌, subst}
use Rattle.rules.specs.Specification.{Spec}
use Rattle.rules.specs.Sheets.{Slot}
use Rattle.rules.specs.Signatures.{sheets_in}
use Rattle.rules.specs.Parts.{NestedUnit, page_run, pages}
use Rattle.rules.specs.Output.{Frame, sheet_text, output}
use Rattle.rules.specs.Run.{DocumentFault, document_of}
use Rattle.dsc.specs.Faults.{reported_fault}
use Rattle.dsc.specs.Units.{units_of}
use Rattle.imposer.specs.Runs.{Request, frame_of, IsRunAccepted, Reports}
use Rattle.imposer.specs.declared.outcome.Report.{Report}
use Rattle.imposed_again.specs.Again.{open_depth, IsAgain}
use Rattle.imposed_again.proofs.Again.{imposed_again}
use Rattle.imposer.specs.Again.{RunIsDocument, RunsGoOn}

as_many : {X : Type 0} (f : ℕ × X → List ℕ) (n : ℕ) (xs : List X) → length (map f (enumerate_from n xs)) ≡ length xs
as_many f n [] = refl
as_many f n (x ∷ xs) = ap suc (as_many f (n + 1) xs)

abbrev Says : Frame → Option ℕ → Spec → List NestedUnit → ℕ → List ℕ → Type 0
Says frame sides spec us count written =
    (document_of written ≡ Ok (units_of written)) × IsAgain frame (sheets_in sides spec (length (pages us))) us (units_of written)
    × (open_depth (page_run us) ≡ 0 → length (pages (units_of written)) ≡ count)

says : (r : Request) (spec : Spec) (us : List NestedUnit) (report : Report) → IsRunAccepted r spec us → Reports (frame_of r.options) r.options.sides spec us report → report.bytes ≤ 1_073_741_824
    → Says (frame_of r.options) r.options.sides spec us report.sheets (output (frame_of r.options) r.options.sides spec us)
says r spec us report a b l =
    let frame : Frame = frame_of r.options in
    let all : List (List Slot) = sheets_in r.options.sides spec (length (pages us)) in
    let size = b.byte_count in
    let i = imposed_again _ frame r.options.sides spec r.input us all a.document a.options.2 (record { text = r.spec; taken = a.takes }) a.plan (omega (arith, size, l)) in
    (i.0, i.1, λ h. ap length (i.2 h) ∙ as_many (λ (s, slots). sheet_text frame (pages us) s slots) 0 all ∙ sym b.sheet_count)

pub run_is_document : RunIsDocument
run_is_document r report written h l =
    let spec = h.0 in
    let us = h.1 in
    let s : Says (frame_of r.options) r.options.sides spec us report.sheets written = subst (Says (frame_of r.options) r.options.sides spec us report.sheets) (sym h.3.0) (says r spec us report h.2 h.3.1 l) in
    (s.0, (spec, us, h.2, (s.1, s.2)))

no_fault : (o : Option DocumentFault) (text : List ℕ) (us : List NestedUnit) → document_of text ≡ Ok us → IsSomeAnd o (λ f. document_of text ≡ Err f) → ⊥
no_fault None text us d h = h
no_fault (Some f) text us d h = cc

pub runs_go_on : RunsGoOn
runs_go_on r next report e h l bad = no_fault (reported_fault e) next.input (units_of next.input) (run_is_document r report next.input h l).0 bad.2
