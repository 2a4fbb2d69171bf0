-- What a refused request says.
use Rattle.std.specs.Prelude.{◌≡◌, ◌⊎◌, ⊤, string_bytes, ℕ, IfSome, List, Option, None, Some, Err}
use Rattle.rules.specs.Admissible.{Takes, most_slots}
use Rattle.rules.specs.Papers.{Paper}
use Rattle.rules.specs.Specification.{Spec}
use Rattle.pagespec.specs.Refusals.{IsSyntaxPlace, IsRefusal}
use Rattle.pagespec.specs.declared.error.SpecError.{SpecError}
use Rattle.rules.specs.Run.{document_of}
use Rattle.imposer.specs.declared.outcome.RunError.TheVariants as run
use Rattle.dsc.specs.declared.errors.DscError.{DscError}
use Rattle.dsc.specs.Faults as dsc
use Rattle.imposer.specs.Outcomes.{of_document as of_read, of_spec}
use Rattle.impose_messages.specs.Faults.{without_memory}
use Rattle.impose_messages.specs.Inputs.{refused_document}
use Rattle.impose_cli.specs.RowTasks.{HasOptions, IsRowPaper, why_no_row, why_no_layout}
use Rattle.impose_words.specs.declared.request.Spacing.{Spacing}
use Rattle.impose_words.specs.declared.request.Layout.{Layout}
use Rattle.impose_words.specs.declared.request.Layout.TheVariants as layout
use Rattle.impose_words.specs.declared.request.ImposeRequest.{ImposeRequest}
use Rattle.impose_messages.specs.declared.fault.ImposeFault.{ImposeFault}
use Rattle.impose_messages.specs.declared.fault.ImposeFault.TheVariants as fault
use Rattle.impose_messages.specs.declared.finished.PaperOrigin.{PaperOrigin}

-- ---- the document

-- the document is refused for this reason, if it isn't for memory
abbrev pub IsDocumentRefused : (input : List ℕ) → DscError → Type 0
IsDocumentRefused input e = IfSome (dsc.reported_fault e) (λ f. document_of input ≡ Err f)

-- the fault is that of a reason for which the document is refused. Out of memory comes after the checks that need none
-- (RULES, 16, step 7)
abbrev pub RefusesDocument : (input : List ℕ) → ImposeFault → Type 0
RefusesDocument input f = (why : DscError) × (f ≡ refused_document why input) × IsDocumentRefused input why
    × dsc.PassedFirstChecks why input

-- the text that is imposed is refused for this reason: with its guard a document may be too long
abbrev pub RefusesText : (text : List ℕ) → ImposeFault → Type 0
RefusesText text f = (why : DscError) × (f ≡ fault.Run (of_read why)) × IsDocumentRefused text why

-- ---- the layout

-- the fault is why the layout can't lay pages of this paper on sheets of that
abbrev pub RefusesLayout : Layout → Spacing → (page_paper sheet_paper : Paper) → ImposeFault → Type 0
RefusesLayout l s page_paper sheet_paper f = why_no_layout l s page_paper sheet_paper ≡ Some f

-- out of memory, or this fault, if there is one
abbrev pub RefusesFor : Option ImposeFault → ImposeFault → Type 0
RefusesFor found f = (f ≡ without_memory) ⊎ (found ≡ Some f)

-- the text is that of a specification
abbrev pub IsSpecification : (text : List ℕ) → Type 0
IsSpecification text = (spec : Spec) × Takes most_slots text spec

-- the fault is the text's first, or out of memory; that of its grammar has a place in it
abbrev pub RefusesSpecification : (text : List ℕ) → ImposeFault → Type 0
RefusesSpecification text f = (e : SpecError) × (f ≡ fault.Run (of_spec e)) × IsRefusal text e × IsSyntaxPlace text e

-- the text that the layout names for a row is that of a specification, if it names one
abbrev pub HasGoodName : Layout → Type 0
HasGoodName (layout.Spec specs signing) = IsSpecification (string_bytes specs)
HasGoodName other = ⊤

-- or it is refused as none
abbrev pub RefusesNamed : Layout → ImposeFault → Type 0
RefusesNamed (layout.Spec specs signing) f = RefusesSpecification (string_bytes specs) f
RefusesNamed other f = ⊥

-- ---- a task

-- the options of a request are refused: a signature can't be folded or has too many sides, or a border is as wide as nothing
abbrev pub RefusesOptions : ImposeRequest → ImposeFault → Type 0
RefusesOptions r f = (f ≡ fault.Run run.Options) × (HasOptions r → ⊥)

-- why a row isn't laid: the layout can't lay it, or names no specification for it
abbrev pub RefusesRowLayout : Layout → Spacing → (page_paper sheet_paper : Paper) → ImposeFault → Type 0
RefusesRowLayout l s page_paper sheet_paper f = RefusesLayout l s page_paper sheet_paper f ⊎ RefusesNamed l f

-- why there is no task: the document is refused; or it isn't, and the layout is, or the specification that it names;
-- or they aren't, and the options are. Out of memory may come in place of what follows the document (RULES, 16, steps 7, 9, 10)
abbrev pub RefusesRowTask : ImposeRequest → (input : List ℕ) → ImposeFault → Type 0
RefusesRowTask r input f =
    RefusesDocument input f
    ⊎ ((found : Paper × PaperOrigin) × IsRowPaper r input found
    × (RefusesFor (why_no_row r found.0) f
    ⊎ (RefusesNamed r.layout f ⊎ ((why_no_row r found.0 ≡ None) × HasGoodName r.layout × RefusesOptions r f))))
