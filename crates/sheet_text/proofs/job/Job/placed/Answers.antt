use Rattle.std.proofs.Common.{arith, ap, sym, subst, Some, ◌∙◌, ◌≡◌, List, length}
use Rattle.std.specs.Prelude.{slice_get, slice_index_or}
use Rattle.rules.specs.Parts.{pages}
use Rattle.pagespec.specs.Items.{item_of}
use Rattle.rules.specs.Made.{MadeSlot, made_of}
use Rattle.rules.specs.Dress.{undressed}
use Rattle.rules.specs.Dressed.{DressedSheet, dressed_sheets}
use Rattle.sheet_plan.specs.Plans.{IsSound}
use Rattle.sheet_plan.specs.OfSheets.{slots_at}
use Rattle.sheet_text.specs.Dressings.{dress_in}
use Rattle.sheet_text.specs.Jobs.{JobView, AreOfPlan, no_sheet}
use Rattle.sheet_text.specs.PapersOf.{sheets_on}
use Rattle.sheet_text.specs.declared.sheet_papers.SheetPapers.{SheetPapers}
use Rattle.sheet_text.proofs.Dressed.{counted, slots_are}
use Rattle.sheet_text.proofs.OnePaper.{slot_at, blank_at}
use Rattle.sheet_text.proofs.Slots.{planned, slot_count, page_within}
use Rattle.sheet_text.proofs.job.Job.placed.Goals as goal

pub placed-requires-clause-sheet : goal.placed-requires-clause-sheet
placed-requires-clause-sheet c =
    let dress = dress_in c.in-Made.field-1.now in
    let all = c.in-Made.sheets.now in
    let job = c.args.self.now in
    let is : dressed_sheets dress all ≡ job.sheets = ap (λ (p : SheetPapers). sheets_on p c.self.inside.plan.now) (sym c.in-Made.is) ∙ ap (λ (j : JobView). j.sheets) c.self.view_is in
    let of : AreOfPlan job.plan job.sheets = subst (λ (j : JobView). AreOfPlan j.plan j.sheets) c.self.view_is c.self.invariant.3 in
    counted job.plan job.sheets dress all c.args.sheet is of c.requires.sheet

pub placed-requires-clause-slot : goal.placed-requires-clause-slot
placed-requires-clause-slot c =
    let dress = dress_in c.in-Made.field-1.now in
    let all = c.in-Made.sheets.now in
    let job = c.args.self.now in
    let is : dressed_sheets dress all ≡ job.sheets = ap (λ (p : SheetPapers). sheets_on p c.self.inside.plan.now) (sym c.in-Made.is) ∙ ap (λ (j : JobView). j.sheets) c.self.view_is in
    let of : AreOfPlan job.plan job.sheets = subst (λ (j : JobView). AreOfPlan j.plan j.sheets) c.self.view_is c.self.invariant.3 in
    let there : length (slice_index_or job.sheets c.args.sheet no_sheet).slots ≡ length (slots_at all c.args.sheet) =
    ap (λ (sheets : List DressedSheet). length (slice_index_or sheets c.args.sheet no_sheet).slots) (sym is) ∙ ap (λ (slots : List MadeSlot). length slots) (slots_are dress all c.args.sheet) in
    let count = slot_count job.plan job.sheets c.args.sheet of in
    let within = c.requires.slot in
    let same = c.from.ensures in
    omega (arith, there, count, within, same)

pub returns-in-Some-clause-value : goal.returns-in-Some-clause-value
returns-in-Some-clause-value c =
    let paper = c.in-One.paper in
    let plan = c.self.inside.plan.now in
    let is : dressed_sheets undressed (made_of paper plan.sheets) ≡ c.args.self.now.sheets = ap (λ (p : SheetPapers). sheets_on p plan) (sym c.in-One.is) ∙ ap (λ (j : JobView). j.sheets) c.self.view_is in
    ap (λ (sheets : List DressedSheet). slice_get (slice_index_or sheets c.args.sheet no_sheet).slots c.args.slot) (sym is)
    ∙ slot_at paper plan c.args.sheet c.args.slot (Some c.in-Some.page) (item_of c.item_of.result.now) (c.page_of.ensures.value ∙ ap Some c.in-Some.is) c.item_of.ensures.value

pub returns-in-None-clause-value : goal.returns-in-None-clause-value
returns-in-None-clause-value c =
    let paper = c.in-One.paper in
    let plan = c.self.inside.plan.now in
    let is : dressed_sheets undressed (made_of paper plan.sheets) ≡ c.args.self.now.sheets = ap (λ (p : SheetPapers). sheets_on p plan) (sym c.in-One.is) ∙ ap (λ (j : JobView). j.sheets) c.self.view_is in
    ap (λ (sheets : List DressedSheet). slice_get (slice_index_or sheets c.args.sheet no_sheet).slots c.args.slot) (sym is)
    ∙ blank_at paper plan c.args.sheet c.args.slot (c.page_of.ensures.value ∙ ap Some c.in-None.is)

pub returns-in-Made-clause-value : goal.returns-in-Made-clause-value
returns-in-Made-clause-value c =
    let dress = dress_in c.in-Made.field-1.now in
    let all = c.in-Made.sheets.now in
    let job = c.args.self.now in
    let is : dressed_sheets dress all ≡ job.sheets = ap (λ (p : SheetPapers). sheets_on p c.self.inside.plan.now) (sym c.in-Made.is) ∙ ap (λ (j : JobView). j.sheets) c.self.view_is in
    let of : AreOfPlan job.plan job.sheets = subst (λ (j : JobView). AreOfPlan j.plan j.sheets) c.self.view_is c.self.invariant.3 in
    ap (λ (sheets : List DressedSheet). slice_get (slice_index_or sheets c.args.sheet no_sheet).slots c.args.slot) (sym is)
    ∙ ap (λ (slots : List MadeSlot). slice_get slots c.args.slot) (slots_are dress all c.args.sheet)
    ∙ ap (slice_get (slots_at all c.args.sheet)) (sym c.from.ensures)
    ∙ c.placed.ensures

pub returns-in-Made-clause-page : goal.returns-in-Made-clause-page
returns-in-Made-clause-page c =
    let dress = dress_in c.in-Made.field-1.now in
    let all = c.in-Made.sheets.now in
    let job = c.args.self.now in
    let is : dressed_sheets dress all ≡ job.sheets = ap (λ (p : SheetPapers). sheets_on p c.self.inside.plan.now) (sym c.in-Made.is) ∙ ap (λ (j : JobView). j.sheets) c.self.view_is in
    let of : AreOfPlan job.plan job.sheets = subst (λ (j : JobView). AreOfPlan j.plan j.sheets) c.self.view_is c.self.invariant.3 in
    let sound : IsSound job.plan = subst (λ (j : JobView). IsSound j.plan) c.self.view_is c.self.invariant.2 in
    let all_pages : job.plan.pages ≡ length (pages job.units) = subst (λ (j : JobView). j.plan.pages ≡ length (pages j.units)) c.self.view_is c.self.invariant.0 in
    page_within job.plan job.sheets c.args.sheet c.args.slot _ c.placed.result sound of c.requires.sheet all_pages
    (ap (λ (sheets : List DressedSheet). slice_get (slice_index_or sheets c.args.sheet no_sheet).slots c.args.slot) (sym is)
    ∙ ap (λ (slots : List MadeSlot). slice_get slots c.args.slot) (slots_are dress all c.args.sheet)
    ∙ ap (slice_get (slots_at all c.args.sheet)) (sym c.from.ensures)
    ∙ c.placed.ensures)

pub returns-in-Made-clause-planned : goal.returns-in-Made-clause-planned
returns-in-Made-clause-planned c =
    let dress = dress_in c.in-Made.field-1.now in
    let all = c.in-Made.sheets.now in
    let job = c.args.self.now in
    let is : dressed_sheets dress all ≡ job.sheets = ap (λ (p : SheetPapers). sheets_on p c.self.inside.plan.now) (sym c.in-Made.is) ∙ ap (λ (j : JobView). j.sheets) c.self.view_is in
    let of : AreOfPlan job.plan job.sheets = subst (λ (j : JobView). AreOfPlan j.plan j.sheets) c.self.view_is c.self.invariant.3 in
    planned job.plan job.sheets c.args.sheet c.args.slot _ of
    (ap (λ (sheets : List DressedSheet). slice_get (slice_index_or sheets c.args.sheet no_sheet).slots c.args.slot) (sym is)
    ∙ ap (λ (slots : List MadeSlot). slice_get slots c.args.slot) (slots_are dress all c.args.sheet)
    ∙ ap (slice_get (slots_at all c.args.sheet)) (sym c.from.ensures)
    ∙ c.placed.ensures)
