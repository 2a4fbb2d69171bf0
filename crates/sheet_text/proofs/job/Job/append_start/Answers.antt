use Rattle.std.proofs.Common.{ap, sym, subst, ◌∙◌, ◌≡◌, ◌++◌, append-nil, List, ℕ}
use Rattle.std.specs.Prelude.{slice_index_or, OnOk}
use Rattle.rules.specs.Made.{made_of}
use Rattle.rules.specs.Dress.{lines_text, undressed}
use Rattle.rules.specs.Dressed.{DressedSheet, dressed_sheets}
use Rattle.sheet_text.specs.Dressings.{dress_in}
use Rattle.sheet_text.specs.Jobs.{JobView, AreOfPlan, no_sheet}
use Rattle.sheet_text.specs.PapersOf.{sheets_on}
use Rattle.sheet_text.specs.declared.sheet_papers.SheetPapers.{SheetPapers}
use Rattle.sheet_text.proofs.Dressed.{counted, start_at}
use Rattle.sheet_text.proofs.OnePaper.{sheet_is}
use Rattle.sheet_text.proofs.job.Job.append_start.Goals as goal

pub paper-requires : goal.paper-requires
paper-requires c =
    let d = dress_in c.in-Made.dress.now in
    let all = c.in-Made.sheets.now in
    let job = c.args.self.now in
    let is : dressed_sheets d all ≡ job.sheets = ap (λ (p : SheetPapers). sheets_on p c.self.inside.plan.now) (sym c.in-Made.is) ∙ ap (λ (j : JobView). j.sheets) c.self.view_is in
    let of : AreOfPlan job.plan job.sheets = subst (λ (j : JobView). AreOfPlan j.plan j.sheets) c.self.view_is c.self.invariant.3 in
    counted job.plan job.sheets d all c.args.sheet is of c.requires

pub returns-in-One : goal.returns-in-One
returns-in-One c =
    let paper = c.in-One.field-0 in
    let plan = c.self.inside.plan.now in
    let is : dressed_sheets undressed (made_of paper plan.sheets) ≡ c.args.self.now.sheets = ap (λ (p : SheetPapers). sheets_on p plan) (sym c.in-One.is) ∙ ap (λ (j : JobView). j.sheets) c.self.view_is in
    sym (append-nil c.args.text.now)
    ∙ ap (λ (sheet : DressedSheet). c.args.text.now ++ lines_text sheet.start) (sym (sheet_is paper plan c.args.sheet))
    ∙ ap (λ (sheets : List DressedSheet). c.args.text.now ++ lines_text (slice_index_or sheets c.args.sheet no_sheet).start) is

pub returns-in-Made : goal.returns-in-Made
returns-in-Made c =
    let dress = c.in-Made.dress.now in
    let all = c.in-Made.sheets.now in
    let job = c.args.self.now in
    let is : dressed_sheets (dress_in dress) all ≡ job.sheets = ap (λ (p : SheetPapers). sheets_on p c.self.inside.plan.now) (sym c.in-Made.is) ∙ ap (λ (j : JobView). j.sheets) c.self.view_is in
    subst (λ (lines : List (List ℕ)). OnOk c.append_start.result (c.append_start.new.text ≡ c.args.text.now ++ lines_text lines))
    (start_at dress all c.args.sheet c.paper.result.now c.paper.ensures ∙ ap (λ (sheets : List DressedSheet). (slice_index_or sheets c.args.sheet no_sheet).start) is)
    c.append_start.ensures
