use Rattle.std.proofs.Common.{ap, sym, subst, ◌∙◌, ◌≡◌, ◌++◌, append-nil, List, ℕ}
use Rattle.std.specs.Prelude.{slice_index_or, OnOk}
use Rattle.rules.specs.Made.{made_of}
use Rattle.rules.specs.Dress.{lines_text, undressed}
use Rattle.rules.specs.Dressed.{DressedSheet, dressed_sheets}
use Rattle.sheet_text.specs.Dressings.{dress_in}
use Rattle.sheet_text.specs.Jobs.{JobView, AreOfPlan, no_sheet}
use Rattle.sheet_text.specs.PapersOf.{sheets_on}
use Rattle.sheet_text.specs.declared.sheet_papers.SheetPapers.{SheetPapers}
use Rattle.sheet_text.proofs.Dressed.{counted, finish_at}
use Rattle.sheet_text.proofs.OnePaper.{sheet_is}
use Rattle.sheet_text.proofs.job.Job.append_finish.Goals as goal

pub returns-in-One : goal.returns-in-One
returns-in-One c =
    let paper = c.in-One.field-0 in
    let plan = c.self.inside.plan.now in
    let is : dressed_sheets undressed (made_of paper plan.sheets) ≡ c.args.self.now.sheets = ap (λ (p : SheetPapers). sheets_on p plan) (sym c.in-One.is) ∙ ap (λ (j : JobView). j.sheets) c.self.view_is in
    sym (append-nil c.args.text.now)
    ∙ ap (λ (sheet : DressedSheet). c.args.text.now ++ lines_text sheet.finish) (sym (sheet_is paper plan c.args.sheet))
    ∙ ap (λ (sheets : List DressedSheet). c.args.text.now ++ lines_text (slice_index_or sheets c.args.sheet no_sheet).finish) is

pub returns-in-Made : goal.returns-in-Made
returns-in-Made c =
    let dress = c.in-Made.dress.now in
    let all = c.in-Made.field-0.now in
    let job = c.args.self.now in
    let is : dressed_sheets (dress_in dress) all ≡ job.sheets = ap (λ (p : SheetPapers). sheets_on p c.self.inside.plan.now) (sym c.in-Made.is) ∙ ap (λ (j : JobView). j.sheets) c.self.view_is in
    let of : AreOfPlan job.plan job.sheets = subst (λ (j : JobView). AreOfPlan j.plan j.sheets) c.self.view_is c.self.invariant.3 in
    subst (λ (lines : List (List ℕ)). OnOk c.append_finish.result (c.append_finish.new.text ≡ c.args.text.now ++ lines_text lines))
    (finish_at dress all c.args.sheet (counted job.plan job.sheets (dress_in dress) all c.args.sheet is of c.requires)
    ∙ ap (λ (sheets : List DressedSheet). (slice_index_or sheets c.args.sheet no_sheet).finish) is)
    c.append_finish.ensures
