use Rattle.std.proofs.Common.{sym, ap, ◌∙◌}
use Rattle.sheet_plan.proofs.Entries.{page_named, entry_shown, entry_hidden}
use Rattle.sheet_plan.proofs.row.Row.page_at.Goals as goal
use Rattle.sheet_plan.proofs.row.Row.page_at.Goals.{in-Some, in-None}

pub returns-then-page-self : goal.returns-then-page-self
returns-then-page-self c =
    entry_shown c.args.self.sides c.args.self.pages c.args.entry c.match-self.page c.requires.sides
    (elim c.match-self.branch [
      | in-Some w ↦ w.page-is ∙ w.page_of_entry-page.ensures ∙ ap (λ s. page_named s c.args.entry) (sym w.in-Some.is)
      | in-None w ↦ w.page-is ∙ ap (λ s. page_named s c.args.entry) (sym w.in-None.is)
    ])
    c.if-page-self.true

pub returns-else-page-self : goal.returns-else-page-self
returns-else-page-self c =
    entry_hidden c.args.self.sides c.args.self.pages c.args.entry c.match-self.page c.requires.sides
    (elim c.match-self.branch [
      | in-Some w ↦ w.page-is ∙ w.page_of_entry-page.ensures ∙ ap (λ s. page_named s c.args.entry) (sym w.in-Some.is)
      | in-None w ↦ w.page-is ∙ ap (λ s. page_named s c.args.entry) (sym w.in-None.is)
    ])
    c.if-page-self.false
