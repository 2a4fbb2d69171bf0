use Rattle.std.proofs.Common.{rules, ◌<◌, ◌≤◌, length, option_map, ◌∙◌}
use Rattle.dsc.specs.Fields.{fields_in}
use Rattle.rules.specs.Parts.{pages}
use Rattle.papers.proofs.PageBoxes.{box_there, no_page}
use Rattle.papers.proofs.reach.box_at.Goals as goal

pub returns-then-page-pages : goal.returns-then-page-pages
returns-then-page-pages c =
    let less : c.args.page < length (pages c.args.document.now) = search rules in
    c.page_box.ensures ∙ box_there (option_map (λ v. fields_in v.now) c.args.other) c.args.document.now c.args.page c.page.result.now less c.page.ensures.page

pub returns-else-page-pages : goal.returns-else-page-pages
returns-else-page-pages c =
    let past : length (pages c.args.document.now) ≤ c.args.page = search rules in
    no_page (option_map (λ v. fields_in v.now) c.args.other) c.args.document.now c.args.page past
