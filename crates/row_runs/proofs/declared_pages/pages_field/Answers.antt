use Rattle.std.proofs.Common.{◌∙◌, ap, sym, codes}
use Rattle.papers.specs.Media.{contents}
use Rattle.papers.proofs.Contents.{first_told, none_told}
use Rattle.row_runs.specs.DeclaredPages.{first_field}
use Rattle.row_runs.proofs.declared_pages.pages_field.Goals as goal

pub returns-in-Some : goal.returns-in-Some
returns-in-Some c = c.first_field.ensures ∙ ap first_field (sym (first_told (codes "%%Pages") (contents c.args.lines.now) _ _ c.in-Some.ensures))

pub returns-in-None : goal.returns-in-None
returns-in-None c = ap first_field (sym (none_told (codes "%%Pages") (contents c.args.lines.now) c.in-None.ensures))
