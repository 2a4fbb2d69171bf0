use Rattle.std.proofs.Common.{[], rules, sym}
use Rattle.rules.specs.Parts.{pages}
use Rattle.impose_cli.proofs.SomePages.{beyond}
use Rattle.impose_cli.proofs.fonts.page_or_nothing.Goals as goal

pub returns-else-page-pages : goal.returns-else-page-pages
returns-else-page-pages c = sym (beyond (pages c.args.document.now) c.args.page [] (search rules))
