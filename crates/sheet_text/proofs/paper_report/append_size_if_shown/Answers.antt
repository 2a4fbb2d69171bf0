use Rattle.std.specs.Prelude.{codes}
use Rattle.papers.specs.Reported.{size_text}
use Rattle.sheet_text.proofs.Appended.{line_of_three}
use Rattle.sheet_text.proofs.paper_report.append_size_if_shown.Goals as goal

pub returns : goal.returns
returns c =
    line_of_three c.args.text.now (codes "systemdict /setpagedevice known and {1 dict dup /PageSize [") (size_text c.args.paper.now) (codes "] put systemdict /setpagedevice get exec} if") _ _ _
    c.in_ok-append.ensures.appended c.in_ok-append_page_size.ensures c.in_ok-append-2.ensures.appended
