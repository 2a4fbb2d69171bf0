use Rattle.std.specs.Prelude.{◌++◌, codes}
use Rattle.rules.specs.Bytes.{line}
use Rattle.papers.specs.Reported.{setting_line, size_name}
use Rattle.sheet_text.proofs.Appended.{four}
use Rattle.sheet_text.proofs.paper_report.append_paper_report.Goals as goal

pub returns : goal.returns
returns c =
    four c.args.text.now (line (codes "%%PageMedia: " ++ size_name c.args.paper.now)) _ _ (line (setting_line c.args.paper.now)) _ _ _ _
    c.in_ok-append_medium.ensures c.in_ok-append.ensures.appended c.in_ok-append-2.ensures.appended c.in_ok-append_size_if_shown.ensures
