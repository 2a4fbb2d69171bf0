use Rattle.sheet_text.specs.Jobs.{text_of}
use Rattle.sheet_writer.specs.Writing.{HaveTexts}
use Rattle.test_runs.proofs.tests.groups.put_sheets.Given as goal

abbrev pub invariant-loop-sheet : goal.invariant-loop-sheet
invariant-loop-sheet g l = HaveTexts (text_of l.job) l.finished
