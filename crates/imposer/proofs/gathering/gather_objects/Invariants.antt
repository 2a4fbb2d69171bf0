use Rattle.sheet_text.specs.Jobs.{text_of}
use Rattle.imposer.proofs.gathering.gather_objects.Given as goal

abbrev pub ghosts-gather : goal.ghosts-gather
ghosts-gather g a = record { text = text_of a.self.now.objects.job.now }
