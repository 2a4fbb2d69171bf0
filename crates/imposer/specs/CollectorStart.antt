-- What the collector of a run begins with.
use Rattle.std.specs.Prelude.{◌≡◌, length}
use Rattle.rules.specs.Filters.{trailer_text}
use Rattle.rules.specs.MadeOutput.{dressed_preamble}
use Rattle.sheet_text.specs.Jobs.{JobView}
use Rattle.sheet_writer.specs.Writing.{AreEarly}
use Rattle.imposer.specs.declared.setup.CollectorParts.{CollectorParts}

-- it has the texts around the job's sheets, and each sheet on it has its own text
pub record ArePartsOf (job : JobView) (parts : CollectorParts) : Type 0 where
  pub header : parts.header.items ≡ dressed_preamble (length job.plan.sheets) job.header job.units
  pub trailer : parts.trailer.items ≡ trailer_text job.units
  pub early : AreEarly job parts.early.groups.items
