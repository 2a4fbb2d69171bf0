use Rattle.std.proofs.Common.{arith, rules}
use Rattle.std.proofs.lemmas.Grind.{common_steps}
use Rattle.rules.specs.Signatures.{entry_of}
use Rattle.row_sheets.specs.Posters.{EntryMayBePoster}
use Rattle.row_sheets.proofs.Filling.{one_more}
use Rattle.row_sheets.proofs.poster_rows.tiles_of_row.Goals as goal

pub loop-entry-preserved : goal.loop-entry-preserved
loop-entry-preserved c = record {
  made = grind (arith, common_steps);
  fits = one_more (λ i. EntryMayBePoster c.args.poster.now c.args.papers.now (entry_of c.args.row.now i)) c.loop-entry.entry-index c.loop-entry.invariant.fits (search rules);
}
