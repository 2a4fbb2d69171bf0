use Rattle.std.proofs.Common.{inl, refl}
use Rattle.row_sheets.proofs.Refused.{posters_none}
use Rattle.row_sheets.proofs.poster_rows.first_refusal.Goals as goal

pub returns-in-Ok : goal.returns-in-Ok
returns-in-Ok c = inl (refl, posters_none c.args.poster.now c.args.papers.now c.args.row.now c.in-Ok.ensures.possible)
