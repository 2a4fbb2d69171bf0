use Rattle.std.proofs.Common.{◌∙◌, sym}
use Rattle.rules.specs.Ranges.{pieces_of}
use Rattle.rules.specs.Choice.{most_entries, standing_from}
use Rattle.rows.specs.Tallies.{no_tally}
use Rattle.rows.proofs.Tallied.{are_tallied, are_read, no_range, not_there, too_many_there, all_there}
use Rattle.rows.proofs.tallies.entry_count.Goals as goal

pub returns-in-Err-clause-refused : goal.returns-in-Err-clause-refused
returns-in-Err-clause-refused c =
    no_range most_entries c.args.pages c.in-Err.at no_tally _ (standing_from 0 (pieces_of c.args.text.now)) (are_tallied most_entries c.args.pages 0 (pieces_of c.args.text.now) no_tally)
    (sym c.tally_ranges.ensures.value ∙ c.in-Err.is)

pub returns-in-Some-clause-refused : goal.returns-in-Some-clause-refused
returns-in-Some-clause-refused c =
    let read = are_read most_entries c.args.pages c.in-Ok.tally _ (standing_from 0 (pieces_of c.args.text.now)) (are_tallied most_entries c.args.pages 0 (pieces_of c.args.text.now) no_tally) (sym c.tally_ranges.ensures.value ∙ c.in-Ok.is) in
    not_there most_entries c.args.pages c.in-Some.at _ c.in-Ok.tally read c.in-Some.is

pub returns-in-Some-over-clause-refused : goal.returns-in-Some-over-clause-refused
returns-in-Some-over-clause-refused c =
    let read = are_read most_entries c.args.pages c.in-Ok.tally _ (standing_from 0 (pieces_of c.args.text.now)) (are_tallied most_entries c.args.pages 0 (pieces_of c.args.text.now) no_tally) (sym c.tally_ranges.ensures.value ∙ c.in-Ok.is) in
    too_many_there most_entries c.args.pages c.in-Some-over.at _ c.in-Ok.tally read c.in-None.is c.in-Some-over.is

pub returns-in-None-over-clause-row : goal.returns-in-None-over-clause-row
returns-in-None-over-clause-row c =
    let read = are_read most_entries c.args.pages c.in-Ok.tally _ (standing_from 0 (pieces_of c.args.text.now)) (are_tallied most_entries c.args.pages 0 (pieces_of c.args.text.now) no_tally) (sym c.tally_ranges.ensures.value ∙ c.in-Ok.is) in
    (all_there most_entries c.args.pages (pieces_of c.args.text.now) c.in-Ok.tally read c.in-None.is c.in-None-over.is).0

pub returns-in-None-over-clause-count : goal.returns-in-None-over-clause-count
returns-in-None-over-clause-count c =
    let read = are_read most_entries c.args.pages c.in-Ok.tally _ (standing_from 0 (pieces_of c.args.text.now)) (are_tallied most_entries c.args.pages 0 (pieces_of c.args.text.now) no_tally) (sym c.tally_ranges.ensures.value ∙ c.in-Ok.is) in
    (all_there most_entries c.args.pages (pieces_of c.args.text.now) c.in-Ok.tally read c.in-None.is c.in-None-over.is).1
