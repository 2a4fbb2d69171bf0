use Rattle.std.proofs.Common.{rules, ◌≡◌, ◌∙◌, ◌<◌, ◌≤◌, ap, ap₂, length, map, Ok, subst, sym}
use Rattle.rules.specs.Choice.{most_entries}
use Rattle.row_runs.specs.Numbers.{paper_in, named_places_from}
use Rattle.row_runs.specs.Sheets.{leaves_in, row_chosen, row_printed, sewn}
use Rattle.row_runs.proofs.Places.{place_count, places_so}
use Rattle.row_runs.proofs.numbered.places_of.Goals as goal

pub printed-requires-clause-some : goal.printed-requires-clause-some
printed-requires-clause-some c =
    let row = c.in-Ok.row.items in
    let is : c.in_ok-named.named.items ≡ named_places_from 0 row = c.in_ok-named.ensures ∙ ap (named_places_from 0) c.as_slice-3.ensures.value in
    subst (λ n. 0 < n) (sym (ap length is ∙ place_count 0 row)) c.in-Ok.ensures.some

pub printed-requires-clause-few : goal.printed-requires-clause-few
printed-requires-clause-few c =
    let row = c.in-Ok.row.items in
    let is : c.in_ok-named.named.items ≡ named_places_from 0 row = c.in_ok-named.ensures ∙ ap (named_places_from 0) c.as_slice-3.ensures.value in
    subst (λ n. n ≤ most_entries) (sym (ap length is ∙ place_count 0 row)) c.in-Ok.ensures.few

pub returns-in-Ok-lay_row : goal.returns-in-Ok-lay_row
returns-in-Ok-lay_row c =
    let a = c.args.asked.now in
    let papers = c.args.papers.now in
    let row = c.in-Ok.row.items in
    let printed = c.as_slice-4.result.now in
    let is : c.in_ok-named.named.items ≡ named_places_from 0 row = c.in_ok-named.ensures ∙ ap (named_places_from 0) c.as_slice-3.ensures.value in
    let chosen : row_chosen c.args.pages a ≡ Ok row = search rules in
    let is_printed : printed ≡ row_printed a row = search rules in
    let many : c.leaves_in-leaves.result ≡ leaves_in (sewn a) row = search rules in
    let owned = c.as_slice-5.ensures.value ∙ c.in_ok-own.ensures ∙ ap₂ (λ o r. map (paper_in papers o) r) c.sheet_paper.ensures c.as_slice-2.ensures.value in
    let placed = c.as_slice-6.ensures.value ∙ c.in_ok-places.ensures ∙ ap (row_printed a) is in
    places_so c.args.pages papers a row printed c.as_slice-6.result.now c.as_slice-5.result.now c.leaves_in-leaves.result c.in-Ok-at_common_scale.laying c.in-Ok-lay_row.sheets
    chosen is_printed many c.in-Ok-at_common_scale.ensures.made owned placed c.in-Ok-lay_row.ensures.made
