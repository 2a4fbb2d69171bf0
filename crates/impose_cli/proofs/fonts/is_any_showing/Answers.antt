use Rattle.std.proofs.Common.{◌≡◌, ◌<◌, [], false, length, rules, sym, true}
use Rattle.std.specs.Prelude.{slice_index_or}
use Rattle.rules.specs.Parts.{pages}
use Rattle.impose_cli.specs.Fonts.{shows_at_once}
use Rattle.impose_cli.proofs.SomePages.{any_at, none_more}
use Rattle.impose_cli.proofs.fonts.is_any_showing.Goals as goal

pub returns-then-shows_at_once : goal.returns-then-shows_at_once
returns-then-shows_at_once c =
    let ps = pages c.args.document.now in
    let few : c.loop-page.page < length ps = search rules in
    let shown : shows_at_once (slice_index_or ps c.loop-page.page []) ≡ true = search rules in
    sym (any_at shows_at_once ps c.loop-page.page [] few shown)

pub loop-page-preserved : goal.loop-page-preserved
loop-page-preserved c =
    let ps = pages c.args.document.now in
    let few : c.loop-page.page < length ps = search rules in
    let not_shown : shows_at_once (slice_index_or ps c.loop-page.page []) ≡ false = search rules in
    none_more shows_at_once ps c.loop-page.page [] few not_shown c.loop-page.invariant
