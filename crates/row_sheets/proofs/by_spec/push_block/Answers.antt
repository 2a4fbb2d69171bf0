use Rattle.std.proofs.Common.{arith, ◌≡◌, ◌++◌, List, map, sym, ap, ◌∙◌, append-nil}
use Rattle.std.proofs.lemmas.List.{take_all}
use Rattle.rules.specs.Specification.{Item}
use Rattle.rules.specs.Made.{MadeSlot}
use Rattle.pagespec.specs.Items.{groups_of, item_of}
use Rattle.sheet_plan.specs.OfSheets.{slot_of}
use Rattle.row_sheets.specs.BySpec.{sheet_by, item_slot}
use Rattle.row_sheets.proofs.BlockByBlock.{group_more}
use Rattle.row_sheets.proofs.by_spec.push_block.Goals as goal

pub loop-group-init : goal.loop-group-init
loop-group-init c = sym (append-nil c.args.made.now)

pub loop-group-preserved : goal.loop-group-preserved
loop-group-preserved c =
    let on = c.args.on.now in
    let group = c.group-item.result in
    let slots : map slot_of c.as_slice-in-loop-group.result.now ≡ map (item_slot on.page on.row.now on.spec.now.modulo c.args.block) (map item_of group.items) =
    ap (map slot_of) c.as_slice-in-loop-group.ensures.value ∙ c.in_ok-fill_sheet.ensures ∙ ap (λ xs. map (item_slot on.page on.row.now on.spec.now.modulo c.args.block) (map item_of xs)) c.as_slice.ensures.value in
    group_more (sheet_by on.sheet on.page on.row.now on.spec.now.modulo c.args.block) c.groups-group-items.result.now c.loop-group.group-index group c.args.made.now c.loop-group.made c.push.new.self
    (record { paper = on.sheet; slots = map slot_of c.as_slice-in-loop-group.result.now }) c.loop-group-test.true c.group-item.is c.loop-group.invariant c.in_ok-push.ensures.pushed
    (ap (λ (xs : List MadeSlot). record { paper = on.sheet; slots = xs }) slots)

pub returns : goal.returns
returns c =
    let on = c.args.on.now in
    let sheet_of = sheet_by on.sheet on.page on.row.now on.spec.now.modulo c.args.block in
    c.loop-group.invariant
    ∙ ap (λ gs. c.args.made.now ++ map sheet_of (groups_of gs)) (take_all c.loop-group.group-index c.groups-group-items.result.now (omega (arith, c.loop-group-test.false)))
    ∙ ap (λ (gs : List (List Item)). c.args.made.now ++ map sheet_of gs) c.groups-group-items.ensures.items
