use Rattle.std.proofs.Common.{arith, false, sym, ap, subst, ◌≡◌, ◌<◌, ◌-◌, length}
use Rattle.rules.specs.Sheets.{Layout, layout as layout_of}
use Rattle.gather_table.specs.Homes.{IsHome}
use Rattle.gather_table.specs.Lanes.{lane}
use Rattle.gather_table.specs.Table.{is_wide}
use Rattle.gather_table.proofs.table.GatherTable.lane_of.Goals as goal

pub returns : goal.returns
returns c =
    let same = ap (λ t. t.layout) c.self.view_is in
    let layout = layout_of c.self.inside.table.shared.key in
    let below : c.args.sheet < length layout.sheets = subst (λ (p : Layout). c.args.sheet < length p.sheets) (sym same) c.requires.sheet in
    let slim : is_wide layout c.args.sheet ≡ false = subst (λ (p : Layout). is_wide p c.args.sheet ≡ false) (sym same) c.requires.narrow in
    let home : IsHome layout c.args.sheet c.index-home.result.now = subst (IsHome layout c.args.sheet) (sym c.index-home.ensures) (c.self.invariant.homes_are c.args.sheet _ below) in
    let word = (home.lane slim).0 in
    let first = (home.lane slim).1 in
    let pages = c.self.invariant.pages in
    let cut : c.index-home.result.now.word - c.self.inside.pages ≡ (lane layout c.args.sheet).word = omega arith in
    subst (λ (p : Layout). (c.index-home.result.now.word - c.self.inside.pages, c.index-home.result.now.first) ≡ ((lane p c.args.sheet).word, (lane p c.args.sheet).first)) same (λ i. (cut i, first i))
