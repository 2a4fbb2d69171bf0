use Rattle.std.proofs.Common.{rules, ◌≡◌, ◌∙◌, ◌+◌, ap, ◌++◌}
use Rattle.pagespec.specs.Items.{item_of}
use Rattle.sheet_text.specs.PageNumbers.{corner_text, font_text, foot_text, shown_text}
use Rattle.sheet_text.proofs.Appended.{line_of}
use Rattle.sheet_text.proofs.numbers.append_number_line.Goals as goal

pub returns : goal.returns
returns c =
    let n = c.args.numbers.now in
    let item = item_of c.args.placed.now.item.now in
    let paper = c.args.placed.now.paper.now in
    let place = c.args.placed.now.page in
    let sum : c.from.result + c.from-2.result ≡ n.first + place = search rules in
    line_of c.args.text.now (font_text n.size) (corner_text paper item) (foot_text n.below paper item) (shown_text (n.first + place)) _ _ _ _ _
    c.in_ok-append_font.ensures c.in_ok-append_page_corner.ensures c.in_ok-append_foot.ensures
    (c.in_ok-append_shown.ensures ∙ ap (λ k. c.append_foot.new.text ++ shown_text k) sum) c.in_ok-append.ensures.appended
